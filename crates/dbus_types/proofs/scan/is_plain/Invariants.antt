use Rattle.std.proofs.Common.{◌≡◌, ◌≤◌, drop}
use Rattle.dbus_types.specs.Plain.{is_plain}
use Rattle.dbus_types.proofs.scan.is_plain.Given as goal

abbrev pub invariant-loop-byte : goal.invariant-loop-byte
invariant-loop-byte l = record {
  same : is_plain l.arrays (drop l.byte-index l.bytes) ≡ is_plain 0 l.bytes;
  within : l.arrays ≤ 32;
}
