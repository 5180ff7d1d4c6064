use Rattle.std.proofs.Common.{◌≡◌, ◌&&◌, drop, nat_lt}
use Rattle.std.specs.List.{list_all}
use Rattle.dbus_values.proofs.basic.has_no_nul.Given as goal

abbrev pub invariant-loop-byte : goal.invariant-loop-byte
invariant-loop-byte l = (l.is_good && list_all (nat_lt 0) (drop l.byte-index l.text)) ≡ list_all (nat_lt 0) l.text
