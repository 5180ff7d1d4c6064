use Rattle.std.proofs.Common.{◌≡◌, ◌≤◌, ◌+◌, length, drop, Some}
use Rattle.dbus_types.specs.Scan.{scan_back}
use Rattle.dbus_types.specs.Places.{levels_at}
use Rattle.dbus_types.proofs.scan.fault_by_levels.Given as goal

abbrev pub invariant-loop-index : goal.invariant-loop-index
invariant-loop-index l = record {
  levels : scan_back (drop l.index l.bytes) ≡ Some (levels_at l.outer l.place);
  within : l.place.depth + l.index ≤ length l.bytes;
}

abbrev pub decreases-loop-index : goal.decreases-loop-index
decreases-loop-index l = l.index
