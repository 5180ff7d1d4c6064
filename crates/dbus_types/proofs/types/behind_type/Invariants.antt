use Rattle.std.proofs.Common.{◌≡◌, ◌≤◌, drop}
use Rattle.dbus_types.specs.Behind.{behind}
use Rattle.dbus_types.proofs.types.behind_type.Given as goal

abbrev pub invariant-loop-index : goal.invariant-loop-index
invariant-loop-index l = record {
  same : behind l.brackets (drop l.index l.types) ≡ behind 0 l.types;
  within : l.brackets ≤ l.index;
}
