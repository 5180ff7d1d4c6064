use Rattle.std.proofs.Common.{◌≡◌, ◌≤◌, ◌+◌, true, length}
use Rattle.dbus_names.specs.Elements.{element_count}
use Rattle.dbus_names.proofs.OnePass.{count_from}
use Rattle.dbus_names.proofs.count_elements.Given as goal

abbrev pub invariant-loop-left : goal.invariant-loop-left
invariant-loop-left l = record {
  counted : count_from l.first l.rest l.separator true l.count l.left ≡ element_count l.first l.rest l.separator l.text;
  within : l.count + length l.left ≤ length l.text;
}

abbrev pub decreases-loop-left : goal.decreases-loop-left
decreases-loop-left l = length l.left
