use Rattle.std.proofs.Common.{◌≡◌, ◌≤◌, ◌+◌, length}
use Rattle.std.specs.List.{list_any}
use Rattle.dbus_header.specs.Contents.{message_in}
use Rattle.policy_view.specs.Shown.{broadcast_matches}
use Rattle.policy_view.specs.Verdicts.{entry_passes}
use Rattle.verdicts.specs.Entries.{entry_steps}
use Rattle.verdicts.proofs.entries.is_announced.Given as goal

-- whether one passes depends on the numbers that are left
abbrev pub invariant-loop-number : goal.invariant-loop-number
invariant-loop-number g l = record {
  announced : list_any (entry_passes l.policy (broadcast_matches (message_in l.message.bytes.now))) l.numbers.numbers
      ≡ list_any (entry_passes l.policy (broadcast_matches (message_in l.message.bytes.now))) l.fn.numbers.numbers;
  cost : l.steps + entry_steps l.numbers ≤ l.fn.steps + entry_steps l.fn.numbers;
}

abbrev pub decreases-loop-number : goal.decreases-loop-number
decreases-loop-number g l = length l.numbers.numbers
