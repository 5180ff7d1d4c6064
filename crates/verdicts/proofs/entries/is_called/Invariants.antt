use Rattle.std.proofs.Common.{◌≡◌, ◌≤◌, ◌+◌, length}
use Rattle.std.specs.List.{list_any}
use Rattle.policy_view.specs.Verdicts.{calls_methods, entry_passes}
use Rattle.verdicts.specs.Entries.{entry_steps}
use Rattle.verdicts.proofs.entries.is_called.Given as goal

-- whether one passes depends on the numbers that are left
abbrev pub invariant-loop-number : goal.invariant-loop-number
invariant-loop-number g l = record {
  called : list_any (entry_passes l.policy calls_methods) l.numbers.numbers ≡ list_any (entry_passes l.policy calls_methods) l.fn.numbers.numbers;
  cost : l.steps + entry_steps l.numbers ≤ l.fn.steps + entry_steps l.fn.numbers;
}

abbrev pub decreases-loop-number : goal.decreases-loop-number
decreases-loop-number g l = length l.numbers.numbers
