use Rattle.std.proofs.Common.{◌≡◌, ◌≤◌, ◌+◌, true, [], length}
use Rattle.unique_names.specs.Inserted.{ascends_from, missing_in}
use Rattle.unique_names.specs.Merged.{look_ups, merged_from}
use Rattle.unique_names.proofs.numbers.count_missing.Given as goal

-- the numbers that remain are greater than their count so far
abbrev pub invariant-loop-number : goal.invariant-loop-number
invariant-loop-number g l = record {
  named : l.entries.name ≡ l.name;
  ascending : ascends_from (l.count + 1) l.entries.numbers ≡ true;
  counted : l.count + missing_in l.numbers l.entries.numbers ≡ missing_in l.numbers (merged_from l.name 1 l.policy.entries []);
  cost : l.steps + look_ups l.name l.entries.numbers ≤ l.fn.steps + look_ups l.name (merged_from l.name 1 l.policy.entries []);
}

abbrev pub decreases-loop-number : goal.decreases-loop-number
decreases-loop-number g l = length l.entries.numbers
