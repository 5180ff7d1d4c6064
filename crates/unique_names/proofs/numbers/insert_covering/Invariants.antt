use Rattle.std.proofs.Common.{◌≡◌, ◌≤◌, ◌+◌, true, [], length, vec_capacity, vec_len}
use Rattle.unique_names.specs.Inserted.{ascends_from, missing_in, with_numbers}
use Rattle.unique_names.specs.Merged.{look_ups, merged_from}
use Rattle.unique_names.proofs.numbers.insert_covering.Given as goal

abbrev pub invariant-loop-number : goal.invariant-loop-number
invariant-loop-number g l = record {
  named : l.entries.name ≡ l.name;
  ascending : ascends_from 1 l.numbers.items ≡ true;
  later : ascends_from 1 l.entries.numbers ≡ true;
  room : vec_len l.numbers + missing_in l.numbers.items l.entries.numbers ≤ vec_capacity l.numbers;
  inserted : with_numbers l.entries.numbers l.numbers.items ≡ with_numbers (merged_from l.name 1 l.policy.entries []) l.initial.numbers.items;
  cost : l.steps + look_ups l.name l.entries.numbers ≤ l.initial.steps + look_ups l.name (merged_from l.name 1 l.policy.entries []);
}

abbrev pub decreases-loop-number : goal.decreases-loop-number
decreases-loop-number g l = length l.entries.numbers
