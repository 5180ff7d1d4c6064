use Rattle.std.proofs.Common.{◌≡◌, ◌≤◌, ◌-◌, ◌++◌, length, take, drop}
use Rattle.policy_within.specs.Steps.{with_number}
use Rattle.policy_within.proofs.cover.add.Given as goal

abbrev pub invariant-loop-place : goal.invariant-loop-place
invariant-loop-place l = record {
  within : l.place ≤ length l.numbers.items;
  is : with_number l.number l.numbers.items ≡ take l.place l.numbers.items ++ with_number l.number (drop l.place l.numbers.items);
}

abbrev pub decreases-loop-place : goal.decreases-loop-place
decreases-loop-place l = length l.numbers.items - l.place
