use Rattle.std.proofs.Common.{◌≡◌}
use Rattle.policy_within.proofs.Covers.{AreTaken}
use Rattle.policy_within.proofs.cover.cover.Given as goal

abbrev pub invariant-loop-index : goal.invariant-loop-index
invariant-loop-index l = record {
  same : l.points.items ≡ l.initial.points.items;
  taken : AreTaken l.policy l.points.items l.index l.numbers.items;
}
