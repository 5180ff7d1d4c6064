use Rattle.policy_within.proofs.Covers.{AreCompared}
use Rattle.policy_within.proofs.compare.compare.Given as goal

abbrev pub invariant-loop-index : goal.invariant-loop-index
invariant-loop-index l = AreCompared l.inner l.outer l.index l.covered.items
