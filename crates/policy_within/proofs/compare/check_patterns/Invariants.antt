use Rattle.std.proofs.Common.{◌≡◌, true, take}
use Rattle.policy_within.specs.Apart.{are_patterns}
use Rattle.policy_within.proofs.compare.check_patterns.Given as goal

abbrev pub invariant-loop-index : goal.invariant-loop-index
invariant-loop-index l = are_patterns (take l.index l.policy.entries) ≡ true
