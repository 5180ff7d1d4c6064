use Rattle.std.proofs.Common.{◌≡◌, [], drop}
use Rattle.policy_suggest.specs.Facts.{gathered}
use Rattle.policy_suggest.proofs.facts.Facts.targets.Given as goal

abbrev pub invariant-loop-request : goal.invariant-loop-request
invariant-loop-request l = gathered l.self l.targets (drop l.request-index l.asked) ≡ gathered l.self [] l.asked
