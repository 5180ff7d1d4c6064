use Rattle.std.proofs.Common.{◌≡◌, drop}
use Rattle.policy_suggest.specs.Facts.{facts_of, noted_all}
use Rattle.policy_suggest.proofs.facts.Facts.of.Given as goal

abbrev pub invariant-loop-request : goal.invariant-loop-request
invariant-loop-request l = noted_all l.facts (drop l.request-index l.asked) ≡ facts_of l.asked
