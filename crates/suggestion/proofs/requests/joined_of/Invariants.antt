use Rattle.std.proofs.Common.{◌≡◌, drop}
use Rattle.suggestion.specs.Requests.{joined, joined_on}
use Rattle.suggestion.proofs.requests.joined_of.Given as goal

abbrev pub invariant-loop-others : goal.invariant-loop-others
invariant-loop-others l = joined_on l.requests (drop l.others-index l.all) ≡ joined l.all
