use Rattle.policy_suggest.proofs.Suggested.{suggested-least}
use Rattle.policy_suggest.proofs.laws.suggested_is_least.Goals as goal

pub returns : goal.returns
returns c = λ all policy are grammar permitting. suggested-least all policy are grammar permitting
