use Rattle.policy_view.proofs.ElementLaws.{told_history}
use Rattle.policy_view.proofs.elements_tell_the_part.Goals as goal

pub returns : goal.returns
returns c = told_history
