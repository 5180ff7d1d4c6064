use Rattle.policy_view.proofs.Decisions.{decide_alike}
use Rattle.policy_view.proofs.decisions_rest_on_what_is_known.Goals as goal

pub returns : goal.returns
returns c = decide_alike
