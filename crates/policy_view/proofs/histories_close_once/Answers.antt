use Rattle.policy_view.proofs.Closings.{closes_first}
use Rattle.policy_view.proofs.histories_close_once.Goals as goal

pub returns : goal.returns
returns c = closes_first
