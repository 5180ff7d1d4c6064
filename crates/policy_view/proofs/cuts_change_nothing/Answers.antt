use Rattle.policy_view.proofs.CutLaws.{any_cut}
use Rattle.policy_view.proofs.cuts_change_nothing.Goals as goal

pub returns : goal.returns
returns c = any_cut
