use Rattle.policy_view.proofs.CutLaws.{any_cut_gives}
use Rattle.policy_view.proofs.cuts_change_no_bytes.Goals as goal

pub returns : goal.returns
returns c = any_cut_gives
