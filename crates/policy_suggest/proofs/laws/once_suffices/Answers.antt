use Rattle.policy_suggest.proofs.OnceSuffices.{suggested-once}
use Rattle.policy_suggest.proofs.laws.once_suffices.Goals as goal

pub returns : goal.returns
returns c = λ all are. suggested-once all are
