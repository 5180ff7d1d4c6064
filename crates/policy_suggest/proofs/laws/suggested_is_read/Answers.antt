use Rattle.policy_suggest.proofs.EntriesRead.{suggested-read}
use Rattle.policy_suggest.proofs.laws.suggested_is_read.Goals as goal

pub returns : goal.returns
returns c = λ all are most. suggested-read all are most
