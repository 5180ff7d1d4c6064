use Rattle.policy_suggest.proofs.Suggested.{permits-all}
use Rattle.policy_suggest.proofs.laws.suggested_permits_all.Goals as goal

pub returns : goal.returns
returns c = λ all are. permits-all all are
