use Rattle.sasl_watch.proofs.Followed.{client-again}
use Rattle.sasl_watch.proofs.laws.client_fault_is_told_again.Goals as goal

pub returns : goal.returns
returns c = client-again
