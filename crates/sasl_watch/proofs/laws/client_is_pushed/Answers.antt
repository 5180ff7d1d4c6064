use Rattle.sasl_watch.proofs.Followed.{client-pushed}
use Rattle.sasl_watch.proofs.laws.client_is_pushed.Goals as goal

pub returns : goal.returns
returns c = client-pushed
