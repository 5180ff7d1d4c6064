use Rattle.sasl_watch.proofs.Followed.{client-next}
use Rattle.sasl_watch.proofs.laws.client_next_is_given.Goals as goal

pub returns : goal.returns
returns c = client-next
