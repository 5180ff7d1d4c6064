use Rattle.sasl_watch.proofs.Followed.{client-starts}
use Rattle.sasl_watch.proofs.laws.client_starts.Goals as goal

pub returns : goal.returns
returns c = client-starts
