use Rattle.sasl_watch.proofs.Followed.{bus-pushed}
use Rattle.sasl_watch.proofs.laws.bus_is_pushed.Goals as goal

pub returns : goal.returns
returns c = bus-pushed
