use Rattle.sasl_watch.proofs.Followed.{bus-next}
use Rattle.sasl_watch.proofs.laws.bus_next_is_given.Goals as goal

pub returns : goal.returns
returns c = bus-next
