use Rattle.sasl_watch.proofs.Followed.{bus-again}
use Rattle.sasl_watch.proofs.laws.bus_fault_is_told_again.Goals as goal

pub returns : goal.returns
returns c = bus-again
