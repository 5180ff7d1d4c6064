use Rattle.sasl_watch.proofs.Followed.{bus-starts}
use Rattle.sasl_watch.proofs.laws.bus_starts.Goals as goal

pub returns : goal.returns
returns c = bus-starts
