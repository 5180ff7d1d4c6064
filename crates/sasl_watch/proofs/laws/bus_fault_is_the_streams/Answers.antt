use Rattle.sasl_watch.proofs.Followed.{told-fault}
use Rattle.sasl_watch.proofs.laws.bus_fault_is_the_streams.Goals as goal

pub returns : goal.returns
returns c = λ pushed given w f s e. told-fault pushed given w s f e
