use Rattle.sasl_watch.proofs.LinesGrow.{client_fault-stays, bus_fault-stays}
use Rattle.sasl_watch.proofs.laws.line_faults_stay.Goals as goal

pub returns-clause-client : goal.returns-clause-client
returns-clause-client c = λ stream more f e. let stays = client_fault-stays stream more f e in (stays.1, stays.0)

pub returns-clause-bus : goal.returns-clause-bus
returns-clause-bus c = λ n begun stream more f e. let stays = bus_fault-stays n begun stream more f e in (stays.fault, stays.lines)
