use Rattle.proxy_net.specs.Delays.{nanos_of}
use Rattle.proxy_net.proofs.sockets.SocketSet.ask.Goals as goal

pub returns-clause-told : goal.returns-clause-told
returns-clause-told g c = (nanos_of c.timeout-timeout.result, record { busy = c.timeout-timeout.ensures.busy; idle = c.timeout-timeout.ensures.until }, c.wait.ensures.told)
