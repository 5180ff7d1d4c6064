use Rattle.std.proofs.Common.{subst}
use Rattle.proxy_net.specs.Naming.{other_of}
use Rattle.proxy_net.specs.Sockets.{IsJudgedAt}
use Rattle.proxy_net.proofs.sockets.SocketSet.shut.Goals as goal

pub returns-clause-judged : goal.returns-clause-judged
returns-clause-judged g c = subst (λ n. IsJudgedAt c.settle.new.self (other_of n)) c.number_of.ensures.number c.settle.ensures.judged
