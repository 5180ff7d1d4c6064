use Rattle.std.proofs.Common.{◌≡◌}
use Rattle.std.specs.VecDeque.{deque_len}
use Rattle.proxy_net.specs.Sockets.{GoesOn, KeepsReports, KeepsStalls}
use Rattle.proxy_net.proofs.sockets.SocketSet.next.Given as goal

abbrev pub invariant-loop-self : goal.invariant-loop-self
invariant-loop-self g l = record { goes : GoesOn l.fn.self l.self; reports : KeepsReports l.fn.self l.self; stalls : KeepsStalls l.fn.self l.self; named : l.self.named ≡ l.fn.self.named }

abbrev pub decreases-loop-self : goal.decreases-loop-self
decreases-loop-self g l = deque_len l.self.ready
