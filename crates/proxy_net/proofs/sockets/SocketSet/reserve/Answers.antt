use Rattle.std.proofs.Common.{arith}
use Rattle.std.proofs.lemmas.Result.{on_ok_weaker}
use Rattle.std.specs.VecDeque.{deque_len, deque_capacity}
use Rattle.proxy_net.proofs.Room.{all_fit}
use Rattle.proxy_net.proofs.sockets.SocketSet.reserve.Goals as goal

pub returns-clause-room : goal.returns-clause-room
returns-clause-room g c =
    let sockets = c.args.self.now in
    on_ok_weaker c.reserve.result (λ enough. all_fit 1 (deque_len c.reserve.new.self) sockets.listeners.items sockets.links.entries (deque_capacity c.reserve.new.self)
    (omega (arith, enough, c.len.ensures.len, c.len.ensures.small, c.len-2.ensures, c.saturating_add-most.ensures, c.saturating_add.ensures, c.reserve.ensures.len, sockets.listeners.small, sockets.listeners.ok))) c.reserve.ensures.ok
