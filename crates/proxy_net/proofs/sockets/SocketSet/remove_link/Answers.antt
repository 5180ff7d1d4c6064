use Rattle.std.specs.VecDeque.{deque_len, deque_capacity}
use Rattle.proxy_net.proofs.Room.{removed_fits}
use Rattle.proxy_net.proofs.sockets.SocketSet.remove_link.Goals as goal

pub invariant_of-self : goal.invariant_of-self
invariant_of-self g c =
    let sockets = c.args.self.now in
    record { room = removed_fits 0 (deque_len sockets.ready) (deque_capacity sockets.ready) sockets.listeners.items sockets.links.entries sockets.room _ _ c.remove.ensures.entries }
