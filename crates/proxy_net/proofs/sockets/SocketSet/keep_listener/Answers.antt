use Rattle.std.proofs.Common.{is_ok}
use Rattle.std.specs.VecDeque.{deque_len, deque_capacity}
use Rattle.proxy_net.proofs.Room.{listener_made_fits}
use Rattle.proxy_net.proofs.sockets.SocketSet.keep_listener.Goals as goal

pub invariant_of-self : goal.invariant_of-self
invariant_of-self g c =
    let sockets = c.args.self.now in
    record { room = listener_made_fits 0 (deque_len sockets.ready) (deque_capacity sockets.ready) sockets.listeners.items sockets.links.entries c.requires.room (is_ok c.push.result) _ _ c.push.ensures.items }
