use Rattle.std.proofs.Common.{arith}
use Rattle.std.specs.VecDeque.{deque_len, deque_capacity}
use Rattle.proxy_net.proofs.Room.{listener_fits}
use Rattle.std.proofs.Common.{Option, length, refl, subst, sym}
use Rattle.std.proofs.lemmas.Option.{slice_get_read}
use Rattle.proxy_net.specs.Sockets.{file_in}
use Rattle.proxy_net.specs.Steps.{Steps, IsFileRemoval}
use Rattle.proxy_net.specs.declared.listeners.ListenerSocket.{ListenerSocket}
use Rattle.proxy_net.proofs.sockets.SocketSet.remove_file.Goals as goal

pub invariant_of-self : goal.invariant_of-self
invariant_of-self g c =
    let sockets = c.args.self.now in
    record {
      room = listener_fits 0 (deque_len sockets.ready) (deque_capacity sockets.ready) sockets.listeners.items sockets.links.entries sockets.room
          0 (deque_len sockets.ready) (deque_capacity sockets.ready) _ c.in-Some.socket.now _ c.in-Some.ensures.item.3.0 c.in-Some.ensures.value (grind (arith, c.remove_file.ensures.rest)) (omega arith);
    }

pub returns-in-Some-clause-told : goal.returns-in-Some-clause-told
returns-in-Some-clause-told g c =
    let items = c.args.self.now.listeners.items in
    let found = slice_get_read items (length items) _ c.in-Some.socket.now refl c.in-Some.ensures.item.3.0 c.in-Some.ensures.value in
    subst (λ (o : Option (ListenerSocket _)). Steps (IsFileRemoval (file_in o)) (g.S.Sockets.journal c.args.system.now) (g.S.Sockets.journal c.remove_file.new.system)) (sym found) c.remove_file.ensures.told
