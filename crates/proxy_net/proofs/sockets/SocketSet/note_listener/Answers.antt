use Rattle.std.proofs.Common.{◌≡◌, ◌+◌, ◌-◌, ◌∙◌, nat_eq, false, Option, Vec, Global, slice_get, length, ap, refl, arith}
use Rattle.std.specs.VecDeque.{deque_len, deque_capacity}
use Rattle.std.proofs.lemmas.Bool.Decides.{nat_tests}
use Rattle.std.proofs.lemmas.Option.{slice_get_read}
use Rattle.proxy_net.specs.Registering.{listeners_from}
use Rattle.proxy_net.specs.declared.listeners.ListenerSocket.{ListenerSocket}
use Rattle.proxy_net.proofs.Room.{listener_fits}
use Rattle.proxy_net.proofs.Written.{at_each}
use Rattle.proxy_net.proofs.sockets.SocketSet.note_listener.Goals as goal

pub invariant_of-self : goal.invariant_of-self
invariant_of-self g c =
    let sockets = c.args.self.now in
    record {
      room = listener_fits 0 (deque_len sockets.ready) (deque_capacity sockets.ready) sockets.listeners.items sockets.links.entries sockets.room
          0 (deque_len sockets.ready) (deque_capacity sockets.ready) _ c.in-Some.socket.now _ c.in-Some.ensures.item.3.0 c.in-Some.ensures.value (grind (arith, c.note-is_new.ensures.queued, c.note-is_new.ensures.noted)) (omega arith);
    }

pub queue-requires : goal.queue-requires
queue-requires g c = λ is_new.
    let sockets = c.args.self.now in
    listener_fits 0 (deque_len sockets.ready) (deque_capacity sockets.ready) sockets.listeners.items sockets.links.entries sockets.room
    1 (deque_len sockets.ready) (deque_capacity sockets.ready) _ c.in-Some.socket.now _ c.in-Some.ensures.item.3.0 c.in-Some.ensures.value (grind (arith, is_new, c.note-is_new.ensures.queued, c.note-is_new.ensures.noted)) (omega arith)

pub returns-in-Some-clause-others : goal.returns-in-Some-clause-others
returns-in-Some-clause-others g c =
    let items = c.args.self.now.listeners.items in
    let found = slice_get_read items (length items) _ c.in-Some.socket.now refl c.in-Some.ensures.item.3.0 c.in-Some.ensures.value in
    record {
      each = λ place unreported. ap (λ (v : Vec (ListenerSocket _) Global). slice_get v.items place) c.queue.ensures.listeners
          ∙ at_each (λ n (o : Option (ListenerSocket _)). nat_eq c.args.number (listeners_from + n) ≡ false → o ≡ slice_get items n) items (c.args.number - listeners_from) c.in-Some.socket.now c.note-is_new.new.self found
          (λ _ e. absurd (grind (arith, nat_tests, e, c.requires))) place (λ _. refl) unreported;
    }
