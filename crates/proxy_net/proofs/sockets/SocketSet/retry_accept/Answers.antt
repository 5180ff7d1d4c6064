use Rattle.std.proofs.Common.{ℕ, ◌≡◌, ◌+◌, ◌∙◌, true, false, Option, Some, ap, sym, length, refl, slice_get, unwrap_or, Vec, Global, arith}
use Rattle.std.specs.Option.{option_map}
use Rattle.std.specs.Ordering.{nat_cmp}
use Rattle.std.specs.BTreeMap as tree
use Rattle.std.specs.BTreeMap.{BTreeMap}
use Rattle.proxy_net.specs.Delays.{is_accept_due}
use Rattle.proxy_net.specs.Noting.{is_link_noted, is_listener_noted}
use Rattle.proxy_net.specs.declared.link_sockets.LinkSocket.{LinkSocket}
use Rattle.proxy_net.proofs.Judging.{none_there}
use Rattle.proxy_net.proofs.Retrying.{due_same}
use Rattle.std.proofs.lemmas.Option.{slice_get_read}
use Rattle.proxy_net.specs.Registering.{listeners_from}
use Rattle.proxy_net.specs.Sockets.{has_place}
use Rattle.proxy_net.specs.declared.listeners.ListenerSocket.{ListenerSocket}
use Rattle.proxy_net.proofs.Written.{listener_goes, still_queued, at_each}
use Rattle.std.specs.VecDeque.{deque_len, deque_capacity}
use Rattle.proxy_net.proofs.Room.{listener_fits}
use Rattle.proxy_net.proofs.sockets.SocketSet.retry_accept.Goals as goal

pub invariant_of-self : goal.invariant_of-self
invariant_of-self g c =
    let sockets = c.args.self.now in
    record {
      room = listener_fits 0 (deque_len sockets.ready) (deque_capacity sockets.ready) sockets.listeners.items sockets.links.entries sockets.room
          0 (deque_len sockets.ready) (deque_capacity sockets.ready) _ c.in-Some.socket.now _ c.in-Some.ensures.item.3.0 c.in-Some.ensures.value (grind (arith, c.retry-is_new.ensures.queued, c.retry-is_new.ensures.other, c.retry-is_new.ensures.due)) (omega arith);
    }

pub queue-requires : goal.queue-requires
queue-requires g c = λ is_new.
    let sockets = c.args.self.now in
    listener_fits 0 (deque_len sockets.ready) (deque_capacity sockets.ready) sockets.listeners.items sockets.links.entries sockets.room
    1 (deque_len sockets.ready) (deque_capacity sockets.ready) _ c.in-Some.socket.now _ c.in-Some.ensures.item.3.0 c.in-Some.ensures.value (grind (arith, is_new, c.retry-is_new.ensures.queued, c.retry-is_new.ensures.other, c.retry-is_new.ensures.due)) (omega arith)

pub returns-in-Some-clause-goes : goal.returns-in-Some-clause-goes
returns-in-Some-clause-goes g c =
    let sockets = c.args.self.now in
    let items = sockets.listeners.items in
    let found = slice_get_read items (length items) _ c.in-Some.socket.now refl c.in-Some.ensures.item.3.0 c.in-Some.ensures.value in
    listener_goes sockets c.queue.new.self c.args.place c.in-Some.socket.now c.retry-is_new.new.self found (ap (λ (v : Vec (ListenerSocket _) Global). v.items) c.queue.ensures.listeners)
    c.queue.ensures.links (ap (λ (d : _). d.items) c.queue.ensures.pending) c.queue.ensures.own c.queue.ensures.waits c.queue.ensures.absent c.queue.ensures.sessions
    (grind (arith, c.retry-is_new.ensures.rest)) (ap (λ (s : ListenerSocket _). s.listener) c.retry-is_new.ensures.rest) (ap (λ (s : ListenerSocket _). s.file) c.retry-is_new.ensures.rest) c.retry-is_new.ensures.placed (λ other _. c.queue.ensures.kept other)
    (still_queued c.in-Some.socket.now c.retry-is_new.new.self (has_place sockets (listeners_from + c.args.place)) (has_place c.queue.new.self (listeners_from + c.args.place)) c.retry-is_new.result
    (λ e. c.queue.ensures.placed e) (c.queue.ensures.kept (listeners_from + c.args.place)) c.retry-is_new.ensures.stays)

pub returns-in_default-clause-retried : goal.returns-in_default-clause-retried
returns-in_default-clause-retried g c = none_there (is_accept_due c.args.now) c.args.self.now.listeners.items c.args.place (grind (arith, c.in_default.ensures.variant))

pub returns-in-Some-clause-others : goal.returns-in-Some-clause-others
returns-in-Some-clause-others g c = λ other early.
    let items = c.args.self.now.listeners.items in
    let found = slice_get_read items (length items) _ c.in-Some.socket.now refl c.in-Some.ensures.item.3.0 c.in-Some.ensures.value in
    ap (λ (v : Vec (ListenerSocket _) Global). slice_get v.items other) c.queue.ensures.listeners
    ∙ at_each (λ n (o : Option (ListenerSocket _)). unwrap_or (option_map (is_accept_due c.args.now) (slice_get items n)) false ≡ false → o ≡ slice_get items n) items c.args.place c.in-Some.socket.now c.retry-is_new.new.self found
    (λ _ e. ap some_listener (c.retry-is_new.ensures.other (sym (due_same c.args.now found) ∙ e)) ∙ sym found) other (λ _. refl) early
  where
    some_listener : {L : Type 0} → ListenerSocket L → Option (ListenerSocket L)
    some_listener s = Some s

pub returns-in-Some-clause-kept : goal.returns-in-Some-clause-kept
returns-in-Some-clause-kept g c =
    let items = c.args.self.now.listeners.items in
    let found = slice_get_read items (length items) _ c.in-Some.socket.now refl c.in-Some.ensures.item.3.0 c.in-Some.ensures.value in
    record {
      links = λ number readable writable ending noted. ap (λ (m : BTreeMap ℕ (LinkSocket _)). is_link_noted readable writable ending (tree.get nat_cmp m number)) c.queue.ensures.links ∙ noted;
      listeners = λ place noted. ap (λ (v : Vec (ListenerSocket _) Global). is_listener_noted (slice_get v.items place)) c.queue.ensures.listeners
          ∙ at_each (λ _ o. is_listener_noted o ≡ true) items c.args.place c.in-Some.socket.now c.retry-is_new.new.self found c.retry-is_new.ensures.noted place noted;
    }
