use Rattle.std.proofs.Common.{◌∙◌, sym, ℕ, ◌+◌, ap, Vec, Global, arith, length, refl, vec_len}
use Rattle.std.specs.VecDeque.{deque_len, deque_capacity}
use Rattle.std.specs.BTreeMap.{BTreeMap}
use Rattle.proxy_net.specs.Registering.{listeners_from}
use Rattle.proxy_net.specs.Sockets.{has_place}
use Rattle.proxy_net.specs.Room.{unqueued_links, unqueued_listeners}
use Rattle.proxy_net.specs.declared.link_sockets.LinkSocket.{LinkSocket}
use Rattle.proxy_net.specs.declared.listeners.ListenerSocket.{ListenerSocket}
use Rattle.std.proofs.lemmas.Option.{slice_get_read}
use Rattle.proxy_net.proofs.Written.{listener_goes, still_queued}
use Rattle.proxy_net.proofs.Room.{listener_fits}
use Rattle.std.proofs.Common.{subst}
use Rattle.proxy_net.specs.Steps.{Steps, IsArrival}
use Rattle.proxy_net.proofs.Listening.{arrived_at, own_number}
use Rattle.proxy_net.proofs.Telling.{steps_weaker}
use Rattle.proxy_net.proofs.sockets.SocketSet.accept_at.Goals as goal

pub invariant_of-self : goal.invariant_of-self
invariant_of-self g c =
    let sockets = c.args.self.now in
    record {
      room = listener_fits 0 (deque_len sockets.ready) (deque_capacity sockets.ready) sockets.listeners.items sockets.links.entries sockets.room
          0 (deque_len sockets.ready) (deque_capacity sockets.ready) _ c.in-Some.socket.now _ c.in-Some.ensures.item.3.0 c.in-Some.ensures.value (grind (arith, c.accept-arrival.ensures.queued, c.accept-arrival.ensures.stays)) (omega arith);
    }

pub queue-requires : goal.queue-requires
queue-requires g c = λ is_new.
    let sockets = c.args.self.now in
    listener_fits 0 (deque_len sockets.ready) (deque_capacity sockets.ready) sockets.listeners.items sockets.links.entries sockets.room
    1 (deque_len sockets.ready) (deque_capacity sockets.ready) _ c.in-Some.socket.now _ c.in-Some.ensures.item.3.0 c.in-Some.ensures.value (grind (arith, is_new, c.accept-arrival.ensures.queued, c.accept-arrival.ensures.stays)) (omega arith)

pub returns-in-Some-clause-room : goal.returns-in-Some-clause-room
returns-in-Some-clause-room g c = λ fits.
    let sockets = c.args.self.now in
    let listeners_are = ap (λ (v : Vec (ListenerSocket _) Global). unqueued_listeners v.items) c.queue.ensures.listeners in
    let links_are = ap (λ (m : BTreeMap ℕ (LinkSocket _)). unqueued_links m.entries) c.queue.ensures.links in
    let enough = listener_fits 1 (deque_len sockets.ready) (deque_capacity sockets.ready) sockets.listeners.items sockets.links.entries fits
    1 (deque_len c.queue.new.self.ready) (deque_capacity c.queue.new.self.ready) c.args.listener c.in-Some.socket.now c.accept-arrival.new.self c.in-Some.ensures.item.3.0 c.in-Some.ensures.value
    (grind (arith, c.queue.ensures.len, c.accept-arrival.ensures.queued, c.accept-arrival.ensures.stays)) c.queue.ensures.capacity in
    omega (arith, enough, listeners_are, links_are)

pub returns-in-Some-clause-goes : goal.returns-in-Some-clause-goes
returns-in-Some-clause-goes g c =
    let sockets = c.args.self.now in
    let items = sockets.listeners.items in
    let found = slice_get_read items (length items) _ c.in-Some.socket.now refl c.in-Some.ensures.item.3.0 c.in-Some.ensures.value in
    listener_goes sockets c.queue.new.self c.args.listener c.in-Some.socket.now c.accept-arrival.new.self found (ap (λ (v : Vec (ListenerSocket _) Global). v.items) c.queue.ensures.listeners)
    c.queue.ensures.links (ap (λ (d : _). d.items) c.queue.ensures.pending) c.queue.ensures.own c.queue.ensures.waits c.queue.ensures.absent c.queue.ensures.sessions
    (omega (arith, c.accept-arrival.ensures.uncounted)) c.accept-arrival.ensures.listener c.accept-arrival.ensures.file (λ _. c.accept-arrival.ensures.placed) (λ other _. c.queue.ensures.kept other)
    (still_queued c.in-Some.socket.now c.accept-arrival.new.self (has_place sockets (listeners_from + c.args.listener)) (has_place c.queue.new.self (listeners_from + c.args.listener)) c.accept-arrival.result.1
    (λ e. ap (has_place c.queue.new.self) (ap (λ n. listeners_from + n) (sym c.from.ensures)) ∙ c.queue.ensures.placed e) (c.queue.ensures.kept (listeners_from + c.args.listener)) c.accept-arrival.ensures.stays)

pub returns-in-Some-clause-told : goal.returns-in-Some-clause-told
returns-in-Some-clause-told g c = λ own.
    let items = c.args.self.now.listeners.items in
    let found = slice_get_read items (length items) _ c.in-Some.socket.now refl c.in-Some.ensures.item.3.0 c.in-Some.ensures.value in
    steps_weaker (arrived_at c.args.listener (vec_len c.args.self.now.listeners) c.args.number c.accept-arrival.result.0)
    (subst (λ n. Steps (IsArrival n c.args.number c.accept-arrival.result.0) (g.S.Sockets.journal c.args.system.now) (g.S.Sockets.journal c.accept-arrival.new.system))
    (own_number items c.args.listener c.in-Some.socket.now found own) c.accept-arrival.ensures.told)
