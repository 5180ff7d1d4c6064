use Rattle.std.proofs.Common.{◌≡◌, ◌+◌, ◌-◌, ◌∙◌, Option, false, ap, nat_eq, length, refl, unwrap_or, arith}
use Rattle.std.specs.List.{list_any}
use Rattle.std.proofs.lemmas.Option.{slice_get_read}
use Rattle.std.specs.Option.{option_map}
use Rattle.proxy_net.specs.Delays.{is_accept_due}
use Rattle.proxy_net.specs.Registering.{listeners_from}
use Rattle.proxy_net.specs.Sockets.{is_accept_due_at, is_stalled_at}
use Rattle.proxy_net.proofs.Written.{at_each, listener_goes, first_among, all_stay, others_stay}
use Rattle.std.specs.VecDeque.{deque_len, deque_capacity}
use Rattle.proxy_net.specs.declared.listeners.ListenerSocket.{ListenerSocket}
use Rattle.proxy_net.proofs.Room.{at_most_one, listener_fits, popped}
use Rattle.proxy_net.proofs.sockets.SocketSet.name_listener.Goals as goal

pub invariant_of-self-then-keeps_place : goal.invariant_of-self-then-keeps_place
invariant_of-self-then-keeps_place g c =
    let sockets = c.args.self.now in
    record {
      room = listener_fits 0 (deque_len sockets.ready) (deque_capacity sockets.ready) sockets.listeners.items sockets.links.entries sockets.room
          0 (deque_len c.rotate_left.new.self) (deque_capacity c.rotate_left.new.self) _ c.in-Some.socket.now _ c.in-Some.ensures.item.3.0 c.in-Some.ensures.value (grind (arith, c.keeps_place.ensures.named, c.keeps_place.ensures.place, c.rotate_left.ensures.len)) (omega (arith, c.rotate_left.ensures.capacity));
    }

pub invariant_of-self-2 : goal.invariant_of-self-2
invariant_of-self-2 g c =
    let sockets = c.args.self.now in
    record {
      room = listener_fits 0 (deque_len sockets.ready) (deque_capacity sockets.ready) sockets.listeners.items sockets.links.entries sockets.room
          0 (deque_len c.pop_front-2.new.self) (deque_capacity c.pop_front-2.new.self) _ c.in-Some.socket.now _ c.in-Some.ensures.item.3.0 c.in-Some.ensures.value (let shorter = popped sockets.ready.items c.pop_front-2.new.self.items c.args.number c.requires.first c.pop_front-2.ensures.rest in omega (arith, shorter, sockets.ready.ok.0, c.pop_front-2.new.self.ok.0, at_most_one c.keeps_place.new.self.queued)) (omega (arith, c.pop_front-2.ensures.capacity));
    }

pub returns-then-keeps_place-clause-goes : goal.returns-then-keeps_place-clause-goes
returns-then-keeps_place-clause-goes g c =
    let sockets = c.args.self.now in
    let items = sockets.listeners.items in
    listener_goes sockets _ (c.args.number - listeners_from) c.in-Some.socket.now c.keeps_place.new.self
    (slice_get_read items (length items) _ c.in-Some.socket.now refl c.in-Some.ensures.item.3.0 c.in-Some.ensures.value) refl refl refl refl refl refl refl
    (grind (arith, c.keeps_place.ensures.named)) (ap (λ (s : ListenerSocket _). s.listener) c.keeps_place.ensures.named) (ap (λ (s : ListenerSocket _). s.file) c.keeps_place.ensures.named)
    (λ _. grind (arith, c.keeps_place.ensures.named, c.keeps_place.ensures.place))
    (λ other _. all_stay sockets.ready.items c.rotate_left.new.self.items c.rotate_left.ensures.items other)
    (λ _. let same : listeners_from + (c.args.number - listeners_from) ≡ c.args.number = omega (arith, c.requires.of_listener) in
    let stays = all_stay sockets.ready.items c.rotate_left.new.self.items c.rotate_left.ensures.items c.args.number (first_among sockets.ready.items c.args.number c.requires.first) in
    let placed = ap (λ n. list_any (nat_eq n) c.rotate_left.new.self.items) same ∙ stays in
    grind (arith, placed))

pub returns-clause-goes : goal.returns-clause-goes
returns-clause-goes g c =
    let sockets = c.args.self.now in
    let items = sockets.listeners.items in
    listener_goes sockets _ (c.args.number - listeners_from) c.in-Some.socket.now c.keeps_place.new.self
    (slice_get_read items (length items) _ c.in-Some.socket.now refl c.in-Some.ensures.item.3.0 c.in-Some.ensures.value) refl refl refl refl refl refl refl
    (grind (arith, c.keeps_place.ensures.named)) (ap (λ (s : ListenerSocket _). s.listener) c.keeps_place.ensures.named) (ap (λ (s : ListenerSocket _). s.file) c.keeps_place.ensures.named)
    (λ _. grind (arith, c.keeps_place.ensures.named, c.keeps_place.ensures.place))
    (λ other differs. others_stay sockets.ready.items c.pop_front-2.new.self.items c.args.number c.requires.first c.pop_front-2.ensures.rest other (λ e. differs (omega (arith, e, c.requires.of_listener))))
    (λ _. grind (arith, c.keeps_place.ensures.named, c.keeps_place.ensures.place))

pub returns-then-keeps_place-clause-stalls : goal.returns-then-keeps_place-clause-stalls
returns-then-keeps_place-clause-stalls g c =
    let sockets = c.args.self.now in
    let items = sockets.listeners.items in
    let place = c.args.number - listeners_from in
    let found = slice_get_read items (length items) _ c.in-Some.socket.now refl c.in-Some.ensures.item.3.0 c.in-Some.ensures.value in
    record {
      stalled = λ other. at_each (λ n (o : Option (ListenerSocket _)). unwrap_or (option_map (λ (s : ListenerSocket _). s.stalled) o) false ≡ is_stalled_at sockets n) items place c.in-Some.socket.now c.keeps_place.new.self found
          (λ before. ap (λ (s : ListenerSocket _). s.stalled) c.keeps_place.ensures.named ∙ before) other refl;
      due = λ now other. at_each (λ n (o : Option (ListenerSocket _)). unwrap_or (option_map (is_accept_due now) o) false ≡ is_accept_due_at sockets now n) items place c.in-Some.socket.now c.keeps_place.new.self found
          (λ before. ap (is_accept_due now) c.keeps_place.ensures.named ∙ before) other refl;
    }

pub returns-clause-stalls : goal.returns-clause-stalls
returns-clause-stalls g c =
    let sockets = c.args.self.now in
    let items = sockets.listeners.items in
    let place = c.args.number - listeners_from in
    let found = slice_get_read items (length items) _ c.in-Some.socket.now refl c.in-Some.ensures.item.3.0 c.in-Some.ensures.value in
    record {
      stalled = λ other. at_each (λ n (o : Option (ListenerSocket _)). unwrap_or (option_map (λ (s : ListenerSocket _). s.stalled) o) false ≡ is_stalled_at sockets n) items place c.in-Some.socket.now c.keeps_place.new.self found
          (λ before. ap (λ (s : ListenerSocket _). s.stalled) c.keeps_place.ensures.named ∙ before) other refl;
      due = λ now other. at_each (λ n (o : Option (ListenerSocket _)). unwrap_or (option_map (is_accept_due now) o) false ≡ is_accept_due_at sockets now n) items place c.in-Some.socket.now c.keeps_place.new.self found
          (λ before. ap (is_accept_due now) c.keeps_place.ensures.named ∙ before) other refl;
    }
