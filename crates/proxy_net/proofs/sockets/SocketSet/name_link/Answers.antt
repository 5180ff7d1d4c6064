use Rattle.std.proofs.Common.{arith}
use Rattle.std.specs.VecDeque.{deque_len, deque_capacity}
use Rattle.proxy_net.proofs.Room.{at_most_one, link_fits, popped}
use Rattle.std.proofs.Common.{ℕ, ◌≡◌, ◌+◌, ◌||◌, nat_eq, Option, slice_get, ap, ◌∙◌, rules}
use Rattle.std.specs.BTreeMap as tree
use Rattle.std.specs.List.{list_any}
use Rattle.std.specs.Ordering.{nat_cmp}
use Rattle.link_traits.specs.Numbers.{number_of}
use Rattle.proxy_net.specs.Naming.{is_link_placed, is_link_unmarked, is_listener_unmarked}
use Rattle.proxy_net.specs.Registering.{listeners_from}
use Rattle.proxy_net.specs.declared.link_sockets.LinkSocket.{LinkSocket}
use Rattle.proxy_net.proofs.Notes.{or_kept}
use Rattle.proxy_net.proofs.Written.{all_stay}
use Rattle.proxy_net.proofs.sockets.SocketSet.name_link.Goals as goal

pub invariant_of-self-then-is_nameable : goal.invariant_of-self-then-is_nameable
invariant_of-self-then-is_nameable g c =
    let sockets = c.args.self.now in
    record {
      room = link_fits 0 (deque_len sockets.ready) (deque_capacity sockets.ready) sockets.listeners.items sockets.links.entries sockets.room
          0 (deque_len c.rotate_left.new.self) (deque_capacity c.rotate_left.new.self) _ c.in-Some.socket.now _ _ c.in-Some.ensures.value (c.get_mut.follows.holds (_)).0 (omega (arith, c.rotate_left.ensures.len)) (omega (arith, c.rotate_left.ensures.capacity));
    }

pub invariant_of-self-2 : goal.invariant_of-self-2
invariant_of-self-2 g c =
    let sockets = c.args.self.now in
    record {
      room = link_fits 0 (deque_len sockets.ready) (deque_capacity sockets.ready) sockets.listeners.items sockets.links.entries sockets.room
          0 (deque_len c.pop_front-2.new.self) (deque_capacity c.pop_front-2.new.self) _ c.in-Some.socket.now _ _ c.in-Some.ensures.value (c.get_mut.follows.holds (c.leave_place.new.self)).0 (let shorter = popped sockets.ready.items c.pop_front-2.new.self.items c.args.number c.requires.first c.pop_front-2.ensures.rest in omega (arith, shorter, sockets.ready.ok.0, c.pop_front-2.new.self.ok.0, at_most_one c.leave_place.new.self.queued)) (omega (arith, c.pop_front-2.ensures.capacity));
    }

pub returns-then-is_nameable-clause-goes : goal.returns-then-is_nameable-clause-goes
returns-then-is_nameable-clause-goes g c =
    let items = c.args.self.now.ready.items in
    let rotated = c.rotate_left.new.self.items in
    let same : (n : ℕ) → tree.get nat_cmp (c.get_mut.follows.lender c.in-Some.socket.now) n ≡ tree.get nat_cmp c.args.self.now.links n = search rules in
    record {
      counts = search rules;
      wishes = search rules;
      sessions = search rules;
      number = search rules;
      links = λ link p. ap is_link_placed (same (number_of link)) ∙ p;
      listeners = λ listener p. p;
      link_places = λ n below p. ap (λ (o : Option (LinkSocket _)). is_link_unmarked o || list_any (nat_eq n) rotated) (same n)
          ∙ or_kept (is_link_unmarked (tree.get nat_cmp c.args.self.now.links n)) (list_any (nat_eq n) items) (list_any (nat_eq n) rotated) (all_stay items rotated c.rotate_left.ensures.items n) p;
      listener_places = λ place below p.
          or_kept (is_listener_unmarked (slice_get c.args.self.now.listeners.items place)) (list_any (nat_eq (listeners_from + place)) items) (list_any (nat_eq (listeners_from + place)) rotated)
          (all_stay items rotated c.rotate_left.ensures.items (listeners_from + place)) p;
      link_tokens = search rules;
      listener_tokens = λ place p. p;
      retries = search rules;
      paths = search rules;
      files = λ place path below p. p;
    }
