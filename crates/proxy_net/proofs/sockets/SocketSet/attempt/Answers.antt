use Rattle.std.proofs.Common.{arith}
use Rattle.std.specs.VecDeque.{deque_len, deque_capacity}
use Rattle.proxy_net.proofs.Room.{link_fits}
use Rattle.std.proofs.Common.{◌≡◌, true, Option, Some, None, unwrap_or, ap, subst, ◌∙◌, rules}
use Rattle.std.specs.BTreeMap as tree
use Rattle.std.specs.Option.{option_map}
use Rattle.std.specs.Ordering.{nat_cmp}
use Rattle.proxy_net.specs.Connecting.{tried_path}
use Rattle.proxy_net.specs.Registering.{is_own_link}
use Rattle.proxy_net.specs.Sockets.{HasLink, IsTriedTo}
use Rattle.proxy_net.specs.declared.link_sockets.LinkSocket.{LinkSocket}
use Rattle.proxy_net.proofs.Attempting.{attempt_of}
use Rattle.proxy_net.proofs.Telling.{steps_weaker}
use Rattle.proxy_net.proofs.Waiting.{retried_waits}
use Rattle.proxy_net.proofs.sockets.SocketSet.attempt.Goals as goal

pub invariant_of-self : goal.invariant_of-self
invariant_of-self g c =
    let sockets = c.args.self.now in
    record {
      room = link_fits 0 (deque_len sockets.ready) (deque_capacity sockets.ready) sockets.listeners.items sockets.links.entries sockets.room
          0 (deque_len sockets.ready) (deque_capacity sockets.ready) _ c.in-Some.socket.now _ _ c.in-Some.ensures.value (c.get_mut.follows.holds c.take_place-is_new.new.self).0 (grind (arith, c.take_place-is_new.ensures.took, c.take_place-is_new.ensures.same, c.attempt-attempt.ensures.queued)) (omega arith);
    }

pub queue-requires : goal.queue-requires
queue-requires g c = λ is_new.
    let sockets = c.args.self.now in
    link_fits 0 (deque_len sockets.ready) (deque_capacity sockets.ready) sockets.listeners.items sockets.links.entries sockets.room
    1 (deque_len sockets.ready) (deque_capacity sockets.ready) _ c.in-Some.socket.now _ _ c.in-Some.ensures.value (c.get_mut.follows.holds c.take_place-is_new.new.self).0 (grind (arith, is_new, c.take_place-is_new.ensures.took, c.take_place-is_new.ensures.same, c.attempt-attempt.ensures.queued)) (omega arith)

pub returns-in-Some-clause-told : goal.returns-in-Some-clause-told
returns-in-Some-clause-told g c = λ own.
    let found : tree.get nat_cmp c.args.self.now.links c.args.number ≡ Some c.in-Some.socket.now = search rules in
    let registered = subst (λ (o : Option (LinkSocket _)). is_own_link c.args.number o ≡ true) found (own c.args.number) in
    steps_weaker (retried_waits (HasLink c.args.self.now) (IsTriedTo c.args.self.now) c.in-Some.socket.now.connection c.args.number registered
    (λ path e. ap (λ (o : Option (LinkSocket _)). unwrap_or (option_map (λ (s : LinkSocket _). tried_path s.connection) o) None) found ∙ e)) c.attempt-attempt.ensures.told

pub returns-in-Some-clause-made : goal.returns-in-Some-clause-made
returns-in-Some-clause-made g c =
    let was : tree.get nat_cmp c.args.self.now.links c.args.number ≡ Some c.in-Some.socket.now = search rules in
    let is : tree.get nat_cmp c.queue.new.self.links c.args.number ≡ Some c.take_place-is_new.new.self = search rules in
    let same : c.take_place-is_new.new.self.connection ≡ c.attempt-attempt.new.self.connection = ap (λ (s : LinkSocket _). s.connection) c.take_place-is_new.ensures.same in
    attempt_of _ _ c.in-Some.socket.now c.take_place-is_new.new.self c.attempt-attempt.new.self.connection c.args.now was is same c.attempt-attempt.ensures.made
