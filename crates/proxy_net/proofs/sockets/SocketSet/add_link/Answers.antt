use Rattle.std.proofs.Common.{rules, ap, ap₂, ◌∙◌, not, ◌||◌, nat_eq}
use Rattle.std.specs.List.{list_any}
use Rattle.proxy_net.specs.Connecting.{is_pending}
use Rattle.proxy_net.specs.Registering.{is_registered_by}
use Rattle.std.specs.VecDeque.{deque_len, deque_capacity}
use Rattle.proxy_net.proofs.Room.{made_fits}
use Rattle.proxy_net.proofs.Tokens.{own_link_made, retried_made}
use Rattle.proxy_net.proofs.sockets.SocketSet.add_link.Goals as goal

pub returns-clause-grows : goal.returns-clause-grows
returns-clause-grows g c = record {
  each = search rules;
  links = search rules;
  listeners = search rules;
  link_places = search rules;
  listener_places = search rules;
  link_tokens = own_link_made c.args.self.now.links c.insert.new.self c.number_of-number.result c.new.result c.in_ok-insert.ensures.updates
      (ap (is_registered_by c.number_of-number.result) c.new.ensures.connection ∙ ap (λ n. is_registered_by n c.args.connection) c.number_of-number.ensures.number ∙ c.requires.token);
  listener_tokens = search rules;
  files = search rules;
  retries = retried_made c.args.self.now.links c.insert.new.self c.number_of-number.result c.new.result c.args.self.now.pending.items c.in_ok-insert.ensures.updates
      (ap₂ (λ connection number. not (is_pending connection) || list_any (nat_eq number) c.args.self.now.pending.items) c.new.ensures.connection c.number_of-number.ensures.number ∙ c.requires.tried);
}

pub invariant_of-self : goal.invariant_of-self
invariant_of-self g c =
    let sockets = c.args.self.now in
    record { room = made_fits 0 (deque_len sockets.ready) (deque_capacity sockets.ready) sockets.listeners.items sockets.links.entries c.requires.room c.insert.result _ _ _ c.insert.ensures.entries c.insert.ensures.err }
