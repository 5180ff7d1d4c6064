use Rattle.std.proofs.Common.{◌∙◌, Option, false, unwrap_or, refl, arith}
use Rattle.std.specs.Option.{option_map}
use Rattle.proxy_net.specs.Delays.{is_accept_due}
use Rattle.proxy_net.specs.Sockets.{is_accept_due_at}
use Rattle.proxy_net.specs.declared.listeners.ListenerSocket.{ListenerSocket}
use Rattle.proxy_net.proofs.Judging.{one_more_place, all_places}
use Rattle.proxy_net.proofs.Going.{goes_through}
use Rattle.proxy_net.proofs.Notes.{notes_through}
use Rattle.proxy_net.proofs.Retrying.{due_same}
use Rattle.proxy_net.proofs.sockets.SocketSet.retry_accepts.Goals as goal

pub loop-place-preserved : goal.loop-place-preserved
loop-place-preserved g c = record {
  goes = goes_through c.loop-place.invariant.goes c.retry_accept.ensures.goes;
  kept = notes_through c.loop-place.invariant.kept c.retry_accept.ensures.kept;
  number = c.retry_accept.ensures.number ∙ c.loop-place.invariant.number;
  others = λ other e.
      let before = c.loop-place.invariant.others other e in
      c.retry_accept.ensures.others other (due_same c.args.now before ∙ e) ∙ before;
  links = c.retry_accept.ensures.links ∙ c.loop-place.invariant.links;
  retried = one_more_place (λ s p. is_accept_due_at s c.args.now p) c.loop-place.self c.retry_accept.new.self c.loop-place.place c.loop-place.invariant.retried c.retry_accept.ensures.retried
      (λ other e. due_same c.args.now (c.retry_accept.ensures.others other e) ∙ e);
}

pub returns-clause-retried : goal.returns-clause-retried
returns-clause-retried g c = all_places (λ (o : Option (ListenerSocket _)). unwrap_or (option_map (is_accept_due c.args.now) o) false) refl c.loop-place.self.listeners.items
    (λ other below. c.loop-place.invariant.retried other (grind (arith, below, c.loop-place.invariant.number)))
