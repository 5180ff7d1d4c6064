use Rattle.std.proofs.Common.{◌∙◌, Option, false, unwrap_or, refl, arith}
use Rattle.std.specs.Option.{option_map}
use Rattle.proxy_net.specs.Sockets.{is_stalled_at}
use Rattle.proxy_net.specs.declared.listeners.ListenerSocket.{ListenerSocket}
use Rattle.proxy_net.proofs.Judging.{one_more_place, all_places}
use Rattle.proxy_net.proofs.Going.{goes_through}
use Rattle.proxy_net.proofs.sockets.SocketSet.revive_all.Goals as goal

pub loop-place-preserved : goal.loop-place-preserved
loop-place-preserved g c = record {
  goes = goes_through c.loop-place.invariant.goes c.revive.ensures.goes;
  number = c.revive.ensures.number ∙ c.loop-place.invariant.number;
  links = c.revive.ensures.links ∙ c.loop-place.invariant.links;
  revived = one_more_place is_stalled_at c.loop-place.self c.revive.new.self c.loop-place.place c.loop-place.invariant.revived c.revive.ensures.revived c.revive.ensures.others;
}

pub returns-clause-revived : goal.returns-clause-revived
returns-clause-revived g c = all_places (λ (o : Option (ListenerSocket _)). unwrap_or (option_map (λ (s : ListenerSocket _). s.stalled) o) false) refl c.loop-place.self.listeners.items
    (λ other below. c.loop-place.invariant.revived other (grind (arith, below, c.loop-place.invariant.number)))
