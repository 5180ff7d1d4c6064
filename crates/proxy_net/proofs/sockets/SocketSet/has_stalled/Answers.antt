use Rattle.std.proofs.Common.{Option, false, unwrap_or, refl, arith}
use Rattle.std.specs.Option.{option_map}
use Rattle.proxy_net.specs.Sockets.{is_stalled_at}
use Rattle.proxy_net.specs.declared.listeners.ListenerSocket.{ListenerSocket}
use Rattle.proxy_net.proofs.Judging.{one_more_place, all_places}
use Rattle.proxy_net.proofs.sockets.SocketSet.has_stalled.Goals as goal

pub loop-place-preserved : goal.loop-place-preserved
loop-place-preserved g c = one_more_place is_stalled_at c.args.self.now c.args.self.now c.loop-place.place c.loop-place.invariant (grind (arith, c.is_stalled.ensures)) (λ other e. e)

pub returns : goal.returns
returns g c = λ _. all_places (λ (o : Option (ListenerSocket _)). unwrap_or (option_map (λ (s : ListenerSocket _). s.stalled) o) false) refl c.args.self.now.listeners.items
    (λ other below. c.loop-place.invariant other (grind (arith, below)))
