use Rattle.std.proofs.Common.{◌∙◌, Option, false, is_some, unwrap_or, refl, arith}
use Rattle.std.specs.Option.{option_map}
use Rattle.proxy_net.specs.Sockets.{has_file_at, file_at}
use Rattle.proxy_net.specs.declared.listeners.ListenerSocket.{ListenerSocket}
use Rattle.proxy_net.proofs.Judging.{one_more_place, all_places}
use Rattle.proxy_net.proofs.Listening.{removals_then, removals_all}
use Rattle.proxy_net.proofs.Going.{goes_through}
use Rattle.proxy_net.proofs.sockets.SocketSet.remove_files.Goals as goal

pub loop-place-preserved : goal.loop-place-preserved
loop-place-preserved g c = record {
  told = removals_then c.args.self.now.listeners.items c.loop-place.place (file_at c.loop-place.self c.loop-place.place) (grind (arith, c.loop-place.invariant.number)) (c.loop-place.invariant.files c.loop-place.place (omega arith)) c.loop-place.invariant.told c.remove_file.ensures.told;
  files = λ other from. c.remove_file.ensures.files other (λ e. absurd (omega (arith, from, e))) ∙ c.loop-place.invariant.files other (omega (arith, from));
  goes = goes_through c.loop-place.invariant.goes c.remove_file.ensures.goes;
  number = c.remove_file.ensures.number ∙ c.loop-place.invariant.number;
  removed = one_more_place has_file_at c.loop-place.self c.remove_file.new.self c.loop-place.place c.loop-place.invariant.removed c.remove_file.ensures.removed c.remove_file.ensures.others;
}

pub returns-clause-told : goal.returns-clause-told
returns-clause-told g c = removals_all c.args.self.now.listeners.items _ (grind (arith, c.loop-place.invariant.number)) c.loop-place.invariant.told

pub returns-clause-removed : goal.returns-clause-removed
returns-clause-removed g c = all_places (λ (o : Option (ListenerSocket _)). unwrap_or (option_map (λ (s : ListenerSocket _). is_some s.file) o) false) refl c.loop-place.self.listeners.items
    (λ other below. c.loop-place.invariant.removed other (grind (arith, below, c.loop-place.invariant.number)))
