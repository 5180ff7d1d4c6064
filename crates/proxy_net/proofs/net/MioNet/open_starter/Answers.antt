use Rattle.std.proofs.Common.{◌≡◌, true, false, refl, rules}
use Rattle.proxy_net.specs.Starters.{is_present}
use Rattle.proxy_net.proofs.Answering.{bound_kept, consistent_goes, counted_kept, first_opened, first_refused, second_refused, silent_none, silent_one}
use Rattle.proxy_net.proofs.Telling.{steps_none, steps_one}
use Rattle.proxy_net.proofs.net.MioNet.open_starter.Goals as goal

pub returns-then-is_present-clause-asked : goal.returns-then-is_present-clause-asked
returns-then-is_present-clause-asked g c =
    let there : is_present c.args.self.now.starter ≡ true = search rules in
    steps_none (g.S.Sockets.journal c.args.self.now.system) (second_refused _ c.args.descriptor there)

pub returns-in-Ok-clause-asked : goal.returns-in-Ok-clause-asked
returns-in-Ok-clause-asked g c =
    let none : is_present c.args.self.now.starter ≡ false = search rules in
    steps_one _ c.in-Ok.ensures (first_opened _ c.args.descriptor none)

pub returns-in-Err-clause-asked : goal.returns-in-Err-clause-asked
returns-in-Err-clause-asked g c =
    let none : is_present c.args.self.now.starter ≡ false = search rules in
    steps_one _ c.in-Err.ensures (first_refused _ c.args.descriptor _ none)

pub invariant_of-self : goal.invariant_of-self
invariant_of-self g c = record {
  consistent = consistent_goes c.args.self.now.sockets c.raise.new.self c.raise.ensures.goes c.args.self.now.consistent;
  room = c.args.self.now.room;
  counted = counted_kept c.args.self.now.counted (silent_none (g.S.Sockets.journal c.args.self.now.system)) c.raise.ensures.goes.number c.raise.ensures.goes.sessions;
  bound = bound_kept c.args.self.now.sockets c.raise.new.self (silent_none (g.S.Sockets.journal c.args.self.now.system)) c.raise.ensures.goes.number c.raise.ensures.goes.files c.args.self.now.bound;
}

pub invariant_of-self-in-Err : goal.invariant_of-self-in-Err
invariant_of-self-in-Err g c = record {
  consistent = consistent_goes c.args.self.now.sockets c.raise-in-Err.new.self c.raise-in-Err.ensures.goes c.args.self.now.consistent;
  room = c.args.self.now.room;
  counted = counted_kept c.args.self.now.counted (silent_one c.in-Err.ensures refl) c.raise-in-Err.ensures.goes.number c.raise-in-Err.ensures.goes.sessions;
  bound = bound_kept c.args.self.now.sockets c.raise-in-Err.new.self (silent_one c.in-Err.ensures refl) c.raise-in-Err.ensures.goes.number c.raise-in-Err.ensures.goes.files c.args.self.now.bound;
}
