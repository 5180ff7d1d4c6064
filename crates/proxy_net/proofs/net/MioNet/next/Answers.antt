use Rattle.std.proofs.Common.{◌≡◌, Bool, false, true, ap, inl, inr, refl, sym, subst, ◌∙◌, arith}
use Rattle.proxy_net.specs.Steps.{Steps, AreWaits}
use Rattle.proxy_net.specs.Sockets.{HasLink, IsTriedTo}
use Rattle.proxy_net.specs.declared.sockets.SocketSet.{SocketSet}
use Rattle.proxy_net.specs.declared.net.Turn.TheVariants.{Named, Ended, Again}
use Rattle.proxy_net.proofs.Going.{goes_through, wished_before}
use Rattle.proxy_net.proofs.Reading.{closed_through}
use Rattle.proxy_net.proofs.Retrying.{early_through}
use Rattle.proxy_net.proofs.Telling.{steps_through, steps_weaker}
use Rattle.proxy_net.proofs.Waiting.{again_then, many_fail, named_succeeds, named_then, not_quiet, not_true, turns_before, waits_then}
use Rattle.proxy_net.proofs.net.MioNet.next.Goals as goal

pub turn-requires : goal.turn-requires
turn-requires g c = c.loop-turn.invariant.there

pub returns-in-Named-clause-wished : goal.returns-in-Named-clause-wished
returns-in-Named-clause-wished g c = λ _ _. wished_before c.args.self.now.sockets c.loop-turn.self.sockets c.turn.new.self.sockets c.in-Named.ready c.loop-turn.invariant.goes (c.in-Named.ensures.wished c.in-Named.ready refl)

pub returns-in-Named-clause-quiet : goal.returns-in-Named-clause-quiet
returns-in-Named-clause-quiet g c = (
  λ e. absurd (not_quiet c.loop-turn.self.sockets c.turn.new.self.sockets c.in-Named.ready (c.in-Named.ensures.wished c.in-Named.ready refl) e),
  λ gone. absurd (let no : Named c.in-Named.ready ≡ Ended = c.in-Named.ensures.ended.1 gone in cc),
)

pub returns-in-Named-clause-present : goal.returns-in-Named-clause-present
returns-in-Named-clause-present g c = c.turn.ensures.present ∙ c.loop-turn.invariant.present

pub returns-in-Named-clause-closed : goal.returns-in-Named-clause-closed
returns-in-Named-clause-closed g c = closed_through c.loop-turn.invariant.closed c.turn.ensures.closed

pub returns-in-Named-clause-goes : goal.returns-in-Named-clause-goes
returns-in-Named-clause-goes g c = goes_through c.loop-turn.invariant.goes c.turn.ensures.goes

pub returns-in-Named-clause-asked : goal.returns-in-Named-clause-asked
returns-in-Named-clause-asked g c =
    let sockets = c.args.self.now.sockets in
    let succeeds = named_succeeds c.loop-turn.self.sockets c.turn.new.self.sockets c.in-Named.ready (c.in-Named.ensures.wished c.in-Named.ready refl) in
    subst (λ (failed : Bool). Steps (AreWaits (HasLink sockets) (IsTriedTo sockets) c.args.self.now.starter c.turn.new.self.starter failed) (g.S.Sockets.journal c.args.self.now.system) (g.S.Sockets.journal c.turn.new.self.system)) (sym succeeds)
    (steps_through (λ first second p q. named_then c.turn.new.self.starter first second p.0 q) c.loop-turn.invariant.asked c.in-Named.ensures.asked)

pub returns-in-Ended-clause-closed : goal.returns-in-Ended-clause-closed
returns-in-Ended-clause-closed g c = closed_through c.loop-turn.invariant.closed c.turn.ensures.closed

pub returns-in-Ended-clause-goes : goal.returns-in-Ended-clause-goes
returns-in-Ended-clause-goes g c = goes_through c.loop-turn.invariant.goes c.turn.ensures.goes

pub returns-in-Ended-clause-asked : goal.returns-in-Ended-clause-asked
returns-in-Ended-clause-asked g c =
    let sockets = c.args.self.now.sockets in
    steps_through (λ first second p q. waits_then (HasLink sockets) (IsTriedTo sockets) false first second p.0 (turns_before sockets c.loop-turn.self.sockets c.loop-turn.invariant.goes second q)) c.loop-turn.invariant.asked c.in-Ended.ensures.asked

pub returns-in-Failed-clause-closed : goal.returns-in-Failed-clause-closed
returns-in-Failed-clause-closed g c = closed_through c.loop-turn.invariant.closed c.turn.ensures.closed

pub returns-in-Failed-clause-goes : goal.returns-in-Failed-clause-goes
returns-in-Failed-clause-goes g c = goes_through c.loop-turn.invariant.goes c.turn.ensures.goes

pub returns-in-Failed-clause-asked : goal.returns-in-Failed-clause-asked
returns-in-Failed-clause-asked g c =
    let sockets = c.args.self.now.sockets in
    steps_through (λ first second p q. waits_then (HasLink sockets) (IsTriedTo sockets) true first second p.0 (turns_before sockets c.loop-turn.self.sockets c.loop-turn.invariant.goes second q.0)) c.loop-turn.invariant.asked c.in-Failed.ensures.asked

pub returns-clause-quiet : goal.returns-clause-quiet
returns-clause-quiet g c = (λ e. absurd cc, λ gone. absurd (let no : false ≡ true = sym c.loop-turn.invariant.there ∙ gone in cc))

pub returns-clause-asked : goal.returns-clause-asked
returns-clause-asked g c = steps_weaker (λ calls p. many_fail calls p.0 (grind (arith, p.1))) c.loop-turn.invariant.asked

pub loop-turn-preserved : goal.loop-turn-preserved
loop-turn-preserved g c =
    let sockets = c.args.self.now.sockets in
    record {
      goes = goes_through c.loop-turn.invariant.goes c.turn.ensures.goes;
      closed = closed_through c.loop-turn.invariant.closed c.turn.ensures.closed;
      early = early_through c.loop-turn.invariant.early c.turn.ensures.early;
      tried = inr (c.in-Again.ensures.tried refl);
      there = not_true _ (λ gone. absurd (let no : Again ≡ Ended = c.in-Again.ensures.ended.1 gone in cc));
      present = c.turn.ensures.present ∙ c.loop-turn.invariant.present;
      replaces = c.turn.ensures.replaces ∙ c.loop-turn.invariant.replaces;
      once = λ told. c.turn.ensures.once (c.loop-turn.invariant.once told);
      asked = steps_through (λ first second p q. again_then c.loop-turn._turn first second p (turns_before sockets c.loop-turn.self.sockets c.loop-turn.invariant.goes second q.0, q.1)) c.loop-turn.invariant.asked c.in-Again.ensures.asked;
    }

pub returns-in-Named-clause-early : goal.returns-in-Named-clause-early
returns-in-Named-clause-early g c = early_through c.loop-turn.invariant.early c.turn.ensures.early

pub returns-in-Ended-clause-early : goal.returns-in-Ended-clause-early
returns-in-Ended-clause-early g c = early_through c.loop-turn.invariant.early c.turn.ensures.early

pub returns-in-Failed-clause-early : goal.returns-in-Failed-clause-early
returns-in-Failed-clause-early g c = early_through c.loop-turn.invariant.early c.turn.ensures.early

pub returns-in-Named-clause-tried : goal.returns-in-Named-clause-tried
returns-in-Named-clause-tried g c = λ _ _.
    let named = c.in-Named.ensures.named c.in-Named.ready refl in
    elim c.loop-turn.invariant.tried [
      | inl same ↦ let number = ap (λ (s : SocketSet _ _). s.named) same in inl (omega (arith, number, named.0), omega (arith, number, named.1))
      | inr tried ↦ inr (c.in-Named.ensures.kept c.in-Named.ready refl tried)
    ]
