use Rattle.std.proofs.Common.{rules, ap, sym, ◌∙◌, map, arith, false, subst, true, ◌≡◌, IfSome, Option, Bool, List, ℤ, length, Some, None, ◌++◌, ◌∷◌, [], length-append}
use Rattle.std.proofs.lemmas.List.{map_push, length-map}
use Rattle.process_streams.proofs.Holding.{Holds, holds_none, holds_more, filled_above, filled_open, filled_three}
use Rattle.process_streams.specs.Descriptors.{is_standard}
use Rattle.process_streams.proofs.descriptors.fill_closed.Goals as goal

pub returns-in-Ok-2-clause-filled : goal.returns-in-Ok-2-clause-filled
returns-in-Ok-2-clause-filled g c =
    let same : c.in-Ok-2.field-0 ≡ c.in-Ok.opened = cc in
    let above : is_standard (g.D.Descriptors.number c.in-Ok-2.field-0) ≡ false = search rules in
    filled_above _ _ _ _ _ _ c.loop.invariant.holds c.in-Ok-2.ensures.ok above

is_open : (closed : Option Bool) (r : Bool) → IfSome closed (λ c. r ≡ c) → r ≡ false → IfSome closed (λ c. c ≡ false)
is_open None r e f = tt
is_open (Some c) r e f = sym e ∙ f

pub returns-in-Err-Failed-2-clause-filled : goal.returns-in-Err-Failed-2-clause-filled
returns-in-Err-Failed-2-clause-filled g c =
    filled_open _ _ _ _ _ c.loop.invariant.holds (search rules) (is_open _ _ c.has_closed.ensures c.if-has_closed.false)

pub loop-init : goal.loop-init
loop-init g c = record {
  count = search rules;
  holds = subst (λ (l : List ℤ). Holds (g.D.Descriptors.given c.args.descriptors.now) (g.D.Descriptors.given c.args.descriptors.now) l) (ap (map g.D.Descriptors.number) (sym c.new-held.ensures.items)) (holds_none _);
}

pub loop-preserved : goal.loop-preserved
loop-preserved g c =
    let standard : is_standard (g.D.Descriptors.number c.in-Ok.opened) ≡ true = search rules in
    let items : c.push.new.self.items ≡ c.loop.held.items ++ (c.in-Ok.opened ∷ []) = search rules in
    let holds = holds_more _ _ _ _ _ c.loop.invariant.holds c.in-Ok.ensures.ok standard in
    record {
      count = omega (arith, ap length items, length-append c.loop.held.items (c.in-Ok.opened ∷ []), c.loop.invariant.count);
      holds = subst (λ (l : List ℤ). Holds (g.D.Descriptors.given c.args.descriptors.now) (g.D.Descriptors.given c.open_null.new.self) l)
          (sym (ap (map g.D.Descriptors.number) items ∙ map_push g.D.Descriptors.number c.loop.held.items c.in-Ok.opened)) holds;
    }

pub returns-clause-filled : goal.returns-clause-filled
returns-clause-filled g c =
    let three : c.loop.counter ≡ 3 = omega arith in
    filled_three _ _ _ _ c.loop.invariant.holds (length-map _ _ ∙ c.loop.invariant.count ∙ three)
