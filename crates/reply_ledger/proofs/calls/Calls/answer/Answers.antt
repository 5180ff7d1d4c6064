use Rattle.std.proofs.Common.{◌≡◌, ◌<◌, ◌≤◌, ◌-◌, ap, sym, subst, ◌∙◌, arith}
use Rattle.std.specs.FinMap as map
use Rattle.reply_ledger.specs.Apart.{AreApart}
use Rattle.reply_ledger.specs.Owed.{IsKept, Serials, count_in, one_less_in}
use Rattle.reply_ledger.proofs.Apart.{absent-same, apart-kept, first-apart, first-count, first-less, less-apart, other-absent, other-counted, other-less, popped-apart, popped-less}
use Rattle.reply_ledger.proofs.calls.Calls.answer.Goals as goal

-- ---- another serial than the first

pub invariant_of-self : goal.invariant_of-self
invariant_of-self c =
    subst (λ (others : Serials). AreApart c.self.inside.serial c.self.inside.count others) (sym c.take.ensures.left)
    (less-apart c.args.serial c.self.inside.serial c.self.inside.count c.self.inside.others c.if-serial-self.true c.self.invariant)

pub returns-then-take-clause-answered : goal.returns-then-take-clause-answered
returns-then-take-clause-answered c = (
  subst (λ (m : Serials). 0 < count_in m c.args.serial) c.self.view_is
      (other-counted c.self.inside.others c.args.serial c.self.inside.serial c.self.inside.count c.if-serial-self.true c.self.invariant (sym c.if-take.ensures.was)),
  ap (λ others. map.insert others c.self.inside.serial c.self.inside.count) c.take.ensures.left
      ∙ other-less c.self.inside.others c.args.serial c.self.inside.serial c.self.inside.count c.if-serial-self.true
      ∙ ap (λ m. one_less_in m c.args.serial) c.self.view_is,
)

pub returns-then-take-clause-kept : goal.returns-then-take-clause-kept
returns-then-take-clause-kept c = apart-kept c.self.inside.serial c.self.inside.count c.take.new.self (invariant_of-self c)

unchanged : (c : goal.Else-take) → c.take.new.self ≡ c.self.inside.others
unchanged c = c.take.ensures.left ∙ absent-same c.self.inside.others c.args.serial (sym c.if-take.ensures.was)

pub returns-then-serial-self-clause-answered : goal.returns-then-serial-self-clause-answered
returns-then-serial-self-clause-answered c = (
  ap (λ m. map.get m c.args.serial) (sym c.self.view_is)
      ∙ other-absent c.self.inside.others c.args.serial c.self.inside.serial c.self.inside.count c.if-serial-self.true (sym c.if-take.ensures.was),
  ap (λ others. map.insert others c.self.inside.serial c.self.inside.count) (unchanged c) ∙ c.self.view_is,
)

pub returns-then-serial-self-clause-kept : goal.returns-then-serial-self-clause-kept
returns-then-serial-self-clause-kept c =
    subst (λ (others : Serials). IsKept (map.insert others c.self.inside.serial c.self.inside.count)) (sym (unchanged c))
    (apart-kept c.self.inside.serial c.self.inside.count c.self.inside.others c.self.invariant)

-- ---- the first one

pub returns-then-self-gt1-clause-answered : goal.returns-then-self-gt1-clause-answered
returns-then-self-gt1-clause-answered c =
    let count_is : count_in c.args.self.now c.args.serial ≡ c.self.inside.count =
    ap (λ m. count_in m c.args.serial) (sym c.self.view_is) ∙ first-count c.self.inside.others c.args.serial c.self.inside.serial c.self.inside.count c.if-serial-self.false in (
      omega arith,
      first-less c.self.inside.others c.args.serial c.self.inside.serial c.self.inside.count c.if-serial-self.false c.if-self-gt1.true
          ∙ ap (λ m. one_less_in m c.args.serial) c.self.view_is,
    )

pub returns-then-self-gt1-clause-kept : goal.returns-then-self-gt1-clause-kept
returns-then-self-gt1-clause-kept c =
    let some : 1 ≤ c.self.inside.count - 1 = omega arith in
    apart-kept c.self.inside.serial (c.self.inside.count - 1) c.self.inside.others
    (first-apart c.self.inside.serial c.self.inside.count (c.self.inside.count - 1) c.self.inside.others some c.self.invariant)

pub invariant_of-self-in-Some : goal.invariant_of-self-in-Some
invariant_of-self-in-Some c =
    subst (λ (others : Serials). AreApart c.in-Some.serial c.in-Some.count others) (sym c.in-Some.ensures.some.1)
    (popped-apart c.self.inside.serial c.self.inside.count c.in-Some.serial c.in-Some.count c.self.inside.others c.self.invariant c.in-Some.ensures.some.0)

pub returns-in-Some-clause-answered : goal.returns-in-Some-clause-answered
returns-in-Some-clause-answered c =
    let count_is : count_in c.args.self.now c.args.serial ≡ c.self.inside.count =
    ap (λ m. count_in m c.args.serial) (sym c.self.view_is) ∙ first-count c.self.inside.others c.args.serial c.self.inside.serial c.self.inside.count c.if-serial-self.false in
    let counted = c.self.invariant.counted in (
      omega arith,
      ap (λ others. map.insert others c.in-Some.serial c.in-Some.count) c.in-Some.ensures.some.1
          ∙ popped-less c.self.inside.others c.args.serial c.self.inside.serial c.self.inside.count c.in-Some.serial c.in-Some.count
          c.if-serial-self.false c.if-self-gt1.false c.self.invariant.apart c.in-Some.ensures.some.0
          ∙ ap (λ m. one_less_in m c.args.serial) c.self.view_is,
    )

pub returns-in-Some-clause-kept : goal.returns-in-Some-clause-kept
returns-in-Some-clause-kept c = apart-kept c.in-Some.serial c.in-Some.count c.pop.new.self (invariant_of-self-in-Some c)

pub returns-in-None-clause-kept : goal.returns-in-None-clause-kept
returns-in-None-clause-kept c =
    subst (λ (others : Serials). IsKept (map.insert others c.self.inside.serial c.self.inside.count)) (c.in-None.ensures.none.0 ∙ sym c.in-None.ensures.none.1)
    (apart-kept c.self.inside.serial c.self.inside.count c.self.inside.others c.self.invariant)
