use Rattle.std.proofs.Common.{rules, ap, sym, ◌∙◌, ℕ, Option, arith}
use Rattle.name_patterns.specs.PatternIndex.{lesser}
use Rattle.name_patterns.specs.Ranks.{next_place}
use Rattle.name_patterns.proofs.NextPlaces.{next-all, next-front, next-whole}
use Rattle.name_patterns.proofs.PatternFronts.{IsBeforeLastDot, before-last_dot, elements-cut, is_below, no-dot, one-element}
use Rattle.name_patterns.proofs.index.PatternIndex.next_covering.Goals as goal

pub loop-front-init : goal.loop-front-init
loop-front-init g c = (
  search rules,
  λ added is.
      ap (λ (n : Option ℕ). lesser n (next_place (is_below c.args.name.now) c.args.from added)) (c.next_named-next.ensures.next added is)
      ∙ next-whole added c.args.from c.args.name.now,
  omega (arith, c.next_named-next.ensures.cost),
)

pub loop-front-preserved : goal.loop-front-preserved
loop-front-preserved g c =
    let cut : IsBeforeLastDot c.loop-front.left.now c.in-Some.front.now = before-last_dot c.loop-front.left.now c.in-Some.front.now c.in-Some.field-0-1.now c.in-Some.ensures.cases in (
      search rules,
      λ added is.
          ap (λ (n : Option ℕ). lesser n (next_place (is_below c.in-Some.front.now) c.args.from added)) (c.earlier-next.ensures ∙ ap (lesser c.loop-front.next) (c.next_below.ensures.next added is))
          ∙ next-front added c.args.from c.loop-front.left.now c.in-Some.front.now c.loop-front.next cut
          ∙ c.loop-front.invariant.1 added is,
      omega (arith, c.next_below.ensures.cost, elements-cut c.loop-front.left.now c.in-Some.front.now cut, c.loop-front.invariant.2),
    )

pub returns-clause-next : goal.returns-clause-next
returns-clause-next g c = λ added is.
    sym (next-all added c.args.from c.loop-front.left.now c.loop-front.next (no-dot c.loop-front.left.now c.in_default.ensures.cases))
    ∙ c.loop-front.invariant.1 added is

pub returns-clause-cost : goal.returns-clause-cost
returns-clause-cost g c = omega (arith, one-element c.loop-front.left.now (no-dot c.loop-front.left.now c.in_default.ensures.cases), c.loop-front.invariant.2)
