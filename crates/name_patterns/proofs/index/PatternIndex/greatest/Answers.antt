use Rattle.std.proofs.Common.{rules, ap, sym, ◌∙◌, ℕ, max, arith}
use Rattle.name_patterns.specs.Ranks.{greatest}
use Rattle.name_patterns.proofs.PatternFronts.{IsBeforeLastDot, before-last_dot, elements-cut, greatest-all, greatest-front, greatest-whole, is_below, no-dot, one-element}
use Rattle.name_patterns.proofs.index.PatternIndex.greatest.Goals as goal

pub loop-front-init : goal.loop-front-init
loop-front-init g c = (
  search rules,
  λ added is.
      ap (λ (n : ℕ). max n (greatest (is_below c.args.name.now) added)) (c.greater-rank.ensures ∙ ap (λ k. max k.exact k.subtree) c.look_up-whole.ensures.ranks)
      ∙ greatest-whole added c.args.self.now is c.args.name.now,
  omega (arith, c.look_up-whole.ensures.cost),
)

pub loop-front-preserved : goal.loop-front-preserved
loop-front-preserved g c =
    let cut : IsBeforeLastDot c.loop-front.rest.now c.in-Some.front.now = before-last_dot c.loop-front.rest.now c.in-Some.front.now c.in-Some.field-0-1.now c.in-Some.ensures.cases in (
      search rules,
      λ added is.
          ap (λ (n : ℕ). max n (greatest (is_below c.in-Some.front.now) added)) (c.greater-rank-in-Some.ensures ∙ ap (λ k. max c.loop-front.rank k.subtree) c.look_up.ensures.ranks)
          ∙ greatest-front added c.args.self.now is c.loop-front.rest.now c.in-Some.front.now c.loop-front.rank cut
          ∙ c.loop-front.invariant.1 added is,
      omega (arith, c.look_up.ensures.cost, elements-cut c.loop-front.rest.now c.in-Some.front.now cut, c.loop-front.invariant.2),
    )

pub returns-clause-rank : goal.returns-clause-rank
returns-clause-rank g c = λ added is.
    sym (greatest-all added c.loop-front.rest.now c.loop-front.rank (no-dot c.loop-front.rest.now c.in_default.ensures.cases))
    ∙ c.loop-front.invariant.1 added is

pub returns-clause-cost : goal.returns-clause-cost
returns-clause-cost g c = omega (arith, one-element c.loop-front.rest.now (no-dot c.loop-front.rest.now c.in_default.ensures.cases), c.loop-front.invariant.2)
