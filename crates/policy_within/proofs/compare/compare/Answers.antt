use Rattle.std.proofs.Common.{◌≡◌, ◌∙◌, ◌≤◌, ◌+◌, ◌-◌, ap, sym, refl, subst, arith, length, slice_get, Some}
use Rattle.policy_within.specs.Apart.{IsPlain}
use Rattle.policy_within.proofs.Apart.{fresh-plain}
use Rattle.policy_within.specs.Steps.{cover_of}
use Rattle.policy_within.specs.declared.answer.WithinAnswer.TheVariants.{Yes}
use Rattle.policy_within.proofs.Covers.{all-covered, first-refused, one-covered}
use Rattle.policy_within.proofs.compare.compare.Goals as goal

pub cover-requires : goal.cover-requires
cover-requires c = subst (λ f. IsPlain f) (sym (c.as_str.ensures.value ∙ c.in_ok-fresh.ensures.fresh)) (fresh-plain c.args.outer.now.entries c.in_ok-fresh.ensures.free)

pub returns-in-Err-clause-exact : goal.returns-in-Err-clause-exact
returns-in-Err-clause-exact c =
    let number : c.loop-index.index ≡ c.loop-index.index + 1 - 1 = omega arith in
    let here : slice_get c.args.inner.now.entries c.loop-index.index ≡ Some c.entry.result.now = ap (slice_get c.args.inner.now.entries) number ∙ c.entry.ensures in
    first-refused c.args.inner.now c.args.outer.now c.loop-index.index c.loop-index.covered.items c.entry.result.now c.in-Err.asked here
    (sym c.in-Err.is ∙ c.in_ok-by.ensures ∙ ap (λ f. cover_of c.args.outer.now f c.entry.result.now) (c.as_str.ensures.value ∙ c.in_ok-fresh.ensures.fresh))
    c.loop-index.invariant

pub loop-index-preserved : goal.loop-index-preserved
loop-index-preserved c =
    let number : c.loop-index.index ≡ c.loop-index.index + 1 - 1 = omega arith in
    let here : slice_get c.args.inner.now.entries c.loop-index.index ≡ Some c.entry.result.now = ap (slice_get c.args.inner.now.entries) number ∙ c.entry.ensures in
    one-covered c.args.inner.now c.args.outer.now c.loop-index.index c.loop-index.covered.items c.push.new.self.items c.entry.result.now (c.loop-index.index + 1) c.in-Ok.by here refl
    (sym c.in-Ok.is ∙ c.in_ok-by.ensures ∙ ap (λ f. cover_of c.args.outer.now f c.entry.result.now) (c.as_str.ensures.value ∙ c.in_ok-fresh.ensures.fresh))
    c.in_ok-push-in-Ok.ensures.items c.loop-index.invariant

pub returns-clause-exact : goal.returns-clause-exact
returns-clause-exact c =
    let past : length c.args.inner.now.entries ≤ c.loop-index.index = omega arith in
    ap Yes c.new.ensures ∙ all-covered c.args.inner.now c.args.outer.now c.loop-index.index c.loop-index.covered.items past c.loop-index.invariant
