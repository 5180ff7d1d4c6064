use Rattle.std.proofs.Common.{◌≡◌, sym, subst}
use Rattle.std.specs.Prelude.{IfOk, OnOk, IsTrue, ◌↔◌, Result, Ok, Err}
use Rattle.policy_args.specs.Policy.{Policy}
use Rattle.policy_args.specs.Requests.{Within}
use Rattle.std.proofs.Common.{true}
use Rattle.policy_within.specs.Apart.{are_patterns, are_rooted}
use Rattle.policy_within.specs.Elements.{IsFirstFree, elements, fresh}
use Rattle.policy_within.proofs.Apart.{fresh-apart}
use Rattle.policy_within.specs.Within.{Tells, answer_of, is_yes}
use Rattle.policy_within.specs.declared.answer.WithinAnswer.{WithinAnswer}
use Rattle.policy_within.proofs.Answers.{AreFit, answer-tells, yes-exact}
use Rattle.policy_within.proofs.within.Goals as goal

-- what holds of the answer that the definition gives
of-answer : {E : Type 0} (inner outer : Policy) (holds : WithinAnswer → Type 0) (result : Result WithinAnswer E) → (AreFit (fresh outer.entries) inner.entries outer.entries → holds (answer_of inner outer)) →
    are_patterns inner.entries ≡ true → IfOk result (λ answer. answer ≡ answer_of inner outer) → OnOk result (IsFirstFree (elements outer.entries) (fresh outer.entries)) → OnOk result (are_rooted outer.entries ≡ true) → IfOk result holds
of-answer inner outer holds (Ok answer) h patterns exact first rooted = subst holds (sym exact) (h (record { patterns = patterns; apart = fresh-apart outer.entries rooted first }))
of-answer inner outer holds (Err e) h patterns exact first rooted = tt

pub returns-clause-yes : goal.returns-clause-yes
returns-clause-yes c =
    of-answer c.args.inner.now c.args.outer.now (λ answer. IsTrue (is_yes answer) ↔ Within c.args.inner.now c.args.outer.now) c.compare.result
    (yes-exact c.permits_by_entries.ensures c.args.inner.now c.args.outer.now) c.check_patterns.ensures c.compare.ensures.exact c.compare.ensures.free c.compare.ensures.rooted

pub returns-clause-tells : goal.returns-clause-tells
returns-clause-tells c =
    of-answer c.args.inner.now c.args.outer.now (Tells c.args.inner.now c.args.outer.now) c.compare.result
    (answer-tells c.permits_by_entries.ensures c.args.inner.now c.args.outer.now) c.check_patterns.ensures c.compare.ensures.exact c.compare.ensures.free c.compare.ensures.rooted
