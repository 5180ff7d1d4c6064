use Rattle.std.proofs.Common.{List, ℕ, sym, subst}
use Rattle.message_text.specs.TextOf.{IsTextOf}
use Rattle.message_text.proofs.ReadAnswers.{text_answer, shape_answer, no_answer}
use Rattle.message_text.proofs.texts.read.Goals as goal

pub returns-in-Ok-None : goal.returns-in-Ok-None
returns-in-Ok-None c = no_answer c.args.text.now (sym (rw c.in-Ok-None.field-0-is at c.in-Ok-None.ensures))

pub returns-in-Ok-true : goal.returns-in-Ok-true
returns-in-Ok-true c =
    let t : IsTextOf c.deref.result.now c.args.text.now = c.in-Ok-true.ensures.yes c.in-Ok-true.field-0-test in
    text_answer c.args.text.now c.in-Ok-Some.bytes.items (subst (λ (b : List ℕ). IsTextOf b c.args.text.now) c.deref.ensures.value t)

pub returns-in-Ok-false : goal.returns-in-Ok-false
returns-in-Ok-false c =
    shape_answer c.args.text.now c.in-Ok-Some.bytes.items (sym (rw c.in-Ok-Some.field-0-is at c.in-Ok-Some.ensures))
    (λ t. c.in-Ok-false.ensures.no c.in-Ok-false.field-0-test (subst (λ (b : List ℕ). IsTextOf b c.args.text.now) (sym c.deref.ensures.value) t))
