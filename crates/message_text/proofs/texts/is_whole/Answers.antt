use Rattle.std.proofs.Common.{◌<◌, length, sym, ◌∙◌, arith}
use Rattle.std.proofs.lemmas.Bool.{eqb-true, eq-eqb}
use Rattle.dbus_header.proofs.NumberLaws.{is_whole}
use Rattle.message_text.proofs.WholeBytes.{same_as_head, no_fault}
use Rattle.message_text.proofs.texts.is_whole.Goals as goal

pub returns-in-None-clause-message : goal.returns-in-None-clause-message
returns-in-None-clause-message c = λ s.
    let short : length c.args.bytes.now < 16 = c.in-None.ensures.cases in
    absurd (omega (arith, short, (is_whole c.args.bytes.now (λ i. omega (arith, c.type_inv.bytes i)) s).long))

pub returns-in-Ok-clause-whole : goal.returns-in-Ok-clause-whole
returns-in-Ok-clause-whole c = λ e n. sym (eqb-true c.in-Ok.len (length c.args.bytes.now) e) ∙ c.in-Ok.ensures.length ∙ sym (same_as_head c.args.bytes.now c.in-Some.head.now c.in-Some.ensures.cases).0

pub returns-in-Ok-clause-message : goal.returns-in-Ok-clause-message
returns-in-Ok-clause-message c = λ s.
    eq-eqb c.in-Ok.len (length c.args.bytes.now) (c.in-Ok.ensures.length ∙ sym (same_as_head c.args.bytes.now c.in-Some.head.now c.in-Some.ensures.cases).0 ∙ sym (is_whole c.args.bytes.now (λ i. omega (arith, c.type_inv.bytes i)) s).exact)

pub returns-in-Err-clause-message : goal.returns-in-Err-clause-message
returns-in-Err-clause-message c = λ s.
    no_fault c.in-Err.field-0 (c.in-Err.ensures.refusal ∙ sym (same_as_head c.args.bytes.now c.in-Some.head.now c.in-Some.ensures.cases).1 ∙ (is_whole c.args.bytes.now (λ i. omega (arith, c.type_inv.bytes i)) s).head)
