use Rattle.std.proofs.Common.{ap, arith, codes, IsSome, nat_eq, subst, sym, ◌∙◌}
use Rattle.std.specs.List.{starts_with}
use Rattle.dbus_values.specs.Reading.{◌>>=◌, text_at}
use Rattle.dbus_values.proofs.BodyLaws.{first_string, first_other, text_only}
use Rattle.dbus_values.proofs.texts.first_text.Goals as goal

pub text-requires : goal.text-requires
text-requires c =
    subst (λ a. IsSome (text_at c.args.order a)) (sym c.start.ensures)
    (first_string c.args.order c.args.signature.bytes.now c.args.body.now c.requires.0 c.requires.1 c.requires.2 c.requires.3
    (ap (λ s. starts_with nat_eq s (codes "s")) (sym c.as_bytes.ensures) ∙ sym c.starts_with.ensures.value ∙ c.if-starts_with.true)).1

pub returns-then-starts_with : goal.returns-then-starts_with
returns-then-starts_with c place types values b =
    ap (λ x. x >>= text_only) (c.text.ensures ∙ ap (text_at c.args.order) c.start.ensures)
    ∙ (first_string c.args.order c.args.signature.bytes.now c.args.body.now place types values b
    (ap (λ s. starts_with nat_eq s (codes "s")) (sym c.as_bytes.ensures) ∙ sym c.starts_with.ensures.value ∙ c.if-starts_with.true)).0

pub returns-else-starts_with : goal.returns-else-starts_with
returns-else-starts_with c place types values b =
    first_other c.args.order c.args.signature.bytes.now c.args.body.now place types values b c.args.signature.valid (λ i. omega (arith, c.type_inv.body i))
    (ap (λ s. starts_with nat_eq s (codes "s")) (sym c.as_bytes.ensures) ∙ sym c.starts_with.ensures.value ∙ c.if-starts_with.false)
