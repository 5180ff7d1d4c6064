use Rattle.std.proofs.Common.{ap, arith, codes, IsSome, nat_eq, subst, sym, ◌∙◌}
use Rattle.std.specs.List.{starts_with}
use Rattle.dbus_values.specs.Bodies.{two_at}
use Rattle.dbus_values.specs.Reading.{◌>>=◌}
use Rattle.dbus_values.proofs.BodyLaws.{two_strings, two_other, two_only}
use Rattle.dbus_values.proofs.texts.two_texts.Goals as goal

pub pair-requires : goal.pair-requires
pair-requires c =
    subst (λ a. IsSome (two_at c.args.order a)) (sym c.start.ensures)
    (two_strings c.args.order c.args.signature.bytes.now c.args.body.now c.requires.0 c.requires.1 c.requires.2 c.requires.3
    (ap (λ s. starts_with nat_eq s (codes "ss")) (sym c.as_bytes.ensures) ∙ sym c.starts_with.ensures.value ∙ c.if-starts_with.true)).1

pub returns-then-starts_with : goal.returns-then-starts_with
returns-then-starts_with c place types values b =
    ap (λ x. x >>= two_only) (c.pair.ensures ∙ ap (two_at c.args.order) c.start.ensures)
    ∙ (two_strings c.args.order c.args.signature.bytes.now c.args.body.now place types values b
    (ap (λ s. starts_with nat_eq s (codes "ss")) (sym c.as_bytes.ensures) ∙ sym c.starts_with.ensures.value ∙ c.if-starts_with.true)).0

pub returns-else-starts_with : goal.returns-else-starts_with
returns-else-starts_with c place types values b =
    two_other c.args.order c.args.signature.bytes.now c.args.body.now place types values b c.args.signature.valid (λ i. omega (arith, c.type_inv.body i))
    (ap (λ s. starts_with nat_eq s (codes "ss")) (sym c.as_bytes.ensures) ∙ sym c.starts_with.ensures.value ∙ c.if-starts_with.false)
