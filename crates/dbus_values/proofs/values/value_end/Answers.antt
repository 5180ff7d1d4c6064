use Rattle.std.proofs.Common.{ℕ, suc, List, length, drop, refl, sym, ◌∙◌, ap, arith}
use Rattle.std.proofs.lemmas.Bool.{eqb-true}
use Rattle.dbus_types.specs.Signature.{signature_fault}
use Rattle.dbus_values.specs.Walk.{walk_within, walk_types, end_at}
use Rattle.dbus_values.proofs.WalkLaws.{nothing_walked, one_type_walked, values_walked}
use Rattle.dbus_values.proofs.values.value_end.Goals as goal

pub returns-then-is_empty : goal.returns-then-is_empty
returns-then-is_empty c types e =
    sym (nothing_walked c.args.order c.as_bytes-types.result.now (record { place = c.args.at; bytes = drop c.args.at c.args.bytes.now }) (eqb-true (length c.as_bytes-types.result.now) 0 (sym c.is_empty.ensures ∙ c.if-is_empty.true)))
    ∙ values_walked c.args.order types c.as_bytes-types.result.now c.args.at c.args.bytes.now _ (ap signature_fault c.as_bytes-types.ensures ∙ c.args.signature.valid) (c.as_bytes-types.ensures ∙ e) refl (λ i. omega (arith, c.type_inv.bytes i))

pub returns-then-front_code-eq115 : goal.returns-then-front_code-eq115
returns-then-front_code-eq115 c types e =
    c.text_end.ensures
    ∙ ap (λ (s : List ℕ). end_at (walk_types (walk_within 65 c.args.order) (suc (length s)) s (record { place = c.args.at; bytes = drop c.args.at c.args.bytes.now })))
    (sym (one_type_walked c.as_bytes-types.result.now c.if-types-eq1.true (sym c.front_code.ensures ∙ c.if-front_code-eq115.true)))
    ∙ values_walked c.args.order types c.as_bytes-types.result.now c.args.at c.args.bytes.now _ (ap signature_fault c.as_bytes-types.ensures ∙ c.args.signature.valid) (c.as_bytes-types.ensures ∙ e) refl (λ i. omega (arith, c.type_inv.bytes i))

pub returns : goal.returns
returns c types e =
    c.body_end.ensures
    ∙ values_walked c.args.order types c.as_bytes-types.result.now c.args.at c.args.bytes.now _ (ap signature_fault c.as_bytes-types.ensures ∙ c.args.signature.valid) (c.as_bytes-types.ensures ∙ e) refl (λ i. omega (arith, c.type_inv.bytes i))
