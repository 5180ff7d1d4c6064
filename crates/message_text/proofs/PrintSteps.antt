-- The steps of printing values.
use Rattle.std.proofs.Common.{◌≡◌, ℕ, zero, suc, ◌-◌, ◌<◌, false, cond, List, [], ◌∷◌, ◌++◌, length, refl, sym, ap, ◌∙◌, arith}
use Rattle.std.specs.Prelude.{◌==◌}
use Rattle.byte_lists.specs.Bytes.{is_empty}
use Rattle.dbus_values.specs.Reading.{At}
use Rattle.dbus_values.specs.Walk.{front_code}
use Rattle.dbus_values.specs.declared.Order.{Order}
use Rattle.message_text.specs.MessageText.{Text}
use Rattle.message_text.specs.Printing.{Print, Printed, Typed, print_items, print_members, print_by, print_within, print_field, print_fields, print_values}

pub printed_none : (o : Order) (n : ℕ) (out : Text) (types : List ℕ) (at : At) → n ≡ 0 → (let x : Typed = (out, types, at) in x ≡ print_within n o out types at)
unfolding print_within
printed_none o zero out types at e = refl
printed_none o (suc n) out types at e = absurd (omega arith)

less : (n : ℕ) → n ≡ suc n - 1
less n = omega arith

pub printed_down : (o : Order) (n : ℕ) (out : Text) (types : List ℕ) (at : At) → (n ≡ 0 → ⊥) → print_within n o out types at ≡ print_by o (print_within (n - 1) o) out types at
unfolding print_within
printed_down o zero out types at e = absurd (e refl)
printed_down o (suc n) out types at e = ap (λ (m : ℕ). print_by o (print_within m o) out types at) (less n)

pub item_printed : (item : Text → At → Typed) (n : ℕ) (out : Text) (at : At) (x : Typed) → 0 < n → is_empty at.bytes ≡ false → item (out ++ 32 ∷ []) at ≡ x → print_items item (n - 1) x.0 x.2 ≡ print_items item n out at
item_printed item zero out at x low full e = absurd (omega arith)
item_printed item (suc n) out at x low full e = ap (λ (m : ℕ). print_items item m x.0 x.2) (sym (less n)) ∙ sym (ap (λ b. cond b out (let y = item (out ++ 32 ∷ []) at in print_items item n y.0 y.2)) full ∙ ap (λ (y : Typed). print_items item n y.0 y.2) e)

pub member_printed : (inner : Print) (n : ℕ) (out : Text) (types : List ℕ) (at : At) (x : Typed) → 0 < n → (front_code types == 41) ≡ false → inner (out ++ 32 ∷ []) types at ≡ x → print_members inner (n - 1) x.0 x.1 x.2 ≡ print_members inner n out types at
member_printed inner zero out types at x low more e = absurd (omega arith)
member_printed inner (suc n) out types at x low more e =
    let here : Typed = (out, types, at) in
    ap (λ (m : ℕ). print_members inner m x.0 x.1 x.2) (sym (less n)) ∙ sym (ap (λ b. cond b here (let y = inner (out ++ 32 ∷ []) types at in print_members inner n y.0 y.1 y.2)) more ∙ ap (λ (y : Typed). print_members inner n y.0 y.1 y.2) e)

pub not_empty : (xs : List ℕ) → false ≡ (length xs == 0) → is_empty xs ≡ false
not_empty [] e = absurd cc
not_empty (x ∷ xs) e = refl

pub field_printed : (o : Order) (n : ℕ) (out : Text) (at : At) (x : Printed) → 0 < n → is_empty at.bytes ≡ false → print_field o out at ≡ x → print_fields o (n - 1) x.0 x.1 ≡ print_fields o n out at
field_printed o zero out at x low full e = absurd (omega arith)
field_printed o (suc n) out at x low full e =
    ap (λ (m : ℕ). print_fields o m x.0 x.1) (sym (less n))
    ∙ sym (ap (λ b. cond b out (let y = print_field o out at in print_fields o n y.0 y.1)) full ∙ ap (λ (y : Printed). print_fields o n y.0 y.1) e)

pub value_printed : (o : Order) (n : ℕ) (out : Text) (types : List ℕ) (at : At) (x : Typed) → 0 < n → is_empty types ≡ false → print_within 65 o (out ++ 32 ∷ []) types at ≡ x → print_values o (n - 1) x.0 x.1 x.2 ≡ print_values o n out types at
value_printed o zero out types at x low full e = absurd (omega arith)
value_printed o (suc n) out types at x low full e =
    ap (λ (m : ℕ). print_values o m x.0 x.1 x.2) (sym (less n))
    ∙ sym (ap (λ b. cond b out (let y = print_within 65 o (out ++ 32 ∷ []) types at in print_values o n y.0 y.1 y.2)) full ∙ ap (λ (y : Typed). print_values o n y.0 y.1 y.2) e)
