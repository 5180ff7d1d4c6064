-- Spelling and reading are inverse to each other, within the limits of messages.
use Rattle.std.proofs.Common.{◌≡◌, ℕ, ◌+◌, true, List, ◌++◌, length, Option, Some, None, sym, ap, ◌∙◌, arith}
use Rattle.std.proofs.lemmas.Bool.{leb-true, le-leb}
use Rattle.byte_lists.specs.Bytes.{AreBytes}
use Rattle.dbus_types.specs.Signature.{Complete, is_complete}
use Rattle.dbus_values.specs.Values.{Value, type_of, spelled, is_value, is_within, depth}
use Rattle.dbus_values.specs.Reading.{At, value_at, value_within}
use Rattle.dbus_values.specs.Ends.{IsSpelled, NoneSpelled}
use Rattle.dbus_values.proofs.ValueIs.{within-is}
use Rattle.dbus_values.proofs.ValueAgain.{plain, again, element_type}
use Rattle.dbus_values.specs.declared.Order.{Order}

pub value_again : (o : Order) (p : ℕ) (v : Value) (r : List ℕ) → is_within 64 v ≡ true → is_value o p v ≡ true → is_complete (type_of v) ≡ true
    → value_at o (type_of v) (record { place = p; bytes = spelled o p v ++ r }) ≡ Some (v, record { place = p + length (spelled o p v); bytes = r })
value_again o p v r d i c =
    plain (value_within 65 o) (type_of v) (record { place = p; bytes = spelled o p v ++ r }) c
    ∙ again v 64 o p r (omega (arith, leb-true (depth v) 64 d)) i (element_type (type_of v) c)

pub value_spelled : (o : Order) (t : Complete) (a : At) (x : Value × At) → is_complete t ≡ true → AreBytes a.bytes → value_at o t a ≡ Some x → IsSpelled o t a x
value_spelled o t a x c h e =
    let s = within-is 65 o t a x c h e in
    record { typed = s.type; within = le-leb (depth x.0) 64 (omega (arith, s.deep)); valid = s.sound; bytes = s.takes.bytes; place = s.takes.place }

some_none : {A : Type 0} (x : A) (o : Option A) → o ≡ Some x → o ≡ None → ⊥
some_none x None e n = absurd cc
some_none x (Some y) e n = absurd cc

pub none_spelled : (o : Order) (t : Complete) (a : At) → is_complete t ≡ true → value_at o t a ≡ None → NoneSpelled o t a
none_spelled o t a c none v others type within valid bytes =
    some_none (v, _) (value_at o t a)
    (ap (λ (u : Complete). value_at o u a) (sym type) ∙ ap (λ (b : List ℕ). value_at o (type_of v) (record { place = a.place; bytes = b })) bytes ∙ value_again o a.place v others within valid (ap is_complete type ∙ c))
    none
