-- Where reading stops, no further value or field can be read: so a fault's place is where the last valid one ended.
use Rattle.std.proofs.Common.{◌≡◌, ℕ, zero, suc, ◌+◌, ◌<◌, ◌≤◌, true, List, [], ◌∷◌, ◌++◌, length, drop, Option, Some, None, refl, sym, ap, subst, ◌∙◌, arith, inl, inr}
use Rattle.std.specs.Prelude.{◌⊎◌}
use Rattle.std.proofs.lemmas.List.{length-append, nil_from_length}
use Rattle.std.proofs.lemmas.Option.{none-some}
use Rattle.byte_lists.specs.Bytes.{AreBytes}
use Rattle.dbus_types.specs.Signature.{Complete, is_complete}
use Rattle.dbus_values.specs.Values.{Value, a_variant, type_of, spelled, is_value, is_within}
use Rattle.dbus_values.specs.Reading.{At, when, value_at, values_at, and_then_all}
use Rattle.dbus_header.specs.Message.{Field, field_value, may_follow}
use Rattle.dbus_header.specs.Malformed.{field_at, valid_field_at, fields_at}
use Rattle.dbus_values.proofs.ValueLaws.{then_is, when_true}
use Rattle.dbus_values.proofs.ValueRead.{bind_case, when_is}
use Rattle.dbus_values.proofs.ValueAgain.{spelled_pos}
use Rattle.dbus_header.proofs.MessageAgain.{value_again, field_again, no_field_there}
use Rattle.dbus_header.proofs.MessageRead.{FieldSpelt, field_is}
use Rattle.dbus_values.specs.declared.Order.{Order}

-- ---- body values

-- all types have their values, or the next type has none where reading stopped
abbrev pub Stops : Order → List Complete → List Value × At → Type 0
Stops o ts x = (length x.0 ≡ length ts) ⊎ ((t : Complete) × (others : List Complete) × (drop (length x.0) ts ≡ t ∷ others) × (value_at o t x.1 ≡ None))

pub values_stop : (ts : List Complete) (o : Order) (a : At) → Stops o ts (values_at o ts a)
values_stop [] o a = inl refl
values_stop (t ∷ ts) o a = go (values_stop ts o) (value_at o t a) refl
  where
    go : ((b : At) → Stops o ts (values_at o ts b)) → (r : Option (Value × At)) → value_at o t a ≡ r → Stops o (t ∷ ts) (and_then_all r a (λ v rest. values_at o ts rest))
    go ih None e = inr (t, ts, refl, e)
    go ih (Some x) e = elim (ih x.1) [ inl same ↦ inl (ap suc same) | inr next ↦ inr next ]

-- what isn't read isn't there
pub no_value : (o : Order) (t : Complete) (b : At) → value_at o t b ≡ None → (v : Value) (more : List ℕ) → type_of v ≡ t → is_complete t ≡ true → is_within 64 v ≡ true → is_value o b.place v ≡ true → b.bytes ≡ spelled o b.place v ++ more → ⊥
no_value o t b none v more type complete deep sound bytes =
    let again = value_again v o b.place more deep sound (ap is_complete type ∙ complete) in
    none-some (v, _) (sym none ∙ ap (λ (u : Complete). value_at o u b) (sym type) ∙ ap (λ (x : List ℕ). value_at o (type_of v) (record { place = b.place; bytes = x })) bytes ∙ again)

-- ---- fields

-- the fields before the next one, the last of them first
abbrev pub onto : List Field → List Field → List Field
onto before [] = before
onto before (f ∷ fields) = onto (f ∷ before) fields

pub fields_stop : (n : ℕ) (o : Order) (before : List Field) (a : At) → AreBytes a.bytes → length a.bytes ≤ n → let x = fields_at o n before a in valid_field_at o (onto before x.0) x.1 ≡ None
fields_stop zero o before a are short = ap (λ (b : List ℕ). valid_field_at o before (record { place = a.place; bytes = b })) (nil_from_length a.bytes (omega (arith, short))) ∙ no_field_there o before a.place
fields_stop (suc n) o before a are short = go (λ f b. fields_stop n o (f ∷ before) b) (valid_field_at o before a) refl
  where
    go : ((f : Field) (b : At) → AreBytes b.bytes → length b.bytes ≤ n → let x = fields_at o n (f ∷ before) b in valid_field_at o (onto (f ∷ before) x.0) x.1 ≡ None) → (r : Option (Field × At)) → valid_field_at o before a ≡ r
        → let x = and_then_all r a (λ f rest. fields_at o n (f ∷ before) rest) in valid_field_at o (onto before x.0) x.1 ≡ None
    go ih None e = e
    go ih (Some x) e =
        bind_case (field_at o a) (λ y. when (may_follow before y.0) y) x e (λ y ey e1.
        let w = when_is (may_follow before y.0) y x e1 in
        let s : FieldSpelt o a x = subst (FieldSpelt o a) w.1 (field_is o a y are ey) in
        let len : length a.bytes ≡ length (spelled o a.place (field_value x.0)) + length x.1.bytes = ap length s.2.bytes ∙ length-append (spelled o a.place (field_value x.0)) x.1.bytes in
        ih x.0 x.1 s.2.are (less (length a.bytes) (length (spelled o a.place (field_value x.0))) (length x.1.bytes) n len (spelled_pos (field_value x.0) o a.place) short))
      where
        less : (a s b n : ℕ) → a ≡ s + b → 0 < s → a ≤ suc n → b ≤ n
        less a s b n e p h = omega arith

pub no_field : (o : Order) (before : List Field) (b : At) → valid_field_at o before b ≡ None → (f : Field) (more : List ℕ) → may_follow before f ≡ true → is_within 64 (a_variant f.value) ≡ true → is_value o b.place (field_value f) ≡ true → b.bytes ≡ spelled o b.place (field_value f) ++ more → ⊥
no_field o before b none f more follows deep sound bytes =
    let place = b.place + length (spelled o b.place (field_value f)) in
    let end : At = record { place = place; bytes = more } in
    let read : valid_field_at o before (record { place = b.place; bytes = spelled o b.place (field_value f) ++ more }) ≡ Some (f, end) = then_is _ _ _ _ (field_again f o b.place more deep sound) (when_true (may_follow before f) (f, end) follows) in
    none-some (f, end) (sym none ∙ ap (λ (x : List ℕ). valid_field_at o before (record { place = b.place; bytes = x })) bytes ∙ read)
