-- A field's code, and the variant after it.
use Rattle.std.proofs.Common.{◌≡◌, ℕ, ◌+◌, ◌<◌, ◌≤◌, Bool, true, false, cond, List, length, take, drop, get_or, Option, Some, None, refl, sym, ap, ◌∙◌, arith, inl, inr}
use Rattle.std.specs.Prelude.{◌&&◌, nat_lt, nat_le, ◌⊎◌}
use Rattle.std.specs.Int.{w8}
use Rattle.std.proofs.lemmas.Bool.{le-leb, lt-leb, lt-ltb, le-ltb, cases_lt}
use Rattle.byte_lists.specs.Bytes.{AreBytes}
use Rattle.byte_lists.proofs.Options.{some}
use Rattle.dbus_types.specs.Signature.{Complete, basic, number, byte, variant, and, no_types}
use Rattle.dbus_values.specs.Values.{Value, a_number, a_variant, a_struct, no_values, value, padding}
use Rattle.dbus_values.specs.Reading.{At, ◌>>=◌, when, all_zero, a_width, signature_at, one_type, each_of, value_by, value_within}
use Rattle.dbus_values.specs.declared.Order.{Order}
use Rattle.dbus_header.specs.Message.{Field, is_field_of}
use Rattle.dbus_header.specs.Malformed.{field_of}
use Rattle.dbus_header.specs.HeaderFields.{at_place}
use Rattle.dbus_header.proofs.Aligned.{no_gap_1}
use Rattle.dbus_header.proofs.FieldSteps.{field, sound_field_at, some_two, aligned_at, no_padding, byte_width}

abbrev pub Inner : Type 0
Inner = Complete → At → Option (Value × At)

abbrev byte_value : ℕ × At → Option (Value × At)
byte_value x = when (nat_lt x.0 256) (a_number byte x.0, x.1)

byte_read : (bytes : List ℕ) (o : Order) (inner : Inner) (q : ℕ) → AreBytes bytes → q ≤ length bytes →
    value_by o inner (basic (number byte)) (at_place bytes q) ≡ cond (nat_lt q (length bytes)) (some_two (a_number byte (get_or bytes q 0)) (at_place bytes (q + 1))) None
byte_read bytes o inner q are inside =
    ap (λ (x : Option At). x >>= λ s. a_width o w8 s >>= byte_value) (no_padding bytes 1 q (no_gap_1 q) inside)
    ∙ ap (λ (x : Option (ℕ × At)). x >>= byte_value) (byte_width bytes o q are inside)
    ∙ by (nat_lt q (length bytes))
  where
    by : (b : Bool) → (cond b (some_two (get_or bytes q 0) (at_place bytes (q + 1))) None >>= byte_value) ≡ cond b (some_two (a_number byte (get_or bytes q 0)) (at_place bytes (q + 1))) None
    by true = ap (λ (b : Bool). cond b (some_two (a_number byte (get_or bytes q 0)) (at_place bytes (q + 1))) None) (lt-ltb (get_or bytes q 0) 256 (are q))
    by false = refl

abbrev pub field_with : ℕ → Value × At → Option (Field × At)
field_with c x = when (is_field_of c x.0) (field c x.0, x.1)

abbrev pub typed_value : Inner → ℕ → List Complete × At → Option (Field × At)
typed_value inner c ts = one_type ts.0 >>= λ t. inner t ts.1 >>= field_with c

-- the field with a code, whose variant is there
abbrev pub variant_field : Inner → ℕ → At → Option (Field × At)
variant_field inner c a = signature_at a >>= typed_value inner c

abbrev as_field : Value × At → Option (Field × At)
as_field x = field_of x.0 >>= λ f. Some (f, x.1)

abbrev if_sound : Field × At → Option (Field × At)
if_sound x = when (is_field_of x.0.code x.0.value) x

abbrev pub as_variant : Value × At → Option (Value × At)
as_variant x = Some (a_variant x.0, x.1)

abbrev members : Order → Inner → Value × At → Option (Value × At)
members o inner x = each_of (value_by o inner) (and variant no_types) x.1 >>= λ xs. Some (a_struct x.0 xs.0, xs.1)

abbrev struct_field : Order → Inner → At → Option (Value × At)
struct_field o inner s = value_by o inner (basic (number byte)) s >>= members o inner

abbrev checked_field : Option (Value × At) → Option (Field × At)
checked_field x = (x >>= as_field) >>= if_sound

abbrev finished : ℕ → Option (Value × At) → Option (Field × At)
finished c v = checked_field ((v >>= λ x. some_two (value x.0 no_values) x.1) >>= λ xs. some_two (a_struct (a_number byte c) xs.0) xs.1)

abbrev read_variant : Inner → Option (List Complete × At) → Option (Value × At)
read_variant inner ts = ts >>= λ x. one_type x.0 >>= λ t. inner t x.1 >>= as_variant

after_code : (o : Order) (inner : Inner) (c : ℕ) (a : At) → checked_field (members o inner (a_number byte c, a)) ≡ variant_field inner c a
after_code o inner c a = signed (signature_at a)
  where
    valued : (v : Option (Value × At)) → finished c (v >>= as_variant) ≡ (v >>= field_with c)
    valued None = refl
    valued (Some x) = refl

    typed : (t : Option Complete) (b : At) → finished c (t >>= λ u. inner u b >>= as_variant) ≡ (t >>= λ u. inner u b >>= field_with c)
    typed None b = refl
    typed (Some t) b = valued (inner t b)

    signed : (ts : Option (List Complete × At)) → finished c (read_variant inner ts) ≡ (ts >>= typed_value inner c)
    signed None = refl
    signed (Some x) = typed (one_type x.0) x.1

abbrev none_field : Option (Field × At)
none_field = None

pub sound_at : (bytes : List ℕ) (o : Order) (q : ℕ) → AreBytes bytes → q ≤ length bytes →
    sound_field_at o (at_place bytes q) ≡ cond (nat_lt (q + padding 8 q) (length bytes) && all_zero (take (padding 8 q) (drop q bytes)))
    (variant_field (value_within 64 o) (get_or bytes (q + padding 8 q) 0) (at_place bytes (q + padding 8 q + 1))) None
sound_at bytes o q are inside =
    ap (λ (x : Option At). checked_field (x >>= struct_field o (value_within 64 o))) (aligned_at bytes 8 q inside)
    ∙ go (cases_lt (q + padding 8 q) (length bytes)) (all_zero (take (padding 8 q) (drop q bytes)))
  where
    go : (q + padding 8 q < length bytes) ⊎ (length bytes ≤ q + padding 8 q) → (z : Bool) →
        checked_field (cond (nat_le (q + padding 8 q) (length bytes) && z) (some (at_place bytes (q + padding 8 q))) None >>= struct_field o (value_within 64 o))
        ≡ cond (nat_lt (q + padding 8 q) (length bytes) && z) (variant_field (value_within 64 o) (get_or bytes (q + padding 8 q) 0) (at_place bytes (q + padding 8 q + 1))) None
    go (inl lt) true =
        ap (λ (b : Bool). checked_field (cond (b && true) (some (at_place bytes (q + padding 8 q))) None >>= struct_field o (value_within 64 o))) (le-leb (q + padding 8 q) (length bytes) (omega arith))
        ∙ ap (λ (x : Option (Value × At)). checked_field (x >>= members o (value_within 64 o))) (byte_read bytes o (value_within 64 o) (q + padding 8 q) are (omega arith))
        ∙ ap (λ (b : Bool). checked_field (cond b (some_two (a_number byte (get_or bytes (q + padding 8 q) 0)) (at_place bytes (q + padding 8 q + 1))) None >>= members o (value_within 64 o))) (lt-ltb (q + padding 8 q) (length bytes) lt)
        ∙ after_code o (value_within 64 o) (get_or bytes (q + padding 8 q) 0) (at_place bytes (q + padding 8 q + 1))
        ∙ sym (ap (λ (b : Bool). cond (b && true) (variant_field (value_within 64 o) (get_or bytes (q + padding 8 q) 0) (at_place bytes (q + padding 8 q + 1))) none_field) (lt-ltb (q + padding 8 q) (length bytes) lt))
    go (inl lt) false =
        ap (λ (b : Bool). checked_field (cond (b && false) (some (at_place bytes (q + padding 8 q))) None >>= struct_field o (value_within 64 o))) (le-leb (q + padding 8 q) (length bytes) (omega arith))
        ∙ sym (ap (λ (b : Bool). cond (b && false) (variant_field (value_within 64 o) (get_or bytes (q + padding 8 q) 0) (at_place bytes (q + padding 8 q + 1))) none_field) (lt-ltb (q + padding 8 q) (length bytes) lt))
    go (inr le) z =
        at_end (cases_lt (length bytes) (q + padding 8 q)) z
        ∙ sym (ap (λ (b : Bool). cond (b && z) (variant_field (value_within 64 o) (get_or bytes (q + padding 8 q) 0) (at_place bytes (q + padding 8 q + 1))) none_field) (le-ltb (q + padding 8 q) (length bytes) le))
      where
        at_end : (length bytes < q + padding 8 q) ⊎ (q + padding 8 q ≤ length bytes) → (z : Bool) →
            checked_field (cond (nat_le (q + padding 8 q) (length bytes) && z) (some (at_place bytes (q + padding 8 q))) None >>= struct_field o (value_within 64 o)) ≡ None
        at_end (inl lt) z = ap (λ (b : Bool). checked_field (cond (b && z) (some (at_place bytes (q + padding 8 q))) None >>= struct_field o (value_within 64 o))) (lt-leb (q + padding 8 q) (length bytes) lt)
        at_end (inr more) false = ap (λ (b : Bool). checked_field (cond (b && false) (some (at_place bytes (q + padding 8 q))) None >>= struct_field o (value_within 64 o))) (le-leb (q + padding 8 q) (length bytes) more)
        at_end (inr more) true =
            ap (λ (b : Bool). checked_field (cond (b && true) (some (at_place bytes (q + padding 8 q))) None >>= struct_field o (value_within 64 o))) (le-leb (q + padding 8 q) (length bytes) more)
            ∙ ap (λ (x : Option (Value × At)). checked_field (x >>= members o (value_within 64 o))) (byte_read bytes o (value_within 64 o) (q + padding 8 q) are more)
            ∙ ap (λ (b : Bool). checked_field (cond b (some_two (a_number byte (get_or bytes (q + padding 8 q) 0)) (at_place bytes (q + padding 8 q + 1))) None >>= members o (value_within 64 o))) (le-ltb (q + padding 8 q) (length bytes) le)
