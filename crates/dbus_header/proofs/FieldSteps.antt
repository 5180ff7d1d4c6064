-- Steps of a reading, at a place of a message's bytes.
use Rattle.std.proofs.Common.{◌≡◌, ℕ, suc, ◌+◌, ◌^◌, ◌<◌, ◌≤◌, Bool, true, false, cond, List, [], ◌∷◌, length, take, drop, get_or, Option, Some, None, refl, sym, ap, ◌∙◌, arith, inl, inr, drop-cons}
use Rattle.std.specs.Prelude.{◌&&◌, ◌==◌, nat_lt, nat_le, unwrap_or, ◌⊎◌}
use Rattle.std.specs.Int.{Width, w8, w32}
use Rattle.std.proofs.lemmas.List.{length-drop, drop-drop}
use Rattle.std.proofs.lemmas.Bool.{le-leb, lt-leb, lt-ltb, le-ltb, cases_lt}
use Rattle.byte_lists.proofs.Bytes.{AreBytes-drop, AreBytes-take}
use Rattle.byte_lists.specs.Bytes.{AreBytes}
use Rattle.byte_lists.proofs.Options.{some}
use Rattle.dbus_types.specs.Signature.{spelled_types}
use Rattle.dbus_values.specs.Values.{Value, padding}
use Rattle.dbus_values.specs.Reading.{At, ◌>>=◌, when, past, some_bytes, all_zero, aligned, number_of, a_width, ended_by_nul}
use Rattle.dbus_values.specs.declared.Order.{Order}
use Rattle.dbus_values.specs.declared.Order.TheVariants.{Little, Big}
use Rattle.dbus_header.specs.Message.{Field, is_field_of, text_in, number_in, types_in}
use Rattle.dbus_header.specs.Malformed.{field_at}
use Rattle.dbus_header.specs.HeaderReading.{Part, some_text, some_number, some_signature, unread, number_at, ended_text}
use Rattle.dbus_header.specs.HeaderFields.{at_place}
use Rattle.dbus_header.proofs.MessageRead.{below}

abbrev pub lifted : {A : Type 0} → List ℕ → Option (A × ℕ) → Option (A × At)
lifted bytes None = None
lifted bytes (Some x) = Some (x.0, at_place bytes x.1)

abbrev pub field : ℕ → Value → Field
field c v = record { code = c; value = v }

-- what a valid field is read as
abbrev pub part_of : Field → Part
part_of f =
    cond (nat_lt 9 f.code) unread
    (cond (f.code == 8) (some_signature (spelled_types (types_in (Some f.value))))
    (cond (f.code == 5) (some_number 5 (unwrap_or (number_in (Some f.value)) 0))
    (cond (f.code == 9) (some_number 9 (unwrap_or (number_in (Some f.value)) 0))
    (some_text f.code (unwrap_or (text_in (Some f.value)) [])))))

abbrev pub seen : Field × At → Part × ℕ
seen x = (part_of x.0, x.1.place)

-- a field in its own grammar
abbrev pub sound_field_at : Order → At → Option (Field × At)
sound_field_at o a = field_at o a >>= λ x. when (is_field_of x.0.code x.0.value) x

-- ---- bytes at places

past_place : (bytes : List ℕ) (q n : ℕ) → past n (at_place bytes q) ≡ at_place bytes (q + n)
past_place bytes q n = ap (λ (t : List ℕ). at_bytes t) (drop-drop n q bytes)
  where
    at_bytes : List ℕ → At
    at_bytes t = record { place = q + n; bytes = t }

left : (bytes : List ℕ) (q n : ℕ) → q ≤ length bytes → nat_le n (length (drop q bytes)) ≡ nat_le (q + n) (length bytes)
left bytes q n inside = go (cases_lt (length bytes) (q + n))
  where
    go : (length bytes < q + n) ⊎ (q + n ≤ length bytes) → nat_le n (length (drop q bytes)) ≡ nat_le (q + n) (length bytes)
    go (inl lt) = lt-leb n (length (drop q bytes)) (omega (arith, length-drop q bytes)) ∙ sym (lt-leb (q + n) (length bytes) lt)
    go (inr le) = le-leb n (length (drop q bytes)) (omega (arith, length-drop q bytes)) ∙ sym (le-leb (q + n) (length bytes) le)

pub taken : (bytes : List ℕ) (q n : ℕ) → q ≤ length bytes → some_bytes n (at_place bytes q) ≡ cond (nat_le (q + n) (length bytes)) (Some (take n (drop q bytes), at_place bytes (q + n))) None
taken bytes q n inside =
    ap (λ (b : Bool). cond b (some (take n (drop q bytes), past n (at_place bytes q))) None) (left bytes q n inside)
    ∙ ap (λ (a : At). cond (nat_le (q + n) (length bytes)) (some (take n (drop q bytes), a)) None) (past_place bytes q n)

-- the steps of a reading
abbrev pub some_two : {A : Type 0} → A → At → Option (A × At)
some_two x a = Some (x, a)

abbrev none_two : {A : Type 0} → Option (A × At)
none_two = None

abbrev if_zero : List ℕ × At → Option At
if_zero y = when (all_zero y.0) y.1

abbrev as_number : Order → Width → List ℕ × At → Option (ℕ × At)
as_number o w y = Some (number_of o w y.0, y.1)

abbrev if_nul : List ℕ → List ℕ × At → Option (List ℕ × At)
if_nul x nul = when (all_zero nul.0) (x, nul.1)

abbrev nul_behind : List ℕ × At → Option (List ℕ × At)
nul_behind y = some_bytes 1 y.1 >>= if_nul y.0

pub aligned_at : (bytes : List ℕ) (n q : ℕ) → q ≤ length bytes →
    aligned n (at_place bytes q) ≡ cond (nat_le (q + padding n q) (length bytes) && all_zero (take (padding n q) (drop q bytes))) (Some (at_place bytes (q + padding n q))) None
aligned_at bytes n q inside =
    ap (λ (x : Option (List ℕ × At)). x >>= if_zero) (taken bytes q (padding n q) inside)
    ∙ by (nat_le (q + padding n q) (length bytes))
  where
    by : (b : Bool) → (cond b (some_two (take (padding n q) (drop q bytes)) (at_place bytes (q + padding n q))) None >>= if_zero)
        ≡ cond (b && all_zero (take (padding n q) (drop q bytes))) (some (at_place bytes (q + padding n q))) None
    by true = refl
    by false = refl

pub no_padding : (bytes : List ℕ) (n q : ℕ) → padding n q ≡ 0 → q ≤ length bytes → aligned n (at_place bytes q) ≡ Some (at_place bytes q)
no_padding bytes n q none inside =
    let here : q + 0 ≡ q = omega arith in
    ap (λ (k : ℕ). some_bytes k (at_place bytes q) >>= if_zero) none
    ∙ ap (λ (x : Option (List ℕ × At)). x >>= if_zero) (taken bytes q 0 inside)
    ∙ ap (λ (b : Bool). cond b (some_two (take 0 (drop q bytes)) (at_place bytes (q + 0))) None >>= if_zero) (le-leb (q + 0) (length bytes) (omega arith))
    ∙ ap (λ (k : ℕ). some (at_place bytes k)) here

pub cell : (bytes : List ℕ) (q : ℕ) → q < length bytes → drop q bytes ≡ get_or bytes q 0 ∷ drop (q + 1) bytes
cell bytes q lt = let e : q + 1 ≡ suc q = omega arith in drop-cons bytes q 0 lt ∙ ap (λ (k : ℕ). get_or bytes q 0 ∷ drop k bytes) (sym e)

one_byte : (o : Order) (b : ℕ) → b < 256 → number_of o w8 (b ∷ []) ≡ b
one_byte Little b lt = omega arith
one_byte Big b lt = omega arith

pub byte_width : (bytes : List ℕ) (o : Order) (q : ℕ) → AreBytes bytes → q ≤ length bytes → a_width o w8 (at_place bytes q) ≡ cond (nat_lt q (length bytes)) (some_two (get_or bytes q 0) (at_place bytes (q + 1))) None
byte_width bytes o q are inside =
    ap (λ (x : Option (List ℕ × At)). x >>= as_number o w8) (taken bytes q 1 inside)
    ∙ go (cases_lt q (length bytes))
  where
    go : (q < length bytes) ⊎ (length bytes ≤ q) → (cond (nat_le (q + 1) (length bytes)) (some_two (take 1 (drop q bytes)) (at_place bytes (q + 1))) None >>= as_number o w8)
        ≡ cond (nat_lt q (length bytes)) (some_two (get_or bytes q 0) (at_place bytes (q + 1))) None
    go (inl lt) =
        ap (λ (b : Bool). cond b (some_two (take 1 (drop q bytes)) (at_place bytes (q + 1))) None >>= as_number o w8) (le-leb (q + 1) (length bytes) (omega arith))
        ∙ ap (λ (t : List ℕ). some_two (number_of o w8 (take 1 t)) (at_place bytes (q + 1))) (cell bytes q lt)
        ∙ ap (λ (k : ℕ). some_two k (at_place bytes (q + 1))) (one_byte o (get_or bytes q 0) (are q))
        ∙ sym (ap (λ (b : Bool). cond b (some_two (get_or bytes q 0) (at_place bytes (q + 1))) None) (lt-ltb q (length bytes) lt))
    go (inr le) =
        ap (λ (b : Bool). cond b (some_two (take 1 (drop q bytes)) (at_place bytes (q + 1))) None >>= as_number o w8) (lt-leb (q + 1) (length bytes) (omega arith))
        ∙ sym (ap (λ (b : Bool). cond b (some_two (get_or bytes q 0) (at_place bytes (q + 1))) None) (le-ltb q (length bytes) le))

-- a number of four bytes
pub number_width : (bytes : List ℕ) (o : Order) (q : ℕ) → q ≤ length bytes → a_width o w32 (at_place bytes q) ≡ cond (nat_le (q + 4) (length bytes)) (some_two (number_at o bytes q) (at_place bytes (q + 4))) None
number_width bytes o q inside =
    ap (λ (x : Option (List ℕ × At)). x >>= as_number o w32) (taken bytes q 4 inside)
    ∙ by (nat_le (q + 4) (length bytes))
  where
    by : (b : Bool) → (cond b (some_two (take 4 (drop q bytes)) (at_place bytes (q + 4))) None >>= as_number o w32) ≡ cond b (some_two (number_at o bytes q) (at_place bytes (q + 4))) None
    by true = refl
    by false = refl

pub number_small : (bytes : List ℕ) (o : Order) (q : ℕ) → AreBytes bytes → number_at o bytes q < 2 ^ 32
number_small bytes o q are = below o (take 4 (drop q bytes)) (AreBytes-take 4 (drop q bytes) (AreBytes-drop q bytes are))

-- a number of bytes and a NUL
pub ended_at : (bytes : List ℕ) (n q : ℕ) → q ≤ length bytes → ended_by_nul n (at_place bytes q) ≡ lifted bytes (ended_text n bytes q)
ended_at bytes n q inside =
    ap (λ (x : Option (List ℕ × At)). x >>= nul_behind) (taken bytes q n inside)
    ∙ go (cases_lt (q + n) (length bytes))
  where
    zero_then : (z : Bool) → when (z && true) (take n (drop q bytes), at_place bytes (q + n + 1)) ≡ lifted bytes (cond z (Some (take n (drop q bytes), q + n + 1)) None)
    zero_then true = refl
    zero_then false = refl

    past_end : (b : Bool) → length bytes ≤ q + n → (cond b (some_two (take n (drop q bytes)) (at_place bytes (q + n))) None >>= nul_behind) ≡ None
    past_end false le = refl
    past_end true le = by (nat_le 1 (length (drop (q + n) bytes))) (lt-leb 1 (length (drop (q + n) bytes)) (omega (arith, length-drop (q + n) bytes)))
      where
        by : (b : Bool) → b ≡ false → (cond b (some_two (take 1 (drop (q + n) bytes)) (past 1 (at_place bytes (q + n)))) None >>= if_nul (take n (drop q bytes))) ≡ None
        by false e = refl
        by true e = absurd cc

    go : (q + n < length bytes) ⊎ (length bytes ≤ q + n) → (cond (nat_le (q + n) (length bytes)) (some_two (take n (drop q bytes)) (at_place bytes (q + n))) None >>= nul_behind) ≡ lifted bytes (ended_text n bytes q)
    go (inl lt) =
        ap (λ (b : Bool). cond b (some_two (take n (drop q bytes)) (at_place bytes (q + n))) None >>= nul_behind) (le-leb (q + n) (length bytes) (omega arith))
        ∙ ap (λ (x : Option (List ℕ × At)). x >>= if_nul (take n (drop q bytes))) (taken bytes (q + n) 1 (omega arith))
        ∙ ap (λ (b : Bool). cond b (some_two (take 1 (drop (q + n) bytes)) (at_place bytes (q + n + 1))) None >>= if_nul (take n (drop q bytes))) (le-leb (q + n + 1) (length bytes) (omega arith))
        ∙ ap (λ (t : List ℕ). when (all_zero (take 1 t)) (take n (drop q bytes), at_place bytes (q + n + 1))) (cell bytes (q + n) lt)
        ∙ zero_then (get_or bytes (q + n) 0 == 0)
        ∙ sym (ap (λ (b : Bool). lifted bytes (cond (b && (get_or bytes (q + n) 0 == 0)) (Some (take n (drop q bytes), q + n + 1)) None)) (lt-ltb (q + n) (length bytes) lt))
    go (inr le) =
        past_end (nat_le (q + n) (length bytes)) le
        ∙ sym (ap (λ (b : Bool). lifted bytes (cond (b && (get_or bytes (q + n) 0 == 0)) (Some (take n (drop q bytes), q + n + 1)) None)) (le-ltb (q + n) (length bytes) le))
