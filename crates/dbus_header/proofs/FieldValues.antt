-- The value of a field with a known code.
use Rattle.std.proofs.Common.{◌≡◌, ℕ, ◌+◌, ◌^◌, ◌<◌, ◌≤◌, Bool, true, false, cond, List, [], ◌∷◌, ◌++◌, length, take, drop, get_or, Option, Some, None, option_map, refl, sym, ap, ◌∙◌, arith}
use Rattle.std.specs.Prelude.{◌&&◌, ◌==◌, nat_lt, nat_le, is_none}
use Rattle.std.specs.Int.{w32}
use Rattle.std.proofs.lemmas.List.{length-drop, get_or-drop, length-take-le}
use Rattle.std.proofs.lemmas.Bool.{and_parts, and_from, le-leb, leb-true, lt-ltb, ltb-true, eq-eqb, eqb-true}
use Rattle.byte_lists.proofs.Bytes.{AreBytes-drop}
use Rattle.byte_lists.specs.Bytes.{AreBytes}
use Rattle.byte_lists.proofs.Options.{some}
use Rattle.dbus_types.specs.Signature.{Complete, Basic, basic, number, uint32, string, path, signature, code, is_complete, is_signature, types_of as types_read, fault_of_types, signature_fault, signature_of}
use Rattle.dbus_names.specs.Names.{is_path}
use Rattle.dbus_types.proofs.SignatureRead.{signature_of-is}
use Rattle.dbus_values.specs.Values.{Value, a_number, a_string, a_path, a_signature, type_of, padding, spelled_signature, is_text}
use Rattle.dbus_values.specs.Reading.{At, ◌>>=◌, when, a_width, ended_by_nul, text_at, signature_at, one_type, value_by, value_within}
use Rattle.dbus_values.specs.declared.Order.{Order}
use Rattle.dbus_values.specs.declared.Order.TheVariants.{Little}
use Rattle.dbus_types.specs.declared.BadSignature.{BadSignature}
use Rattle.dbus_types.specs.declared.BadSignature.TheVariants.{TooLong, Form}
use Rattle.dbus_values.proofs.ValueLaws.{signature_front}
use Rattle.dbus_values.proofs.ValueRead.{bind_case, when_is, signature-takes}
use Rattle.dbus_values.proofs.ValueAgain.{one_complete}
use Rattle.dbus_values.proofs.ValueIs.{within-is, one_type_is}
use Rattle.dbus_values.proofs.TextBytes.{if_text}
use Rattle.dbus_header.specs.Message.{Field, is_field_of}
use Rattle.dbus_header.specs.HeaderReading.{Part, some_text, some_number, some_signature, number_at, is_text_of, ended_text, checked_text, text_part, is_number_of, number_part, checked_signature, signature_part, has_type_at}
use Rattle.dbus_header.specs.HeaderFields.{at_place}
use Rattle.dbus_header.proofs.Texts.{is_text-of}
use Rattle.dbus_header.proofs.FieldSteps.{lifted, field, part_of, seen, some_two, no_padding, cell, byte_width, number_width, number_small, ended_at}
use Rattle.dbus_header.proofs.FieldVariants.{Inner, field_with, typed_value, variant_field}

-- a signature of one type is read from its three bytes, and nothing else is
pub typed_as : (bytes : List ℕ) (o : Order) (c : ℕ) (b : Basic) (q : ℕ) → ((v : Value) → is_field_of c v ≡ true → type_of v ≡ basic b) → AreBytes bytes → q ≤ length bytes →
    variant_field (value_within 64 o) c (at_place bytes q) ≡ cond (has_type_at (code b) bytes q) (value_within 64 o (basic b) (at_place bytes (q + 3)) >>= field_with c) None
typed_as bytes o c b q typed are inside = by (has_type_at (code b) bytes q) refl
  where
    by : (h : Bool) → has_type_at (code b) bytes q ≡ h → variant_field (value_within 64 o) c (at_place bytes q) ≡ cond h (value_within 64 o (basic b) (at_place bytes (q + 3)) >>= field_with c) None
    by true e =
        let x = and_parts _ (get_or bytes (q + 2) 0 == 0) e in
        let y = and_parts _ (get_or bytes (q + 1) 0 == code b) x.0 in
        let z = and_parts (nat_le (q + 3) (length bytes)) (get_or bytes q 0 == 1) y.0 in
        let long : q + 3 ≤ length bytes = leb-true (q + 3) (length bytes) z.0 in
        let two : q + 1 + 1 ≡ q + 2 = omega arith in
        let three : q + 2 + 1 ≡ q + 3 = omega arith in
        let is : drop q bytes ≡ spelled_signature (basic b ∷ []) ++ drop (q + 3) bytes =
        cell bytes q (omega arith)
        ∙ ap (λ (k : ℕ). k ∷ drop (q + 1) bytes) (eqb-true (get_or bytes q 0) 1 z.1)
        ∙ ap (λ (t : List ℕ). 1 ∷ t) (cell bytes (q + 1) (omega arith))
        ∙ ap (λ (k : ℕ). 1 ∷ k ∷ drop (q + 1 + 1) bytes) (eqb-true (get_or bytes (q + 1) 0) (code b) y.1)
        ∙ ap (λ (n : ℕ). 1 ∷ code b ∷ drop n bytes) two
        ∙ ap (λ (t : List ℕ). 1 ∷ code b ∷ t) (cell bytes (q + 2) (omega arith))
        ∙ ap (λ (k : ℕ). 1 ∷ code b ∷ k ∷ drop (q + 2 + 1) bytes) (eqb-true (get_or bytes (q + 2) 0) 0 x.1)
        ∙ ap (λ (n : ℕ). 1 ∷ code b ∷ 0 ∷ drop n bytes) three in
        ap (λ (t : List ℕ). variant_field (value_within 64 o) c (at_bytes q t)) is
        ∙ ap (λ (s : Option (List Complete × At)). s >>= typed_value (value_within 64 o) c) (signature_front q (basic b ∷ []) (drop (q + 3) bytes) refl)
      where
        at_bytes : ℕ → List ℕ → At
        at_bytes p t = record { place = p; bytes = t }
    by false e = nothing (variant_field (value_within 64 o) c (at_place bytes q)) refl
      where
        three_cells : (r : List ℕ) → drop q bytes ≡ 1 ∷ code b ∷ 0 ∷ r → has_type_at (code b) bytes q ≡ true
        three_cells r is =
            let here : q + 0 ≡ q = omega arith in
            and_from _ _ (and_from _ _ (and_from _ _
            (le-leb (q + 3) (length bytes) (omega (arith, length-drop q bytes, ap length is)))
            (eq-eqb (get_or bytes q 0) 1 (ap (λ (k : ℕ). get_or bytes k 0) (sym here) ∙ sym (get_or-drop q bytes 0 0) ∙ ap (λ (t : List ℕ). get_or t 0 0) is)))
            (eq-eqb (get_or bytes (q + 1) 0) (code b) (sym (get_or-drop q bytes 1 0) ∙ ap (λ (t : List ℕ). get_or t 1 0) is)))
            (eq-eqb (get_or bytes (q + 2) 0) 0 (sym (get_or-drop q bytes 2 0) ∙ ap (λ (t : List ℕ). get_or t 2 0) is))

        nothing : (r : Option (Field × At)) → variant_field (value_within 64 o) c (at_place bytes q) ≡ r → variant_field (value_within 64 o) c (at_place bytes q) ≡ None
        nothing None k = k
        nothing (Some y) k =
            bind_case (signature_at (at_place bytes q)) (typed_value (value_within 64 o) c) y k (λ ts es k1.
            bind_case (one_type ts.0) (λ t. value_within 64 o t ts.1 >>= field_with c) y k1 (λ t et k2.
            bind_case (value_within 64 o t ts.1) (field_with c) y k2 (λ x ex k3.
            let w = when_is (is_field_of c x.0) (field c x.0, x.1) y k3 in
            let taken = signature-takes (at_place bytes q) ts (AreBytes-drop q bytes are) es in
            let alone : ts.0 ≡ t ∷ [] = one_type_is ts.0 t et in
            let whole : is_complete t ≡ true = one_complete t (ap is_signature (sym alone) ∙ taken.1) in
            let s = within-is 64 o t ts.1 x whole taken.0.are ex in
            let type : t ≡ basic b = sym s.type ∙ typed x.0 w.0 in
            let is : drop q bytes ≡ 1 ∷ code b ∷ 0 ∷ ts.1.bytes = taken.0.bytes ∙ ap (λ (us : List Complete). spelled_signature us ++ ts.1.bytes) (alone ∙ ap (λ (u : Complete). u ∷ []) type) in
            let has : false ≡ true = sym e ∙ three_cells ts.1.bytes is in
            absurd cc)))

-- ---- a known code's value

abbrev pub parts : Option (Field × At) → Option (Part × ℕ)
parts x = option_map seen x

abbrev number_value : ℕ × At → Option (Value × At)
number_value x = when (nat_lt x.0 (2 ^ 32)) (a_number uint32 x.0, x.1)

pub number_read : (bytes : List ℕ) (o : Order) (inner : Inner) (c q : ℕ) → ((n : ℕ) → is_field_of c (a_number uint32 n) ≡ is_number_of c n) → ((n : ℕ) → part_of (field c (a_number uint32 n)) ≡ some_number c n) → padding 4 q ≡ 0 → AreBytes bytes → q ≤ length bytes →
    parts (value_by o inner (basic (number uint32)) (at_place bytes q) >>= field_with c) ≡ number_part o c bytes q
number_read bytes o inner c q rules part none are inside =
    ap (λ (x : Option At). parts ((x >>= λ s. a_width o w32 s >>= number_value) >>= field_with c)) (no_padding bytes 4 q none inside)
    ∙ ap (λ (x : Option (ℕ × At)). parts ((x >>= number_value) >>= field_with c)) (number_width bytes o q inside)
    ∙ by (nat_le (q + 4) (length bytes))
  where
    checked : (b : Bool) → parts (when b (field c (a_number uint32 (number_at o bytes q)), at_place bytes (q + 4))) ≡ cond b (Some (part_of (field c (a_number uint32 (number_at o bytes q))), q + 4)) None
    checked true = refl
    checked false = refl

    by : (b : Bool) → parts ((cond b (some_two (number_at o bytes q) (at_place bytes (q + 4))) None >>= number_value) >>= field_with c) ≡ cond (b && is_number_of c (number_at o bytes q)) (Some (some_number c (number_at o bytes q), q + 4)) None
    by true =
        ap (λ (b : Bool). parts (cond b (some_two (a_number uint32 (number_at o bytes q)) (at_place bytes (q + 4))) None >>= field_with c)) (lt-ltb (number_at o bytes q) (2 ^ 32) (number_small bytes o q are))
        ∙ ap (λ (b : Bool). parts (when b (field c (a_number uint32 (number_at o bytes q)), at_place bytes (q + 4)))) (rules (number_at o bytes q))
        ∙ checked (is_number_of c (number_at o bytes q))
        ∙ ap (λ (x : Part). cond (is_number_of c (number_at o bytes q)) (Some (x, q + 4)) None) (part (number_at o bytes q))
    by false = refl

-- a text, which follows its length
abbrev length_then : ℕ × At → Option (List ℕ × At)
length_then n = ended_by_nul n.0 n.1 >>= if_text

abbrev counted_text : Order → List ℕ → ℕ → Option (List ℕ × At)
counted_text o bytes q = cond (nat_le (q + 4) (length bytes)) (lifted bytes (ended_text (number_at o bytes q) bytes (q + 4)) >>= if_text) None

text_is : (bytes : List ℕ) (o : Order) (q : ℕ) → padding 4 q ≡ 0 → q ≤ length bytes → text_at o (at_place bytes q) ≡ counted_text o bytes q
text_is bytes o q none inside =
    ap (λ (x : Option At). x >>= λ s. a_width o w32 s >>= length_then) (no_padding bytes 4 q none inside)
    ∙ ap (λ (x : Option (ℕ × At)). x >>= length_then) (number_width bytes o q inside)
    ∙ by (nat_le (q + 4) (length bytes)) refl
  where
    by : (b : Bool) → nat_le (q + 4) (length bytes) ≡ b → (cond b (some_two (number_at o bytes q) (at_place bytes (q + 4))) None >>= length_then) ≡ cond b (lifted bytes (ended_text (number_at o bytes q) bytes (q + 4)) >>= if_text) None
    by true e = ap (λ (x : Option (List ℕ × At)). x >>= if_text) (ended_at bytes (number_at o bytes q) (q + 4) (leb-true (q + 4) (length bytes) e))
    by false e = refl

-- a text that ends by NUL is as short as its length says
ended_short : (n q : ℕ) (bytes : List ℕ) (x : List ℕ × ℕ) → ended_text n bytes q ≡ Some x → length x.0 ≤ n
ended_short n q bytes x e = by (nat_lt (q + n) (length bytes)) refl e
  where
    some_taken : (a b : List ℕ × ℕ) → some a ≡ some b → a ≡ b
    some_taken a b e = cc

    then : (b : Bool) → q + n < length bytes → cond b (Some (take n (drop q bytes), q + n + 1)) None ≡ Some x → length x.0 ≤ n
    then false lt e = absurd cc
    then true lt e =
        let len : length (take n (drop q bytes)) ≡ n = length-take-le n (drop q bytes) (omega (arith, length-drop q bytes)) in
        let same : length (take n (drop q bytes)) ≡ length x.0 = ap (λ (y : List ℕ × ℕ). length y.0) (some_taken (take n (drop q bytes), q + n + 1) x e) in
        omega arith

    by : (b : Bool) → nat_lt (q + n) (length bytes) ≡ b → cond (b && (get_or bytes (q + n) 0 == 0)) (Some (take n (drop q bytes), q + n + 1)) None ≡ Some x → length x.0 ≤ n
    by false lt e = absurd cc
    by true lt e = then (get_or bytes (q + n) 0 == 0) (ltb-true (q + n) (length bytes) lt) e

-- a checked text
text_checked : (bytes : List ℕ) (c : ℕ) (of : List ℕ × At → Option (Value × At)) → ((t : List ℕ) (a : At) → is_text_of c t ≡ false → (of (t, a) >>= field_with c) ≡ None) →
    ((t : List ℕ) (a : At) → is_text_of c t ≡ true → parts (of (t, a) >>= field_with c) ≡ Some (some_text c t, a.place)) → (x : Option (List ℕ × ℕ)) → ((y : List ℕ × ℕ) → x ≡ Some y → length y.0 < 2 ^ 32) →
    parts (((lifted bytes x >>= if_text) >>= of) >>= field_with c) ≡ checked_text c x
text_checked bytes c of refuses gives None short = refl
text_checked bytes c of refuses gives (Some y) short = by (is_text_of c y.0) refl
  where
    unless_text : (b : Bool) → is_text_of c y.0 ≡ false → parts ((when b (y.0, at_place bytes y.1) >>= of) >>= field_with c) ≡ None
    unless_text true e = ap parts (refuses y.0 (at_place bytes y.1) e)
    unless_text false e = refl

    by : (b : Bool) → is_text_of c y.0 ≡ b → parts ((when (is_text y.0) (y.0, at_place bytes y.1) >>= of) >>= field_with c) ≡ cond b (Some (some_text c y.0, y.1)) None
    by false e = unless_text (is_text y.0) e
    by true e =
        ap (λ (b : Bool). parts ((when b (y.0, at_place bytes y.1) >>= of) >>= field_with c)) (is_text-of c y.0 e (short y refl))
        ∙ gives y.0 (at_place bytes y.1) e

text_read : (bytes : List ℕ) (o : Order) (c q : ℕ) (of : List ℕ × At → Option (Value × At)) → ((t : List ℕ) (a : At) → is_text_of c t ≡ false → (of (t, a) >>= field_with c) ≡ None) →
    ((t : List ℕ) (a : At) → is_text_of c t ≡ true → parts (of (t, a) >>= field_with c) ≡ Some (some_text c t, a.place)) → padding 4 q ≡ 0 → AreBytes bytes → q ≤ length bytes →
    parts ((text_at o (at_place bytes q) >>= of) >>= field_with c) ≡ text_part o c bytes q
text_read bytes o c q of refuses gives none are inside =
    ap (λ (x : Option (List ℕ × At)). parts ((x >>= of) >>= field_with c)) (text_is bytes o q none inside)
    ∙ by (nat_le (q + 4) (length bytes))
  where
    short : (y : List ℕ × ℕ) → ended_text (number_at o bytes q) bytes (q + 4) ≡ Some y → length y.0 < 2 ^ 32
    short y e =
        let at_most : length y.0 ≤ number_at o bytes q = ended_short (number_at o bytes q) (q + 4) bytes y e in
        let small : number_at o bytes q < 2 ^ 32 = number_small bytes o q are in
        omega arith

    by : (b : Bool) → parts ((cond b (lifted bytes (ended_text (number_at o bytes q) bytes (q + 4)) >>= if_text) None >>= of) >>= field_with c)
        ≡ cond b (checked_text c (ended_text (number_at o bytes q) bytes (q + 4))) None
    by true = text_checked bytes c of refuses gives (ended_text (number_at o bytes q) bytes (q + 4)) short
    by false = refl

abbrev as_string : List ℕ × At → Option (Value × At)
as_string x = Some (a_string x.0, x.1)

abbrev as_path : List ℕ × At → Option (Value × At)
as_path x = when (is_path x.0) (a_path x.0, x.1)

pub string_read : (bytes : List ℕ) (o : Order) (inner : Inner) (c q : ℕ) → ((t : List ℕ) → is_field_of c (a_string t) ≡ is_text_of c t) → ((t : List ℕ) → part_of (field c (a_string t)) ≡ some_text c t) → padding 4 q ≡ 0 → AreBytes bytes → q ≤ length bytes →
    parts (value_by o inner (basic string) (at_place bytes q) >>= field_with c) ≡ text_part o c bytes q
string_read bytes o inner c q rules part none are inside =
    text_read bytes o c q as_string
    (λ t a e. ap (λ (b : Bool). when b (field c (a_string t), a)) (rules t ∙ e))
    (λ t a e. ap (λ (b : Bool). parts (when b (field c (a_string t), a))) (rules t ∙ e) ∙ ap (λ (x : Part). some_place x a.place) (part t))
    none are inside
  where
    some_place : Part → ℕ → Option (Part × ℕ)
    some_place x n = Some (x, n)

pub path_read : (bytes : List ℕ) (o : Order) (inner : Inner) (q : ℕ) → padding 4 q ≡ 0 → AreBytes bytes → q ≤ length bytes →
    parts (value_by o inner (basic path) (at_place bytes q) >>= field_with 1) ≡ text_part o 1 bytes q
path_read bytes o inner q none are inside =
    text_read bytes o 1 q as_path
    (λ t a e. ap (λ (b : Bool). when b (two t a) >>= field_with 1) e)
    (λ t a e. ap (λ (b : Bool). parts (when b (two t a) >>= field_with 1)) e)
    none are inside
  where
    two : List ℕ → At → Value × At
    two t a = (a_path t, a)

-- a signature, which follows its length in one byte
abbrev types_then : List ℕ × At → Option (List Complete × At)
types_then x = signature_of x.0 >>= λ ts. Some (ts, x.1)

abbrev as_signature : List Complete × At → Option (Value × At)
as_signature x = Some (a_signature x.0, x.1)

signature_checked : (bytes : List ℕ) (x : Option (List ℕ × ℕ)) → parts (((lifted bytes x >>= types_then) >>= as_signature) >>= field_with 8) ≡ checked_signature x
signature_checked bytes None = refl
signature_checked bytes (Some x) = by (signature_of x.0) refl (is_none (signature_fault x.0)) refl
  where
    by : (ts : Option (List Complete)) → signature_of x.0 ≡ ts → (b : Bool) → is_none (signature_fault x.0) ≡ b →
        parts (((ts >>= λ us. some_two us (at_place bytes x.1)) >>= as_signature) >>= field_with 8) ≡ cond b (Some (some_signature x.0, x.1)) None
    by (Some ts) is true e = ap (λ (t : List ℕ). some_spelled t) (signature_of-is x.0 ts is).0
      where
        some_spelled : List ℕ → Option (Part × ℕ)
        some_spelled t = Some (some_signature t, x.1)
    by (Some ts) is false e = let none : None ≡ some ts = sym (ap (λ (b : Bool). cond b (types_read x.0) None) e) ∙ is in absurd cc
    by None is false e = refl
    by None is true e =
        let untyped : types_read x.0 ≡ None = sym (ap (λ (b : Bool). cond b (types_read x.0) None) e) ∙ is in
        let fault : signature_fault x.0 ≡ cond (nat_lt 255 (length x.0)) (some_fault TooLong) (some_fault Form) = ap (λ (ts : Option (List Complete)). cond (nat_lt 255 (length x.0)) (some_fault TooLong) (fault_of_types ts)) untyped in
        let has : true ≡ false = sym e ∙ ap is_none fault ∙ faulty (nat_lt 255 (length x.0)) in
        absurd cc
      where
        some_fault : BadSignature → Option BadSignature
        some_fault b = Some b

        faulty : (b : Bool) → is_none (cond b (some_fault TooLong) (some_fault Form)) ≡ false
        faulty true = refl
        faulty false = refl

pub signature_read : (bytes : List ℕ) (o : Order) (inner : Inner) (q : ℕ) → AreBytes bytes → q ≤ length bytes →
    parts (value_by o inner (basic signature) (at_place bytes q) >>= field_with 8) ≡ signature_part bytes q
signature_read bytes o inner q are inside =
    ap (λ (x : Option (ℕ × At)). parts (((x >>= λ n. ended_by_nul n.0 n.1 >>= types_then) >>= as_signature) >>= field_with 8)) (byte_width bytes Little q are inside)
    ∙ by (nat_lt q (length bytes)) refl
  where
    by : (b : Bool) → nat_lt q (length bytes) ≡ b → parts (((cond b (some_two (get_or bytes q 0) (at_place bytes (q + 1))) None >>= λ n. ended_by_nul n.0 n.1 >>= types_then) >>= as_signature) >>= field_with 8)
        ≡ cond b (checked_signature (ended_text (get_or bytes q 0) bytes (q + 1))) None
    by true e =
        let lt : q < length bytes = ltb-true q (length bytes) e in
        ap (λ (x : Option (List ℕ × At)). parts (((x >>= types_then) >>= as_signature) >>= field_with 8)) (ended_at bytes (get_or bytes q 0) (q + 1) (omega arith))
        ∙ signature_checked bytes (ended_text (get_or bytes q 0) bytes (q + 1))
    by false e = refl
