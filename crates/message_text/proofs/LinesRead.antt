-- The text of each message of the form is read, line by line.
use Rattle.std.proofs.Common.{◌≡◌, ℕ, zero, suc, ◌+◌, ◌-◌, ◌^◌, ◌<◌, Bool, true, false, cond, List, [], ◌∷◌, ◌++◌, length, map, take, drop, get_or, Option, Some, None, refl, sym, ap, subst, ◌∙◌, append_assoc, arith, inl, inr, codes, decimal}
use Rattle.std.specs.Prelude.{◌&&◌, ◌==◌, nat_lt, nat_le, nat_eq, is_none, if◌then◌else◌}
use Rattle.std.specs.List.{list_all, flat_map, starts_with}
use Rattle.std.proofs.lemmas.List.{length-append, append-nil, take_at, drop_at}
use Rattle.std.proofs.lemmas.Bool.{and_parts, ltb-true, leb-true, cases_Bool}
use Rattle.byte_lists.proofs.Bytes.{not_empty}
use Rattle.byte_lists.proofs.Options.{some}
use Rattle.dbus_types.specs.Signature.{Number, byte, boolean, int16, uint16, int32, uint32, int64, uint64, double, handle, Complete, number_code, spelled_type, spelled_types, is_signature, signature_fault, signature_of, types_of}
use Rattle.dbus_types.proofs.SignatureRead.{signature_of-is}
use Rattle.dbus_values.specs.Values.{padding, zeros}
use Rattle.dbus_values.specs.Reading.{◌>>=◌}
use Rattle.dbus_values.proofs.ValueLaws.{then_is}
use Rattle.dbus_values.proofs.ValueAgain.{element_type, one_complete}
use Rattle.dbus_values.proofs.BodyLaws.{starts-then, starts-if}
use Rattle.dbus_values.proofs.WalkNumbers.{type_len}
use Rattle.dbus_values.specs.declared.Order.{Order}
use Rattle.message_text.specs.MessageText.{Text, Said, says_number, says_string, says_path, says_signature, says_variant, says_array, says_struct, says_entry, SaidField, type_said, value_text, field_line, in_range, depth_said, has_shape, field_shape, or_next, types_by_value, types_by, body_types}
use Rattle.message_text.specs.Reading.{Bytes, Value, after_byte, with_gap, signature_bytes, read_within, read_field, valid_signature, signature_in, or_else, read_fields, read_values, or_none}
use Rattle.message_text.proofs.TextBytes.{bytes_of}
use Rattle.message_text.proofs.ReadIs.{fault_sound}
use Rattle.message_text.proofs.WordLaws.{starts_digit, up_to_read, decimal_front}
use Rattle.message_text.proofs.ReadLaws.{bytes_read, plain, typed_read, reads, after_gap}

-- ---- the bytes of fields and of a body

abbrev pub field_bytes : Order → ℕ → SaidField → List ℕ
field_bytes o p f = zeros 8 p ++ (f.code ∷ bytes_of o (p + padding 8 p + 1) (says_variant f.value))

abbrev pub fields_bytes : Order → ℕ → List SaidField → List ℕ
fields_bytes o p [] = []
fields_bytes o p (f ∷ fields) = let first = field_bytes o p f in first ++ fields_bytes o (p + length first) fields

abbrev pub values_bytes : Order → ℕ → List Said → List ℕ
values_bytes o p [] = []
values_bytes o p (v ∷ vs) = let first = bytes_of o p v in first ++ values_bytes o (p + length first) vs

-- ---- the body's types

abbrev pub sig_by : Said → Option (List ℕ)
sig_by (says_signature text) = valid_signature text
sig_by _ = None

-- the valid signature that a field holds
abbrev pub sig_text : SaidField → Option (List ℕ)
sig_text f = if f.code == 8 then sig_by f.value else None

abbrev pub types_found : Option (List ℕ) → List SaidField → Option (List ℕ)
types_found types [] = types
types_found types (f ∷ fields) = types_found (or_else types (sig_text f)) fields

abbrev SameTypes : Option (List ℕ) → Option (List Complete) → Type 0
SameTypes None None = Unit {0}
SameTypes (Some text) (Some ts) = spelled_types ts ≡ text
SameTypes None (Some ts) = ⊥
SameTypes (Some text) None = ⊥

-- a signature's text and its types
same_signature : (text : List ℕ) → SameTypes (valid_signature text) (signature_of text)
same_signature text = go (is_none (signature_fault text)) refl
  where
    go : (b : Bool) → is_none (signature_fault text) ≡ b → SameTypes (cond (is_none (signature_fault text)) (some text) None) (cond (is_none (signature_fault text)) (types_of text) None)
    go false h = subst (λ (b : Bool). SameTypes (cond b (some text) None) (cond b (types_of text) None)) (sym h) tt
    go true h =
        let s = fault_sound text h in
        let is : some s.0 ≡ cond true (types_of text) None = sym s.1 ∙ ap (λ (b : Bool). cond b (types_of text) None) h in
        subst (λ (b : Bool). SameTypes (cond b (some text) None) (cond b (types_of text) None)) (sym h)
        (subst (λ (q : Option (List Complete)). SameTypes (some text) q) is (signature_of-is text s.0 s.1).0)

same_by : (v : Said) → SameTypes (sig_by v) (types_by_value v)
same_by (says_number n x) = tt
same_by (says_string text) = tt
same_by (says_path text) = tt
same_by (says_signature text) = same_signature text
same_by (says_variant v) = tt
same_by (says_array t vs) = tt
same_by (says_struct v vs) = tt
same_by (says_entry k v) = tt

same_field : (f : SaidField) → SameTypes (sig_text f) (types_by f)
same_field f = go (f.code == 8)
  where
    go : (b : Bool) → SameTypes (cond b (sig_by f.value) None) (cond b (types_by_value f.value) None)
    go true = same_by f.value
    go false = tt

found_stays : (text : List ℕ) (fields : List SaidField) → types_found (some text) fields ≡ some text
found_stays text [] = refl
found_stays text (f ∷ fields) = found_stays text fields

pub types_same : (fields : List SaidField) → or_none (types_found None fields) ≡ spelled_types (body_types fields)
types_same [] = refl
types_same (f ∷ fields) = go (types_same fields) (sig_text f) (types_by f) (same_field f)
  where
    go : or_none (types_found None fields) ≡ spelled_types (body_types fields) → (a : Option (List ℕ)) (b : Option (List Complete)) → SameTypes a b → or_none (types_found (or_else None a) fields) ≡ spelled_types (or_next b (body_types fields))
    go later None None s = later
    go later (Some text) (Some ts) s = ap or_none (found_stays text fields) ∙ sym s
    go later None (Some ts) s = absurd s
    go later (Some text) None s = absurd s

-- ---- the signature in a field's bytes

-- the bytes don't begin as a variant of type g
not_g : (c d : ℕ) (r : List ℕ) → (d ≡ 103 → ⊥) → starts_with nat_eq (c ∷ d ∷ r) (1 ∷ 103 ∷ 0 ∷ []) ≡ false
not_g c d r ne = elim (cases_Bool (starts_with nat_eq (c ∷ d ∷ r) (1 ∷ 103 ∷ 0 ∷ []))) [
  | inl e ↦ absurd (ne (ap (λ (l : List ℕ). get_or l 1 0) (starts-then (c ∷ d ∷ r) (1 ∷ 103 ∷ 0 ∷ []) e)))
  | inr e ↦ e
]

number_not_g : (n : Number) → number_code n ≡ 103 → ⊥
number_not_g byte e = omega (arith, e)
number_not_g boolean e = omega (arith, e)
number_not_g int16 e = omega (arith, e)
number_not_g uint16 e = omega (arith, e)
number_not_g int32 e = omega (arith, e)
number_not_g uint32 e = omega (arith, e)
number_not_g int64 e = omega (arith, e)
number_not_g uint64 e = omega (arith, e)
number_not_g double e = omega (arith, e)
number_not_g handle e = omega (arith, e)

other_sig : (o : Order) (p : ℕ) (v : Said) (c d : ℕ) (r : List ℕ) → bytes_of o p (says_variant v) ≡ c ∷ d ∷ r → (d ≡ 103 → ⊥) → signature_in 8 (bytes_of o p (says_variant v)) ≡ None
other_sig o p v c d r is ne =
    ap (λ (b : Bool). cond b (valid_signature (take (length (drop 4 (bytes_of o p (says_variant v))) - 1) (drop 4 (bytes_of o p (says_variant v))))) None)
    (ap (λ (t : List ℕ). starts_with nat_eq t (1 ∷ 103 ∷ 0 ∷ [])) is ∙ not_g c d r ne)

sig_in : (o : Order) (p : ℕ) (v : Said) → signature_in 8 (bytes_of o p (says_variant v)) ≡ sig_by v
sig_in o p (says_number n x) = other_sig o p (says_number n x) _ (number_code n) _ refl (number_not_g n)
sig_in o p (says_string text) = other_sig o p (says_string text) _ 115 _ refl (λ e. omega (arith, e))
sig_in o p (says_path text) = other_sig o p (says_path text) _ 111 _ refl (λ e. omega (arith, e))
sig_in o p (says_signature text) =
    ap valid_signature (ap (λ (m : ℕ). take (m - 1) (text ++ 0 ∷ [])) (length-append text (0 ∷ [])) ∙ ap (λ (m : ℕ). take m (text ++ 0 ∷ [])) (omega arith) ∙ take_at text (0 ∷ []) (length text) refl)
sig_in o p (says_variant v) = other_sig o p (says_variant v) _ 118 _ refl (λ e. omega (arith, e))
sig_in o p (says_array t vs) = other_sig o p (says_array t vs) _ 97 _ refl (λ e. omega (arith, e))
sig_in o p (says_struct v vs) = other_sig o p (says_struct v vs) _ 40 _ refl (λ e. omega (arith, e))
sig_in o p (says_entry k v) = other_sig o p (says_entry k v) _ 123 _ refl (λ e. omega (arith, e))

pub sig_in_field : (o : Order) (p : ℕ) (f : SaidField) → signature_in f.code (bytes_of o p (says_variant f.value)) ≡ sig_text f
sig_in_field o p f = go (f.code == 8) refl
  where
    bytes : List ℕ
    bytes = bytes_of o p (says_variant f.value)

    go : (b : Bool) → (f.code == 8) ≡ b → cond ((f.code == 8) && starts_with nat_eq bytes (1 ∷ 103 ∷ 0 ∷ [])) (valid_signature (take (length (drop 4 bytes) - 1) (drop 4 bytes))) None ≡ cond (f.code == 8) (sig_by f.value) None
    go true h =
        ap (λ (b : Bool). cond (b && starts_with nat_eq bytes (1 ∷ 103 ∷ 0 ∷ [])) (valid_signature (take (length (drop 4 bytes) - 1) (drop 4 bytes))) None) h
        ∙ sig_in o p f.value ∙ ap (λ (b : Bool). cond b (sig_by f.value) None) (sym h)
    go false h =
        ap (λ (b : Bool). cond (b && starts_with nat_eq bytes (1 ∷ 103 ∷ 0 ∷ [])) (valid_signature (take (length (drop 4 bytes) - 1) (drop 4 bytes))) None) h
        ∙ ap (λ (b : Bool). cond b (sig_by f.value) None) (sym h)

-- ---- fields

field_text : (c s a rest : List ℕ) → (c ++ 32 ∷ s ++ 32 ∷ a ++ 10 ∷ []) ++ rest ≡ c ++ 32 ∷ (s ++ 32 ∷ (a ++ 10 ∷ rest))
field_text c s a rest = simp append_assoc

field_in : (o : Order) (out : List ℕ) (f : SaidField) → (let start = with_gap 8 out ++ f.code ∷ [] in start ++ bytes_of o (length start) (says_variant f.value) ≡ out ++ field_bytes o (length out) f)
field_in o out f =
    let p = length out in
    let start = with_gap 8 out ++ f.code ∷ [] in
    ap (λ (m : ℕ). start ++ bytes_of o m (says_variant f.value)) (length-append (with_gap 8 out) (f.code ∷ []) ∙ ap (λ (m : ℕ). m + 1) (after_gap 8 out))
    ∙ grouped out (zeros 8 p) (bytes_of o (p + padding 8 p + 1) (says_variant f.value))
  where
    grouped : (a b d : List ℕ) → a ++ b ++ f.code ∷ [] ++ d ≡ a ++ (b ++ (f.code ∷ d))
    grouped a b d = simp append_assoc

-- the value's bytes in those of its field
pub value_in : (o : Order) (out : List ℕ) (f : SaidField) → (let start = with_gap 8 out ++ f.code ∷ [] in drop (length (with_gap 8 out) + 1) (out ++ field_bytes o (length out) f) ≡ bytes_of o (length start) (says_variant f.value))
value_in o out f =
    let start = with_gap 8 out ++ f.code ∷ [] in
    ap (λ (b : List ℕ). drop (length (with_gap 8 out) + 1) b) (sym (field_in o out f))
    ∙ drop_at start (bytes_of o (length start) (says_variant f.value)) (length (with_gap 8 out) + 1) (length-append (with_gap 8 out) (f.code ∷ []))

pub record Shape (k : ℕ) (v : Said) : Type 0 where
  pub sound : is_signature (type_said v ∷ []) ≡ true
  pub range : in_range v ≡ true
  pub deep : depth_said v < suc k

pub shape : (k : ℕ) (v : Said) → has_shape k v ≡ true → Shape k v
shape k v e =
    let a = and_parts (is_signature (type_said v ∷ []) && in_range v) (nat_le (depth_said v) k) e in
    let b = and_parts (is_signature (type_said v ∷ [])) (in_range v) a.0 in
    record { sound = b.0; range = b.1; deep = omega (arith, leb-true (depth_said v) k a.1) }

pub field_read : (o : Order) (out : List ℕ) (f : SaidField) (rest : Text) → field_shape f ≡ true → read_field o out (field_line o f ++ rest) ≡ Some (f.code, (out ++ field_bytes o (length out) f, rest))
field_read o out f rest e =
    let a = and_parts (nat_lt f.code 256) (has_shape 63 f.value) e in
    let low = ltb-true f.code 256 a.0 in
    let s = shape 63 f.value a.1 in
    let v = f.value in
    let spelling = spelled_type (type_said v) in
    let complete = one_complete (type_said v) s.sound in
    let start = with_gap 8 out ++ f.code ∷ [] in
    let front = start ++ signature_bytes spelling in
    let tail = 10 ∷ rest in
    let next = spelling ++ 32 ∷ (value_text o v ++ tail) in
    ap (read_field o out) (field_text (decimal f.code) spelling (value_text o v) rest)
    ∙ then_is _ _ _ _ (up_to_read (2 ^ 8 - 1) f.code (32 ∷ next) (omega arith) (omega arith) refl)
    ((then_is _ _ _ _ (typed_read (read_within 64 o) v o start tail s.sound (plain (type_said v) (read_within 64 o) front [] (value_text o v ++ tail) complete ∙ reads v 63 o front [] tail s.deep s.range (element_type (type_said v) complete) refl))
    ((ap (λ (b : List ℕ). some {A = ℕ × Bytes} (f.code, (b, rest))) (field_in o out f)))))

-- a field's line isn't the body's
no_body : (o : Order) (f : SaidField) (rest : Text) → f.code < 256 → starts_with nat_eq (field_line o f ++ rest) (codes "body") ≡ false
no_body o f rest low =
    let front = decimal_front f.code (omega arith) in
    let v = value_text o f.value in
    let others = front.others ++ 32 ∷ (spelled_type (type_said f.value) ++ 32 ∷ (v ++ 10 ∷ rest)) in
    let is : field_line o f ++ rest ≡ front.first ∷ others = field_text (decimal f.code) (spelled_type (type_said f.value)) v rest ∙ ap (λ (t : List ℕ). t ++ 32 ∷ (spelled_type (type_said f.value) ++ 32 ∷ (v ++ 10 ∷ rest))) front.is in
    let digit = leb-true front.first 57 (and_parts (nat_le 48 front.first) (nat_le front.first 57) front.digit).1 in
    elim (cases_Bool (starts_with nat_eq (field_line o f ++ rest) (codes "body"))) [
      | inl e ↦ absurd (omega (arith, digit, ap (λ (l : List ℕ). get_or l 0 0) (sym is ∙ starts-then (field_line o f ++ rest) (codes "body") e)))
      | inr e ↦ e
    ]

body_front : (rest : Text) → starts_with nat_eq (codes "body" ++ rest) (codes "body") ≡ true
body_front rest = elim (cases_Bool (starts_with nat_eq (codes "body" ++ rest) (codes "body"))) [
  | inl e ↦ e
  | inr e ↦ absurd (starts-if (codes "body" ++ rest) (codes "body") rest e refl)
]

pub fields_read : (fields : List SaidField) (fuel : ℕ) (o : Order) (types : Option (List ℕ)) (out : List ℕ) (rest : Text) → list_all field_shape fields ≡ true → length (flat_map (field_line o) fields) < fuel →
    read_fields o fuel types out (flat_map (field_line o) fields ++ (codes "body" ++ rest)) ≡ Some (types_found types fields, (out ++ fields_bytes o (length out) fields, rest))
fields_read fields zero o types out rest e f = absurd (omega (arith, f))
fields_read [] (suc fuel) o types out rest e f =
    let done : List ℕ → Option (Option (List ℕ) × Bytes) = λ b. some {A = Option (List ℕ) × Bytes} (types, (b, rest)) in
    let on : ℕ × Bytes → Option (Option (List ℕ) × Bytes) = λ x. read_fields o fuel (or_else types (signature_in x.0 (drop (length (with_gap 8 out) + 1) x.1.0))) x.1.0 x.1.1 in
    ap (λ (b : Bool). cond b (done out) (read_field o out (codes "body" ++ rest) >>= on)) (body_front rest) ∙ ap done (sym (append-nil out))
fields_read (g ∷ fields) (suc fuel) o types out rest e f =
    let a = and_parts (field_shape g) (list_all field_shape fields) e in
    let low = ltb-true g.code 256 (and_parts (nat_lt g.code 256) (has_shape 63 g.value) a.0).0 in
    let others = flat_map (field_line o) fields ++ (codes "body" ++ rest) in
    let text = field_line o g ++ others in
    let first = field_bytes o (length out) g in
    let next = out ++ first in
    let start = with_gap 8 out ++ g.code ∷ [] in
    let done : Option (Option (List ℕ) × Bytes) = some {A = Option (List ℕ) × Bytes} (types, (out, drop 4 text)) in
    let on : ℕ × Bytes → Option (Option (List ℕ) × Bytes) = λ x. read_fields o fuel (or_else types (signature_in x.0 (drop (length (with_gap 8 out) + 1) x.1.0))) x.1.0 x.1.1 in
    let longer : 0 < length (field_line o g) = omega (arith, length-append (decimal g.code ++ 32 ∷ spelled_type (type_said g.value) ++ 32 ∷ value_text o g.value) (10 ∷ [])) in
    ap (λ (t : List ℕ). read_fields o (suc fuel) types out t) (append_assoc (field_line o g) (flat_map (field_line o) fields) (codes "body" ++ rest))
    ∙ ap (λ (b : Bool). cond b done (read_field o out text >>= on)) (no_body o g others low)
    ∙ then_is _ _ _ _ (field_read o out g others a.0)
    (ap (λ (q : Option (List ℕ)). read_fields o fuel (or_else types q) next others) (ap (signature_in g.code) (value_in o out g) ∙ sig_in_field o (length start) g)
    ∙ fields_read fields fuel o (or_else types (sig_text g)) next rest a.1 (omega (arith, f, longer, length-append (field_line o g) (flat_map (field_line o) fields)))
    ∙ ap (λ (b : List ℕ). some {A = Option (List ℕ) × Bytes} (types_found types (g ∷ fields), (b, rest))) (ap (λ (m : ℕ). out ++ first ++ fields_bytes o m fields) (length-append out first) ∙ append_assoc out first (fields_bytes o (length out + length first) fields)))

-- ---- the body

pub values_read : (vs : List Said) (fuel : ℕ) (o : Order) (out : List ℕ) (rest : Text) → list_all (has_shape 64) vs ≡ true → length (spelled_types (map type_said vs)) < fuel →
    read_values o fuel (spelled_types (map type_said vs)) out (flat_map (λ v. 32 ∷ value_text o v) vs ++ 10 ∷ rest) ≡ Some (out ++ values_bytes o (length out) vs, 10 ∷ rest)
values_read vs zero o out rest e f = absurd (omega (arith, f))
values_read [] (suc fuel) o out rest e f = ap (λ (b : List ℕ). bytes_read b (10 ∷ rest)) (sym (append-nil out))
values_read (v ∷ vs) (suc fuel) o out rest e f =
    let a = and_parts (has_shape 64 v) (list_all (has_shape 64) vs) e in
    let s = shape 64 v a.0 in
    let complete = one_complete (type_said v) s.sound in
    let spelling = spelled_type (type_said v) in
    let types = spelled_types (map type_said vs) in
    let others = flat_map (λ w. 32 ∷ value_text o w) vs ++ 10 ∷ rest in
    let text = value_text o v ++ others in
    let on : Value → Option Bytes = λ x. read_values o fuel x.0 x.1 x.2 in
    let first = bytes_of o (length out) v in
    ap (λ (t : List ℕ). read_values o (suc fuel) (spelling ++ types) out t) (append_assoc (32 ∷ value_text o v) (flat_map (λ w. 32 ∷ value_text o w) vs) (10 ∷ rest))
    ∙ ap (λ (b : Bool). cond b (some {A = Bytes} (out, 32 ∷ text)) (after_byte 32 (32 ∷ text) >>= λ next. read_within 65 o (spelling ++ types) out next >>= on)) (not_empty (spelling ++ types) (omega (arith, length-append spelling types, type_len (type_said v))))
    ∙ (then_is _ _ _ _ (plain (type_said v) (read_within 65 o) out types text complete ∙ reads v 64 o out types others s.deep s.range (element_type (type_said v) complete) (stops vs))
    (values_read vs fuel o (out ++ first) rest a.1 (omega (arith, f, length-append spelling types, type_len (type_said v)))
    ∙ ap (λ (b : List ℕ). bytes_read b (10 ∷ rest)) (ap (λ (m : ℕ). out ++ first ++ values_bytes o m vs) (length-append out first) ∙ append_assoc out first (values_bytes o (length out + length first) vs))))
  where
    stops : (vs : List Said) → starts_digit (flat_map (λ w. 32 ∷ value_text o w) vs ++ 10 ∷ rest) ≡ false
    stops [] = refl
    stops (w ∷ vs) = refl
