-- The text of each valid message is of the texts' shape.
use Rattle.std.proofs.Common.{◌≡◌, ℕ, zero, suc, ◌+◌, ◌^◌, ◌≤◌, max, Bool, true, false, cond, List, [], ◌∷◌, ◌++◌, length, map, Option, None, refl, sym, ap, ap₂, ◌∙◌, arith}
use Rattle.std.specs.Prelude.{◌&&◌, ◌||◌, ◌==◌, not, nat_lt, nat_le, bytes_eq}
use Rattle.std.specs.List.{list_all}
use Rattle.std.specs.Str.{is_utf8, IsAscii}
use Rattle.std.proofs.lemmas.Str.{IsUtf8-from_ascii, is_utf8-from_IsUtf8}
use Rattle.std.proofs.lemmas.List.{length-append}
use Rattle.std.proofs.lemmas.Bool.{and_parts, and_from, leb-true, le-leb, eqb-true, ltb-true}
use Rattle.byte_lists.proofs.Options.{some}
use Rattle.dbus_types.specs.Signature.{byte, boolean, int16, uint16, int32, uint32, int64, uint64, double, handle, number, string, path, signature, Basic, Complete, basic, variant, array, struct, entry, Completes, no_types, and, code, spelled_type, spelled_members, spelled_types, is_complete, is_shallow, is_signature}
use Rattle.dbus_values.specs.Values.{Value, a_number, a_string, a_path, a_signature, a_variant, an_array, a_struct, an_entry, Values, no_values, value, type_of, types_of, depth, depths, is_text, have_type, is_value, are_values, is_within, spelled, elements_place, spelled_signature, padding}
use Rattle.dbus_values.specs.declared.Order.{Order}
use Rattle.dbus_header.specs.Message.{Field, Message, Valid, spelled_fields, body_place, field_value, field_in, types_in, stated, is_field_of, is_a_signature, may_follow, may_all_follow, has_field, are_valid, are_valid_fields}
use Rattle.dbus_values.proofs.ValueLaws.{signature_of-spelled}
use Rattle.dbus_types.proofs.SignatureLaws.{spelled_types_is}
use Rattle.message_text.specs.MessageText.{SaidMessage, type_said, types_said, said, all_said, said_field, said_message, are_typed, in_range, all_in_range, depth_said, depths_said, has_shape, field_shape, or_next, types_by_value, body_types, InShape, text_of, message_text}

-- ---- a value says itself

mutual
  pub type_same : (v : Value) → type_said (said v) ≡ type_of v
  type_same (a_number n x) = refl
  type_same (a_string text) = refl
  type_same (a_path text) = refl
  type_same (a_signature ts) = refl
  type_same (a_variant v) = refl
  type_same (an_array t vs) = refl
  type_same (a_struct v vs) = ap₂ struct (type_same v) (types_same vs)
  type_same (an_entry k v) = ap₂ entry (type_same k) (type_same v)

  pub types_same : (vs : Values) → types_said (all_said vs) ≡ types_of vs
  types_same no_values = refl
  types_same (value v vs) = ap₂ and (type_same v) (types_same vs)

mutual
  pub depth_same : (v : Value) → depth_said (said v) ≡ depth v
  depth_same (a_number n x) = refl
  depth_same (a_string text) = refl
  depth_same (a_path text) = refl
  depth_same (a_signature ts) = refl
  depth_same (a_variant v) = ap (λ (k : ℕ). 1 + k) (depth_same v)
  depth_same (an_array t no_values) = refl
  depth_same (an_array t (value v vs)) = ap₂ (λ (a b : ℕ). 1 + max a b) (depth_same v) (depths_same vs)
  depth_same (a_struct v vs) = ap₂ (λ (a b : ℕ). 1 + max a b) (depth_same v) (depths_same vs)
  depth_same (an_entry k v) = ap₂ max (depth_same k) (depth_same v)

  pub depths_same : (vs : Values) → depths_said (all_said vs) ≡ depths vs
  depths_same no_values = refl
  depths_same (value v vs) = ap₂ max (depth_same v) (depths_same vs)

typed_same : (t : Complete) (vs : Values) → are_typed t (all_said vs) ≡ have_type t vs
typed_same t no_values = refl
typed_same t (value v vs) = ap₂ (λ (c : Complete) (b : Bool). bytes_eq (spelled_type t) (spelled_type c) && b) (type_same v) (typed_same t vs)

-- ---- signatures are of ASCII

-- ASCII without control characters and space
abbrev pub is_low : ℕ → Bool
is_low c = nat_lt 32 c && nat_lt c 128

both : (xs ys : List ℕ) → list_all is_low xs ≡ true → list_all is_low ys ≡ true → list_all is_low (xs ++ ys) ≡ true
both [] ys h k = k
both (x ∷ xs) ys h k = let a = and_parts (is_low x) (list_all is_low xs) h in and_from _ _ a.0 (both xs ys a.1 k)

code_low : (b : Basic) → is_low (code b) ≡ true
code_low (number byte) = refl
code_low (number boolean) = refl
code_low (number int16) = refl
code_low (number uint16) = refl
code_low (number int32) = refl
code_low (number uint32) = refl
code_low (number int64) = refl
code_low (number uint64) = refl
code_low (number double) = refl
code_low (number handle) = refl
code_low string = refl
code_low path = refl
code_low signature = refl

mutual
  pub type_low : (t : Complete) → list_all is_low (spelled_type t) ≡ true
  type_low (basic b) = and_from _ _ (code_low b) refl
  type_low variant = refl
  type_low (array t) = type_low t
  type_low (struct t ts) = both (spelled_type t ++ spelled_members ts) (41 ∷ []) (both (spelled_type t) (spelled_members ts) (type_low t) (members_low ts)) refl
  type_low (entry k t) = both (spelled_type k ++ spelled_type t) (125 ∷ []) (both (spelled_type k) (spelled_type t) (type_low k) (type_low t)) refl

  members_low : (ts : Completes) → list_all is_low (spelled_members ts) ≡ true
  members_low no_types = refl
  members_low (and t ts) = both (spelled_type t) (spelled_members ts) (type_low t) (members_low ts)

types_low : (ts : List Complete) → list_all is_low (spelled_types ts) ≡ true
types_low [] = refl
types_low (t ∷ ts) = both (spelled_type t) (spelled_types ts) (type_low t) (types_low ts)

signature_utf8 : (ts : List Complete) → is_utf8 (spelled_types ts) ≡ true
signature_utf8 ts = is_utf8-from_IsUtf8 (spelled_types ts) (IsUtf8-from_ascii (spelled_types ts) (ascii (spelled_types ts) (types_low ts)))
  where
    ascii : (bs : List ℕ) → list_all is_low bs ≡ true → IsAscii bs
    ascii [] e i = omega arith
    ascii (b ∷ bs) e zero = ltb-true b 128 (and_parts (nat_lt 32 b) (nat_lt b 128) (and_parts (is_low b) (list_all is_low bs) e).0).1
    ascii (b ∷ bs) e (suc i) = ascii bs (and_parts (is_low b) (list_all is_low bs) e).1 i

-- ---- a valid value's text is in range

text_utf8 : (text : List ℕ) → is_text text ≡ true → is_utf8 text ≡ true
text_utf8 text e = (and_parts (list_all (nat_lt 0) text) (is_utf8 text) (and_parts (list_all (nat_lt 0) text && is_utf8 text) (nat_lt (length text) (2 ^ 32)) e).0).1

mutual
  range : (o : Order) (p : ℕ) (v : Value) → is_value o p v ≡ true → in_range (said v) ≡ true
  range o p (a_number n x) e = e
  range o p (a_string text) e = text_utf8 text e
  range o p (a_path text) e = text_utf8 text (and_parts _ _ e).0
  range o p (a_signature ts) e = signature_utf8 ts
  range o p (a_variant v) e =
      let a = and_parts _ _ e in
      and_from _ _ (ap (λ (t : Complete). is_signature (t ∷ [])) (type_same v) ∙ a.0) (range o (p + length (spelled_signature (type_of v ∷ []))) v a.1)
  range o p (an_array t vs) e =
      let a = and_parts _ _ (and_parts _ _ e).0 in
      let b = and_parts _ _ a.0 in
      and_from _ _ (typed_same t vs ∙ b.1) (ranges o (elements_place t p) vs a.1)
  range o p (a_struct v vs) e =
      let a = and_parts _ _ e in
      and_from _ _ (range o (p + padding 8 p) v a.0) (ranges o (p + padding 8 p + length (spelled o (p + padding 8 p) v)) vs a.1)
  range o p (an_entry k v) e =
      let a = and_parts _ _ e in
      and_from _ _ (range o (p + padding 8 p) k a.0) (range o (p + padding 8 p + length (spelled o (p + padding 8 p) k)) v a.1)

  ranges : (o : Order) (p : ℕ) (vs : Values) → are_values o p vs ≡ true → all_in_range (all_said vs) ≡ true
  ranges o p no_values e = refl
  ranges o p (value v vs) e = let a = and_parts _ _ e in and_from _ _ (range o p v a.0) (ranges o (p + length (spelled o p v)) vs a.1)

-- ---- fields

field_is : (o : Order) (p : ℕ) (f : Field) → (is_within 64 (a_variant f.value) && is_value o p (field_value f)) ≡ true → field_shape (said_field f) ≡ true
field_is o p f e =
    let start = p + padding 8 p in
    let behind = start + length (spelled o start (a_number byte f.code)) in
    let a = and_parts (is_within 64 (a_variant f.value)) (is_value o p (field_value f)) e in
    let b = and_parts (nat_lt f.code 256) (is_value o behind (a_variant f.value) && true) a.1 in
    let c = and_parts (is_value o behind (a_variant f.value)) true b.1 in
    let d = and_parts (is_signature (type_of f.value ∷ [])) (is_value o (behind + length (spelled_signature (type_of f.value ∷ []))) f.value) c.0 in
    let deep : nat_le (depth_said (said f.value)) 63 ≡ true = le-leb _ _ (omega (arith, depth_same f.value, leb-true (1 + depth f.value) 64 a.0)) in
    and_from _ _ b.0 (and_from _ _ (and_from _ _ (ap (λ (t : Complete). is_signature (t ∷ [])) (type_same f.value) ∙ d.0) (range o (behind + length (spelled_signature (type_of f.value ∷ []))) f.value d.1)) deep)

fields_are : (o : Order) (p : ℕ) (fields : List Field) → are_valid_fields o p fields ≡ true → list_all field_shape (map said_field fields) ≡ true
fields_are o p [] e = refl
fields_are o p (f ∷ fields) e =
    let a = and_parts (is_within 64 (a_variant f.value) && is_value o p (field_value f)) (are_valid_fields o (p + length (spelled o p (field_value f))) fields) e in
    and_from _ _ (field_is o p f a.0) (fields_are o (p + length (spelled o p (field_value f))) fields a.1)

-- the types that the text's fields state are the message's
record Stated (fields : List Field) : Type 0 where
  sound : is_signature (stated fields) ≡ true
  same : body_types (map said_field fields) ≡ stated fields

-- a valid field with a signature
signature_in : (v : Value) → is_a_signature v ≡ true → (ts : List Complete) × (v ≡ a_signature ts)
signature_in (a_signature ts) e = (ts, refl)
signature_in _ e = absurd cc

stated_are : (o : Order) (p : ℕ) (before fields : List Field) → may_all_follow before fields ≡ true → are_valid_fields o p fields ≡ true → Stated fields
stated_are o p before [] m e = record { sound = refl; same = refl }
stated_are o p before (f ∷ fields) m e = go (f.code == 8) refl (stated_are o (p + length (spelled o p (field_value f))) (f ∷ before) fields follow.1 valid.1)
  where
    follow : (may_follow before f ≡ true) × (may_all_follow (f ∷ before) fields ≡ true)
    follow = and_parts (may_follow before f) (may_all_follow (f ∷ before) fields) m

    valid : ((is_within 64 (a_variant f.value) && is_value o p (field_value f)) ≡ true) × (are_valid_fields o (p + length (spelled o p (field_value f))) fields ≡ true)
    valid = and_parts (is_within 64 (a_variant f.value) && is_value o p (field_value f)) (are_valid_fields o (p + length (spelled o p (field_value f))) fields) e

    own : is_field_of f.code f.value ≡ true
    own = (and_parts (is_field_of f.code f.value) (nat_lt 9 f.code || not (has_field f.code before)) follow.0).0

    other : (f.code == 8) ≡ false → Stated fields → Stated (f ∷ fields)
    other h rest = record {
      sound = ap (λ (b : Bool). is_signature (types_in (cond b (some f.value) (field_in 8 fields)))) h ∙ rest.sound;
      same = ap (λ (b : Bool). or_next (cond b (types_by_value (said f.value)) None) (body_types (map said_field fields))) h ∙ rest.same ∙ sym (ap (λ (b : Bool). types_in (cond b (some f.value) (field_in 8 fields))) h);
    }

    this : (f.code == 8) ≡ true → Stated (f ∷ fields)
    this h =
        let eight : f.code ≡ 8 = eqb-true f.code 8 h in
        let s = signature_in f.value (ap (λ (k : ℕ). is_field_of k f.value) (sym eight) ∙ own) in
        let sound : is_signature s.0 ≡ true = of_value s.0 s.1 in
        record {
          sound = ap (λ (b : Bool). is_signature (types_in (cond b (some f.value) (field_in 8 fields)))) h ∙ ap (λ (v : Value). is_signature (types_in (some v))) s.1 ∙ sound;
          same = ap (λ (b : Bool). or_next (cond b (types_by_value (said f.value)) None) (body_types (map said_field fields))) h
              ∙ ap (λ (v : Value). or_next (types_by_value (said v)) (body_types (map said_field fields))) s.1
              ∙ ap (λ (o : Option (List Complete)). or_next o (body_types (map said_field fields))) (signature_of-spelled s.0 sound)
              ∙ sym (ap (λ (b : Bool). types_in (cond b (some f.value) (field_in 8 fields))) h ∙ ap (λ (v : Value). types_in (some v)) s.1);
        }
      where
        of_value : (ts : List Complete) → f.value ≡ a_signature ts → is_signature ts ≡ true
        of_value ts is =
            let start = p + padding 8 p in
            let behind = start + length (spelled o start (a_number byte f.code)) in
            let a = and_parts (is_within 64 (a_variant f.value)) (is_value o p (field_value f)) valid.0 in
            let b = and_parts (nat_lt f.code 256) (is_value o behind (a_variant f.value) && true) a.1 in
            let c = and_parts (is_value o behind (a_variant f.value)) true b.1 in
            let d = and_parts (is_signature (type_of f.value ∷ [])) (is_value o (behind + length (spelled_signature (type_of f.value ∷ []))) f.value) c.0 in
            sym (ap (λ (v : Value). is_value o (behind + length (spelled_signature (type_of f.value ∷ []))) v) is) ∙ d.1

    go : (b : Bool) → (f.code == 8) ≡ b → Stated fields → Stated (f ∷ fields)
    go true h rest = this h
    go false h rest = other h rest

-- ---- the body

body_is : (o : Order) (p : ℕ) (vs : List Value) → are_valid o p vs ≡ true → list_all is_complete (map type_of vs) ≡ true → list_all is_shallow (map type_of vs) ≡ true → length (spelled_types (map type_of vs)) ≤ 255 → list_all (has_shape 64) (map said vs) ≡ true
body_is o p [] e c s l = refl
body_is o p (v ∷ vs) e c s l =
    let a = and_parts (is_within 64 v && is_value o p v) (are_valid o (p + length (spelled o p v)) vs) e in
    let b = and_parts (is_within 64 v) (is_value o p v) a.0 in
    let complete = and_parts (is_complete (type_of v)) (list_all is_complete (map type_of vs)) c in
    let shallow = and_parts (is_shallow (type_of v)) (list_all is_shallow (map type_of vs)) s in
    let len : length (spelled_types (map type_of (v ∷ vs))) ≡ length (spelled_type (type_of v)) + length (spelled_types (map type_of vs)) = length-append (spelled_type (type_of v)) (spelled_types (map type_of vs)) in
    let short : nat_le (length (spelled_type (type_of v) ++ [])) 255 ≡ true = le-leb _ _ (omega (arith, len, l, length-append (spelled_type (type_of v)) [])) in
    let one : is_signature (type_of v ∷ []) ≡ true = and_from _ _ (and_from _ _ (and_from _ _ complete.0 refl) (and_from _ _ shallow.0 refl)) short in
    and_from _ _ (and_from _ _ (and_from _ _ (ap (λ (t : Complete). is_signature (t ∷ [])) (type_same v) ∙ one) (range o p v b.1)) (ap (λ (k : ℕ). nat_le k 64) (depth_same v) ∙ b.0))
    (body_is o (p + length (spelled o p v)) vs a.1 complete.1 shallow.1 (omega (arith, len, l)))

types_all : (vs : List Value) → map type_said (map said vs) ≡ map type_of vs
types_all [] = refl
types_all (v ∷ vs) = ap₂ (λ (t : Complete) (ts : List Complete). t ∷ ts) (type_same v) (types_all vs)

-- ---- the message

-- so a text of a valid message is never of no shape
pub said_shape : (m : Message) → Valid m → InShape (said_message m)
said_shape m v =
    let st = stated_are m.order 16 [] m.fields v.field_list v.field_values in
    let types : stated m.fields ≡ map type_of m.body = spelled_types_is (stated m.fields) (map type_of m.body) v.agreement in
    let sound : is_signature (map type_of m.body) ≡ true = ap is_signature (sym types) ∙ st.sound in
    let a = and_parts (list_all is_complete (map type_of m.body) && list_all is_shallow (map type_of m.body)) (nat_le (length (spelled_types (map type_of m.body))) 255) sound in
    let b = and_parts (list_all is_complete (map type_of m.body)) (list_all is_shallow (map type_of m.body)) a.0 in
    record {
      numbers = (v.kind.1, v.flags, v.serial.1);
      fields = fields_are m.order 16 m.fields v.field_values;
      body = body_is m.order (body_place (length (spelled_fields m.order m.fields))) m.body v.body_values b.0 b.1 (leb-true _ _ a.1);
      types = ap spelled_types (types_all m.body ∙ sym types ∙ sym st.same);
    }

-- a text of no shape is no valid message's
pub no_message : (text : List ℕ) → ((s : SaidMessage) → InShape s → text_of s ≡ text → ⊥) → (m : Message) → Valid m → message_text m ≡ text → ⊥
no_message text h m v e = h (said_message m) (said_shape m v) e
