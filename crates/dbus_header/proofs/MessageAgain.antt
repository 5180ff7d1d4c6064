-- A valid message, spelled, is read again from the start of any bytes that begin with it.
use Rattle.std.proofs.Common.{◌≡◌, ℕ, zero, suc, ◌+◌, ◌^◌, ◌<◌, ◌≤◌, Bool, true, false, cond, List, [], ◌∷◌, ◌++◌, length, map, take, drop, get_or, Option, Some, None, Result, Ok, refl, sym, ap, ◌∙◌, append_assoc, arith, inl, inr}
use Rattle.std.specs.Prelude.{not, ◌&&◌, ◌==◌, nat_lt, nat_le, ◌⊎◌, unwrap_or, is_none}
use Rattle.std.specs.List.{list_all}
use Rattle.std.specs.Int.{w8, w32}
use Rattle.std.proofs.lemmas.List.{length-append, append-nil, take_at, drop_at, length-replicate}
use Rattle.std.proofs.lemmas.Bool.{and_parts, le-ltb, lt-leb, leb-true, eq-eqb, ne_eqb, cases_Bool}
use Rattle.std.proofs.lemmas.Option.{same_Some}
use Rattle.byte_lists.proofs.Options.{some}
use Rattle.dbus_types.specs.Signature.{Complete, basic, number, byte, variant, and, no_types, is_complete, is_signature, is_shallow, spelled_types}
use Rattle.dbus_values.specs.Values.{Value, a_number, a_string, a_path, an_array, a_struct, an_entry, a_variant, a_signature, spelled_signature, type_of, padding, zeros, number_bytes, spelled, depth, is_value, is_within}
use Rattle.dbus_values.specs.Reading.{At, ◌>>=◌, when, past, some_bytes, aligned, a_width, each_of, value_at, value_within, values_at, and_then_all, all_zero}
use Rattle.dbus_header.specs.Message.{order_byte, Field, Message, field_value, spelled_list, spelled_fields, body_place, spell, stated, types_in, field_in, are_valid, are_valid_fields, may_follow, may_all_follow, Valid}
use Rattle.dbus_header.specs.Malformed.{order_of, order_in, body_len, serial_in, fields_len, whole_len, head_fault, has_zeros, fields_of, values_in, body_start, whole_by, whole, message_in, front, field_type, field_at, field_of, valid_field_at, fields_at}
use Rattle.dbus_types.proofs.SignatureLaws.{spelled_types_is}
use Rattle.dbus_values.proofs.ValueLaws.{again_32, all_zero-replicate, at, then_is, when_true}
use Rattle.dbus_header.proofs.StreamLaws.{Fronts, front_from_parts}
use Rattle.dbus_values.proofs.ValueAgain.{again, plain, element_type, spelled_pos}
use Rattle.dbus_values.specs.declared.Order.{Order}
use Rattle.dbus_values.specs.declared.Order.TheVariants.{Little, Big}
use Rattle.dbus_header.specs.declared.Malformed.{Malformed}

-- ---- values

-- a value within the limits is read again
pub value_again : (v : Value) (o : Order) (p : ℕ) (r : List ℕ) → is_within 64 v ≡ true → is_value o p v ≡ true → is_complete (type_of v) ≡ true → value_at o (type_of v) (at p (spelled o p v ++ r)) ≡ Some (v, at (p + length (spelled o p v)) r)
value_again v o p r d i c =
    plain (value_within 65 o) (type_of v) (at p (spelled o p v ++ r)) c
    ∙ again v 64 o p r (omega (arith, leb-true (depth v) 64 d)) i (element_type (type_of v) c)

pair_is : {A : Type 0} (x y : A) (a b : At) → some {A = A × At} (x, a) ≡ some {A = A × At} (y, b) → (x ≡ y) × (a ≡ b)
pair_is {A} x y a b e =
    let two : (x, a) ≡ (y, b) = same_Some (x, a) (y, b) e in
    (ap (λ (q : A × At). q.0) two, ap (λ (q : A × At). q.1) two)

-- so no spelling of a value begins another of its type at its place, and each value has one
pub spelled_is : (v w : Value) (o : Order) (p : ℕ) (x y : List ℕ) → type_of v ≡ type_of w → is_complete (type_of v) ≡ true → is_within 64 v ≡ true → is_within 64 w ≡ true → is_value o p v ≡ true → is_value o p w ≡ true
    → spelled o p v ++ x ≡ spelled o p w ++ y → (v ≡ w) × (x ≡ y)
spelled_is v w o p x y t c dv dw iv iw e =
    let of_v = value_again v o p x dv iv c in
    let of_w = value_again w o p y dw iw (ap is_complete (sym t) ∙ c) in
    let same = sym of_v ∙ ap (λ (u : Complete). value_at o u (at p (spelled o p v ++ x))) t ∙ ap (λ (b : List ℕ). value_at o (type_of w) (at p b)) e ∙ of_w in
    let parts = pair_is v w (at (p + length (spelled o p v)) x) (at (p + length (spelled o p w)) y) same in
    (parts.0, ap (λ (a : At). a.bytes) parts.1)

-- values one after the other
abbrev all_complete : List Value → Bool
all_complete vs = list_all is_complete (map type_of vs)

pub values_again : (vs : List Value) (o : Order) (p : ℕ) (r : List ℕ) → are_valid o p vs ≡ true → all_complete vs ≡ true → values_at o (map type_of vs) (at p (spelled_list o p vs ++ r)) ≡ (vs, at (p + length (spelled_list o p vs)) r)
values_again [] o p r i c = ap (λ (n : ℕ). ([], at n r)) (omega arith)
values_again (v ∷ vs) o p r i c =
    let first = spelled o p v in
    let next = p + length first in
    let others = spelled_list o next vs in
    let t = and_parts (is_within 64 v && is_value o p v) (are_valid o next vs) i in
    let u = and_parts (is_within 64 v) (is_value o p v) t.0 in
    let k = and_parts (is_complete (type_of v)) (all_complete vs) c in
    ap (λ (b : List ℕ). values_at o (map type_of (v ∷ vs)) (at p b)) (append_assoc first others r)
    ∙ ap (λ (q : Option (Value × At)). and_then_all q (at p (first ++ (others ++ r))) (λ w rest. values_at o (map type_of vs) rest)) (value_again v o p (others ++ r) u.0 u.1 k.0)
    ∙ ap (λ (q : List Value × At). (v ∷ q.0, q.1)) (values_again vs o next r t.1 k.1)
    ∙ ap (λ (n : ℕ). (v ∷ vs, at n r)) (omega (arith, length-append first others))

-- ---- fields

pub field_again : (f : Field) (o : Order) (p : ℕ) (r : List ℕ) → is_within 64 (a_variant f.value) ≡ true → is_value o p (field_value f) ≡ true → field_at o (at p (spelled o p (field_value f) ++ r)) ≡ Some (f, at (p + length (spelled o p (field_value f))) r)
field_again f o p r d i =
    let low : depth (field_value f) < 66 = omega (arith, leb-true (depth (a_variant f.value)) 64 d) in
    then_is (value_within 66 o field_type (at p (spelled o p (field_value f) ++ r))) _ _ _ (again (field_value f) 65 o p r low i refl) refl

-- without bytes, alignment fails or leaves no bytes
abbrev Ends : ℕ → ℕ → Type 0
Ends n p = (aligned n (at p []) ≡ None) ⊎ ((q : ℕ) × (aligned n (at p []) ≡ Some (at q [])))

aligned_empty : (n p : ℕ) → Ends n p
aligned_empty n p = go (padding n p)
  where
    go : (k : ℕ) → let a = some_bytes k (at p []) >>= λ x. when (all_zero x.0) x.1 in (a ≡ None) ⊎ ((q : ℕ) × (a ≡ Some (at q [])))
    go zero = inr (p + 0, refl)
    go (suc k) = inl (ap (λ (b : Bool). cond b (some {A = List ℕ × At} (take (suc k) [], past (suc k) (at p []))) None >>= λ x. when (all_zero x.0) x.1) (lt-leb (suc k) 0 (omega arith)))

byte_there : (k : ℕ) (o : Order) (p : ℕ) → value_within (suc k) o (basic (number byte)) (at p []) ≡ None
byte_there k o p = elim (aligned_empty 1 p) [
  | inl e ↦ ap (λ (q : Option At). q >>= λ start. a_width o w8 start >>= λ x. when (nat_lt x.0 256) (a_number byte x.0, x.1)) e
  | inr e ↦ ap (λ (q : Option At). q >>= λ start. a_width o w8 start >>= λ x. when (nat_lt x.0 256) (a_number byte x.0, x.1)) e.1
]

nothing_there : (o : Order) (p : ℕ) → field_at o (at p []) ≡ None
nothing_there o p = elim (aligned_empty 8 p) [
  | inl e ↦ ap (λ (q : Option At). as_field (q >>= λ start. members (value_within 65 o (basic (number byte)) start))) e
  | inr e ↦ ap (λ (q : Option At). as_field (q >>= λ start. members (value_within 65 o (basic (number byte)) start))) e.1 ∙ ap (λ (x : Option (Value × At)). as_field (members x)) (byte_there 64 o e.0)
]
  where
    members : Option (Value × At) → Option (Value × At)
    members x = x >>= λ v. each_of (value_within 65 o) (and variant no_types) v.1 >>= λ vs. some {A = Value × At} (a_struct v.0 vs.0, vs.1)

    as_field : Option (Value × At) → Option (Field × At)
    as_field x = x >>= λ v. field_of v.0 >>= λ f. some {A = Field × At} (f, v.1)

pub no_field_there : (o : Order) (before : List Field) (p : ℕ) → valid_field_at o before (at p []) ≡ None
no_field_there o before p = ap (λ (q : Option (Field × At)). q >>= λ x. when (may_follow before x.0) x) (nothing_there o p)

fields_end : (n : ℕ) (o : Order) (before : List Field) (p : ℕ) → fields_at o n before (at p []) ≡ ([], at p [])
fields_end zero o before p = refl
fields_end (suc n) o before p = ap (λ (q : Option (Field × At)). and_then_all q (at p []) (λ f rest. fields_at o n (f ∷ before) rest)) (no_field_there o before p)

abbrev pub spelled_from : Order → ℕ → List Field → List ℕ
spelled_from o p fields = spelled_list o p (map field_value fields)

pub fields_again : (fields before : List Field) (n : ℕ) (o : Order) (p : ℕ) → are_valid_fields o p fields ≡ true → may_all_follow before fields ≡ true → length (spelled_from o p fields) ≤ n → fields_at o n before (at p (spelled_from o p fields)) ≡ (fields, at (p + length (spelled_from o p fields)) [])
fields_again [] before n o p i m h = fields_end n o before p ∙ ap (λ (q : ℕ). ([], at q [])) (omega arith)
fields_again (f ∷ fields) before zero o p i m h = absurd (omega (arith, h, spelled_pos (field_value f) o p, length-append (spelled o p (field_value f)) (spelled_from o (p + length (spelled o p (field_value f))) fields)))
fields_again (f ∷ fields) before (suc n) o p i m h =
    let first = spelled o p (field_value f) in
    let next = p + length first in
    let others = spelled_from o next fields in
    let t = and_parts (is_within 64 (a_variant f.value) && is_value o p (field_value f)) (are_valid_fields o next fields) i in
    let u = and_parts (is_within 64 (a_variant f.value)) (is_value o p (field_value f)) t.0 in
    let k = and_parts (may_follow before f) (may_all_follow (f ∷ before) fields) m in
    let read : valid_field_at o before (at p (first ++ others)) ≡ Some (f, at next others) = then_is _ _ _ _ (field_again f o p others u.0 u.1) (when_true (may_follow before f) (f, at next others) k.0) in
    ap (λ (q : Option (Field × At)). and_then_all q (at p (first ++ others)) (λ g rest. fields_at o n (g ∷ before) rest)) read
    ∙ ap (λ (q : List Field × At). (f ∷ q.0, q.1)) (fields_again fields (f ∷ before) n o next t.1 k.1 (omega (arith, h, spelled_pos (field_value f) o p, length-append first others)))
    ∙ ap (λ (q : ℕ). (f ∷ fields, at q [])) (omega (arith, length-append first others))

-- ---- whole messages

types_value : (v : Value) (o : Order) (p : ℕ) → is_value o p v ≡ true → list_all is_complete (types_in (Some v)) ≡ true
types_value (a_number n x) o p i = refl
types_value (a_string text) o p i = refl
types_value (a_path text) o p i = refl
types_value (a_signature ts) o p i =
    let a = and_parts (list_all is_complete ts && list_all is_shallow ts) (nat_le (length (spelled_types ts)) 255) i in
    (and_parts (list_all is_complete ts) (list_all is_shallow ts) a.0).0
types_value (a_variant v) o p i = refl
types_value (an_array t vs) o p i = refl
types_value (a_struct v vs) o p i = refl
types_value (an_entry k v) o p i = refl

-- the types that valid fields state are complete
pub stated_complete : (fields : List Field) (o : Order) (p : ℕ) → are_valid_fields o p fields ≡ true → list_all is_complete (stated fields) ≡ true
stated_complete [] o p i = refl
stated_complete (f ∷ fields) o p i =
    let first = spelled o p (field_value f) in
    let q = p + padding 8 p in
    let q' = q + length (spelled o q (a_number byte f.code)) in
    let q'' = q' + length (spelled_signature (type_of f.value ∷ [])) in
    let t = and_parts (is_within 64 (a_variant f.value) && is_value o p (field_value f)) (are_valid_fields o (p + length first) fields) i in
    let u = and_parts (is_within 64 (a_variant f.value)) (is_value o p (field_value f)) t.0 in
    let a = and_parts (is_value o q (a_number byte f.code)) (is_value o q' (a_variant f.value) && true) u.1 in
    let b = and_parts (is_value o q' (a_variant f.value)) true a.1 in
    let c = and_parts (is_signature (type_of f.value ∷ [])) (is_value o q'' f.value) b.0 in
    elim (cases_Bool (f.code == 8)) [
      | inl e ↦ ap (λ (d : Bool). list_all is_complete (types_in (cond d (some f.value) (field_in 8 fields)))) e ∙ types_value f.value o q'' c.1
      | inr e ↦ ap (λ (d : Bool). list_all is_complete (types_in (cond d (some f.value) (field_in 8 fields)))) e ∙ stated_complete fields o (p + length first) t.1
    ]

pub map_len : {A B : Type 0} (f : A → B) (xs : List A) → length (map f xs) ≡ length xs
map_len f [] = refl
map_len f (x ∷ xs) = ap suc (map_len f xs)

-- the first sixteen bytes
abbrev pub head : Order → ℕ → ℕ → ℕ → ℕ → ℕ → List ℕ
head o k f b s n = order_byte o ∷ k ∷ f ∷ 1 ∷ number_bytes o w32 b ++ number_bytes o w32 s ++ number_bytes o w32 n

record Head (o : Order) (k f b s n : ℕ) (t : List ℕ) : Type 0 where
  order : order_of (get_or (head o k f b s n ++ t) 0 0) ≡ Some o
  body : body_len (head o k f b s n ++ t) ≡ b
  serial : serial_in (head o k f b s n ++ t) ≡ s
  fields : fields_len (head o k f b s n ++ t) ≡ n
  rest : drop 16 (head o k f b s n ++ t) ≡ t

head_read : (o : Order) (k f b s n : ℕ) (t : List ℕ) → b < 2 ^ 32 → s < 2 ^ 32 → n < 2 ^ 32 → Head o k f b s n t
head_read Little k f b s n t x y z = record { order = refl; body = again_32 Little b x; serial = again_32 Little s y; fields = again_32 Little n z; rest = refl }
head_read Big k f b s n t x y z = record { order = refl; body = again_32 Big b x; serial = again_32 Big s y; fields = again_32 Big n z; rest = refl }

pub head_len : (o : Order) (k f b s n : ℕ) → length (head o k f b s n) ≡ 16
head_len Little k f b s n = refl
head_len Big k f b s n = refl

-- ---- a valid message

module _ (m : Message) (valid : Valid m) (r : List ℕ) where
  abbrev fields_bytes : List ℕ
  fields_bytes = spelled_fields m.order m.fields

  abbrev body_bytes : List ℕ
  body_bytes = spelled_list m.order (body_place (length fields_bytes)) m.body

  abbrev gap : List ℕ
  gap = zeros 8 (16 + length fields_bytes)

  abbrev the_head : List ℕ
  the_head = head m.order m.kind m.flags (length body_bytes) m.serial (length fields_bytes)

  abbrev tail : List ℕ → List ℕ
  tail x = fields_bytes ++ (gap ++ (body_bytes ++ x))

  spell_parts : (x : List ℕ) → spell m ++ x ≡ the_head ++ tail x
  unfolding spell
  spell_parts x = append_assoc (the_head ++ fields_bytes ++ gap) body_bytes x ∙ append_assoc (the_head ++ fields_bytes) gap (body_bytes ++ x) ∙ append_assoc the_head fields_bytes (gap ++ (body_bytes ++ x))

  spell_len : length (spell m) ≡ body_place (length fields_bytes) + length body_bytes
  unfolding spell
  spell_len = omega (arith, length-append (the_head ++ fields_bytes ++ gap) body_bytes, length-append (the_head ++ fields_bytes) gap, length-append the_head fields_bytes, head_len m.order m.kind m.flags (length body_bytes) m.serial (length fields_bytes), length-replicate {A = ℕ} (padding 8 (16 + length fields_bytes)) 0)

  body_short : length body_bytes ≤ 2 ^ 27
  body_short = omega (arith, spell_len, valid.len)

  heads : (x : List ℕ) → Head m.order m.kind m.flags (length body_bytes) m.serial (length fields_bytes) (tail x)
  heads x = head_read m.order m.kind m.flags (length body_bytes) m.serial (length fields_bytes) (tail x) (omega (arith, body_short)) valid.serial.1 (omega (arith, valid.fields_len))

  order_is : (x : List ℕ) → order_in (the_head ++ tail x) ≡ m.order
  order_is x = ap (λ (q : Option Order). unwrap_or q Little) (heads x).order

  whole_is : (x : List ℕ) → whole_len (the_head ++ tail x) ≡ length (spell m)
  whole_is x = ap (λ (n : ℕ). body_place n + body_len (the_head ++ tail x)) (heads x).fields ∙ ap (λ (n : ℕ). body_place (length fields_bytes) + n) (heads x).body ∙ sym spell_len

  sound : (x : List ℕ) → head_fault (the_head ++ tail x) ≡ None
  unfolding head_fault
  sound x =
      let bytes = the_head ++ tail x in
      let one : is_none (order_of (get_or bytes 0 0)) ≡ false = ap is_none (heads x).order in
      let two : (get_or bytes 1 0 == 0) ≡ false = ne_eqb m.kind 0 (λ e. absurd (omega (arith, e, valid.kind.0))) in
      let four : nat_lt (2 ^ 26) (fields_len bytes) ≡ false = le-ltb (2 ^ 26) (fields_len bytes) (omega (arith, (heads x).fields, valid.fields_len)) in
      let five : nat_lt (2 ^ 27) (whole_len bytes) ≡ false = le-ltb (2 ^ 27) (whole_len bytes) (omega (arith, whole_is x, valid.len)) in
      let six : (serial_in bytes == 0) ≡ false = ne_eqb (serial_in bytes) 0 (λ e. absurd (omega (arith, e, (heads x).serial, valid.serial.0))) in
      pass _ _ _ _ one (pass _ _ _ _ two (pass _ _ _ _ four (pass _ _ _ _ five (pass _ _ _ _ six refl))))
    where
      pass : (b : Bool) (y z w : Option Malformed) → b ≡ false → z ≡ w → cond b y z ≡ w
      pass b y z w e k = ap (λ (c : Bool). cond c y z) e ∙ k

  fields_are : (x : List ℕ) → fields_of (the_head ++ tail x) ≡ (m.fields, at (16 + length fields_bytes) [])
  fields_are x =
      let bytes = the_head ++ tail x in
      ap (λ (o : Order). fields_at o (fields_len bytes) [] (at 16 (take (fields_len bytes) (drop 16 bytes)))) (order_is x)
      ∙ ap (λ (n : ℕ). fields_at m.order n [] (at 16 (take n (drop 16 bytes)))) (heads x).fields
      ∙ ap (λ (t : List ℕ). fields_at m.order (length fields_bytes) [] (at 16 (take (length fields_bytes) t))) (heads x).rest
      ∙ ap (λ (t : List ℕ). fields_at m.order (length fields_bytes) [] (at 16 t)) (take_at fields_bytes (gap ++ (body_bytes ++ x)) (length fields_bytes) refl)
      ∙ fields_again m.fields [] (length fields_bytes) m.order 16 valid.field_values valid.field_list (omega arith)

  front_len : length (the_head ++ fields_bytes) ≡ 16 + length fields_bytes
  front_len = length-append the_head fields_bytes ∙ ap (λ (n : ℕ). n + length fields_bytes) (head_len m.order m.kind m.flags (length body_bytes) m.serial (length fields_bytes))

  gap_len : length gap ≡ padding 8 (16 + length fields_bytes)
  gap_len = length-replicate {A = ℕ} (padding 8 (16 + length fields_bytes)) 0

  zeros_are : (x : List ℕ) → has_zeros (the_head ++ tail x) ≡ true
  zeros_are x =
      let bytes = the_head ++ tail x in
      ap (λ (n : ℕ). all_zero (take (padding 8 (16 + n)) (drop (16 + n) bytes))) (heads x).fields
      ∙ ap (λ (t : List ℕ). all_zero (take (padding 8 (16 + length fields_bytes)) (drop (16 + length fields_bytes) t))) (sym (append_assoc the_head fields_bytes (gap ++ (body_bytes ++ x))))
      ∙ ap (λ (t : List ℕ). all_zero (take (padding 8 (16 + length fields_bytes)) t)) (drop_at (the_head ++ fields_bytes) (gap ++ (body_bytes ++ x)) (16 + length fields_bytes) front_len)
      ∙ ap all_zero (take_at gap (body_bytes ++ x) (padding 8 (16 + length fields_bytes)) gap_len)
      ∙ all_zero-replicate (padding 8 (16 + length fields_bytes))

  types_are : stated m.fields ≡ map type_of m.body
  types_are = spelled_types_is (stated m.fields) (map type_of m.body) valid.agreement

  values_are : values_in (the_head ++ tail []) (stated m.fields) ≡ (m.body, at (body_place (length fields_bytes) + length body_bytes) [])
  values_are =
      let bytes = the_head ++ tail [] in
      let place = body_place (length fields_bytes) in
      let before = the_head ++ fields_bytes ++ gap in
      let len : length before ≡ place = omega (arith, length-append (the_head ++ fields_bytes) gap, front_len, gap_len) in
      ap (λ (o : Order). values_at o (stated m.fields) (at (body_start bytes) (drop (body_start bytes) bytes))) (order_is [])
      ∙ ap (λ (ts : List Complete). values_at m.order ts (at (body_start bytes) (drop (body_start bytes) bytes))) types_are
      ∙ ap (λ (n : ℕ). values_at m.order (map type_of m.body) (at (body_place n) (drop (body_place n) bytes))) (heads []).fields
      ∙ ap (λ (t : List ℕ). values_at m.order (map type_of m.body) (at place (drop place t))) (sym (append_assoc (the_head ++ fields_bytes) gap (body_bytes ++ []) ∙ append_assoc the_head fields_bytes (gap ++ (body_bytes ++ []))))
      ∙ ap (λ (t : List ℕ). values_at m.order (map type_of m.body) (at place t)) (drop_at before (body_bytes ++ []) place len)
      ∙ values_again m.body m.order place [] valid.body_values (ap (λ (ts : List Complete). list_all is_complete ts) (sym types_are) ∙ stated_complete m.fields m.order 16 valid.field_values)

  whole_again : whole (the_head ++ tail []) ≡ Ok m
  unfolding whole
  whole_again =
      let bytes = the_head ++ tail [] in
      let counts : (length m.body == length (stated m.fields)) ≡ true = eq-eqb (length m.body) (length (stated m.fields)) (sym (map_len type_of m.body) ∙ ap length (sym types_are)) in
      ap (λ (f : List Field × At). whole_by bytes f (values_in bytes (stated f.0))) (fields_are [])
      ∙ ap (λ (b : List Value × At). whole_by bytes (m.fields, at (16 + length fields_bytes) []) b) values_are
      ∙ fails_not _ _ _ _ (ap not (zeros_are []))
      (fails_not _ _ _ _ (ap not valid.required)
      (fails_not _ _ _ _ (ap (λ (b : Bool). not (b && true)) counts)
      (fails_not _ _ _ _ (ap not valid.descriptors)
      (ap (λ (o : Order). ok (record m { order = o; serial = serial_in bytes })) (order_is [])
      ∙ ap (λ (n : ℕ). ok (record m { serial = n })) (heads []).serial))))
    where
      ok : Message → Result Message Malformed
      ok n = Ok n

      fails_not : (b : Bool) (y z w : Result Message Malformed) → b ≡ false → z ≡ w → cond b y z ≡ w
      fails_not b y z w e k = ap (λ (c : Bool). cond c y z) e ∙ k

  fronts : Fronts (the_head ++ tail r) m r
  fronts =
      let bytes = the_head ++ tail r in
      let len : length bytes ≡ length (spell m) + length r = ap length (sym (spell_parts r)) ∙ length-append (spell m) r in
      let only : the_head ++ tail [] ≡ spell m = sym (spell_parts []) ∙ append-nil (spell m) in
      record {
        long = omega (arith, len, spell_len);
        sound = ap is_none (sound r);
        stands = omega (arith, len, whole_is r);
        is = ap (λ (n : ℕ). message_in (whole (take n bytes))) (whole_is r)
            ∙ ap (λ (t : List ℕ). message_in (whole (take (length (spell m)) t))) (sym (spell_parts r))
            ∙ ap (λ (t : List ℕ). message_in (whole t)) (take_at (spell m) r (length (spell m)) refl ∙ sym only)
            ∙ ap message_in whole_again;
        rest = ap (λ (n : ℕ). drop n bytes) (whole_is r) ∙ ap (λ (t : List ℕ). drop (length (spell m)) t) (sym (spell_parts r)) ∙ drop_at (spell m) r (length (spell m)) refl;
      }

-- what a valid message spells is read as that message, whatever follows
pub front-spell : (m : Message) (r : List ℕ) → Valid m → front (spell m ++ r) ≡ Some (m, r)
front-spell m r valid = ap front (spell_parts m valid r r) ∙ front_from_parts (the_head m valid r ++ tail m valid r r) m r (fronts m valid r)

-- so each stream begins with at most one message
pub spell_is : (m n : Message) (x y : List ℕ) → Valid m → Valid n → spell m ++ x ≡ spell n ++ y → (m ≡ n) × (x ≡ y)
spell_is m n x y p q e = two_are (sym (front-spell m x p) ∙ ap front e ∙ front-spell n y q)
  where
    two_are : some {A = Message × List ℕ} (m, x) ≡ some {A = Message × List ℕ} (n, y) → (m ≡ n) × (x ≡ y)
    two_are h = let t : (m, x) ≡ (n, y) = same_Some (m, x) (n, y) h in (ap (λ (q : Message × List ℕ). q.0) t, ap (λ (q : Message × List ℕ). q.1) t)
