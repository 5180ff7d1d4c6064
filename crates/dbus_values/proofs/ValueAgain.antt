-- Each value in the limits, spelled at a place, is read again there, whatever bytes follow.
use Rattle.std.proofs.Common.{◌≡◌, ℕ, zero, suc, ◌+◌, ◌^◌, ◌<◌, ◌≤◌, Bool, true, false, cond, List, [], ◌∷◌, ◌++◌, length, Option, Some, refl, sym, ap, ◌∙◌, append_assoc, arith}
use Rattle.std.specs.Prelude.{◌&&◌, nat_lt, nat_le, max}
use Rattle.std.specs.List.{list_all}
use Rattle.std.specs.Int.{w32, byte_len}
use Rattle.std.proofs.lemmas.List.{length-append, length-replicate, append-nil}
use Rattle.std.proofs.lemmas.Bool.{and_parts, ltb-true, le-leb, leb-true}
use Rattle.byte_lists.proofs.Bytes.{bytes_eq-true, not_empty}
use Rattle.byte_lists.proofs.Options.{some}
use Rattle.dbus_names.specs.Names.{is_path, is_empty}
use Rattle.dbus_types.specs.Signature.{Number, byte, boolean, int16, uint16, int32, uint32, int64, uint64, double, handle, number, string, path, signature, Complete, basic, variant, array, struct, entry, spelled_type, spelled_types, is_signature, is_complete, is_element_type, are_complete, is_basic, is_shallow}
use Rattle.dbus_values.specs.Values.{Value, a_number, a_string, a_path, a_signature, a_variant, an_array, a_struct, an_entry, Values, no_values, value, type_of, types_of, width, alignment, padding, zeros, number_bytes, counted, spelled, spelled_all, spelled_signature, elements_place, depth, depths, is_text, limit, has_type, have_type, is_value, are_values}
use Rattle.dbus_values.specs.Reading.{At, ◌>>=◌, to_the_end, each_of, element_at, value_by, value_within}
use Rattle.dbus_types.proofs.SignatureLaws.{spelled_types_is}
use Rattle.dbus_values.proofs.ValueLaws.{at, wide, wide_32, some_bytes_front, aligned_front, width_front, then_is, when_true, ends_at, text_front, signature_front}
use Rattle.dbus_values.specs.declared.Order.{Order}

-- ---- small facts

limit_le : (n : Number) → limit n ≤ 256 ^ byte_len (width n)
limit_le byte = omega arith
limit_le boolean = omega arith
limit_le int16 = omega arith
limit_le uint16 = omega arith
limit_le int32 = omega arith
limit_le uint32 = omega arith
limit_le int64 = omega arith
limit_le uint64 = omega arith
limit_le double = omega arith
limit_le handle = omega arith

byte_len_pos : (n : Number) → 0 < byte_len (width n)
byte_len_pos byte = omega arith
byte_len_pos boolean = omega arith
byte_len_pos int16 = omega arith
byte_len_pos uint16 = omega arith
byte_len_pos int32 = omega arith
byte_len_pos uint32 = omega arith
byte_len_pos int64 = omega arith
byte_len_pos uint64 = omega arith
byte_len_pos double = omega arith
byte_len_pos handle = omega arith

max_left : (a b : ℕ) → a ≤ max a b
max_left a b = omega arith

max_right : (a b : ℕ) → b ≤ max a b
max_right a b = omega arith

-- a type that is no dict entry is read as an element as it is read elsewhere
pub plain : (inner : Complete → At → Option (Value × At)) (t : Complete) (a : At) → is_complete t ≡ true → inner t a ≡ element_at inner t a
plain inner (basic b) a c = refl
plain inner variant a c = refl
plain inner (array t) a c = refl
plain inner (struct t ts) a c = refl
plain inner (entry k t) a c = absurd cc

pub element_type : (t : Complete) → is_complete t ≡ true → is_element_type t ≡ true
element_type (basic b) c = c
element_type variant c = c
element_type (array t) c = c
element_type (struct t ts) c = c
element_type (entry k t) c = absurd cc

pub basic_complete : (t : Complete) → is_basic t ≡ true → is_complete t ≡ true
basic_complete (basic b) c = refl
basic_complete variant c = refl
basic_complete (array t) c = absurd cc
basic_complete (struct t ts) c = absurd cc
basic_complete (entry k t) c = absurd cc

heads : (a b : Complete) → a ∷ [] ≡ b ∷ [] → a ≡ b
heads a b e = cc

has_type-true : (t : Complete) (v : Value) → has_type t v ≡ true → t ≡ type_of v
has_type-true t v e = heads t (type_of v) (spelled_types_is (t ∷ []) (type_of v ∷ []) (append-nil (spelled_type t) ∙ bytes_eq-true (spelled_type t) (spelled_type (type_of v)) e ∙ sym (append-nil (spelled_type (type_of v)))))

-- ---- each spelling has a byte

longer : (a b : List ℕ) → 0 < length b → 0 < length (a ++ b)
longer a b h = omega (arith, length-append a b)

two_len : (a b c : List ℕ) → length (a ++ b ++ c) ≡ length a + length b + length c
two_len a b c = omega (arith, length-append (a ++ b) c, length-append a b)

array_len : (o : Order) (p : ℕ) (t : Complete) (e : List ℕ) → length (zeros 4 p ++ number_bytes o w32 (length e) ++ zeros (alignment t) (p + padding 4 p + 4) ++ e) ≡ padding 4 p + 4 + padding (alignment t) (p + padding 4 p + 4) + length e
array_len o p t e = omega (arith, length-append (zeros 4 p ++ number_bytes o w32 (length e) ++ zeros (alignment t) (p + padding 4 p + 4)) e, two_len (zeros 4 p) (number_bytes o w32 (length e)) (zeros (alignment t) (p + padding 4 p + 4)), length-replicate {A = ℕ} (padding 4 p) 0, wide_32.len o (length e), length-replicate {A = ℕ} (padding (alignment t) (p + padding 4 p + 4)) 0)

pub spelled_pos : (v : Value) (o : Order) (p : ℕ) → 0 < length (spelled o p v)
spelled_pos (a_number n x) o p = longer (zeros (byte_len (width n)) p) (number_bytes o (width n) x) (rw ((wide n).len o x) (byte_len_pos n))
spelled_pos (a_string text) o p = longer (zeros 4 p ++ counted o text) (0 ∷ []) (omega arith)
spelled_pos (a_path text) o p = longer (zeros 4 p ++ counted o text) (0 ∷ []) (omega arith)
spelled_pos (a_signature ts) o p = omega arith
spelled_pos (a_variant v) o p = longer (spelled_signature (type_of v ∷ [])) (spelled o (p + length (spelled_signature (type_of v ∷ []))) v) (spelled_pos v o (p + length (spelled_signature (type_of v ∷ []))))
spelled_pos (an_array t vs) o p = omega (arith, array_len o p t (spelled_all o (elements_place t p) vs))
spelled_pos (a_struct v vs) o p = omega (arith, spelled_pos v o (p + padding 8 p), two_len (zeros 8 p) (spelled o (p + padding 8 p) v) (spelled_all o (p + padding 8 p + length (spelled o (p + padding 8 p) v)) vs))
spelled_pos (an_entry k v) o p = omega (arith, spelled_pos k o (p + padding 8 p), two_len (zeros 8 p) (spelled o (p + padding 8 p) k) (spelled o (p + padding 8 p + length (spelled o (p + padding 8 p) k)) v))

-- ---- case by case

number_again : (n : Number) (x k : ℕ) (o : Order) (p : ℕ) (r : List ℕ) → nat_lt x (limit n) ≡ true → value_by o (value_within k o) (basic (number n)) (at p (spelled o p (a_number n x) ++ r)) ≡ Some (a_number n x, at (p + length (spelled o p (a_number n x))) r)
number_again n x k o p r i =
    let w = width n in
    let low : x < 256 ^ byte_len w = omega (arith, ltb-true x (limit n) i, limit_le n) in
    let len : length (zeros (byte_len w) p ++ number_bytes o w x) ≡ padding (byte_len w) p + byte_len w = length-append (zeros (byte_len w) p) (number_bytes o w x) ∙ sums (length-replicate {A = ℕ} (padding (byte_len w) p) 0) ((wide n).len o x) in
    ap (λ (t : List ℕ). value_by o (value_within k o) (basic (number n)) (at p t)) (append_assoc (zeros (byte_len w) p) (number_bytes o w x) r)
    ∙ then_is _ _ _ _ (aligned_front (byte_len w) p (number_bytes o w x ++ r))
    (then_is _ _ _ _ (width_front o w x (p + padding (byte_len w) p) r (wide n) low)
    (when_true (nat_lt x (limit n)) (a_number n x, at (p + padding (byte_len w) p + byte_len w) r) i
    ∙ ends_at (a_number n x) (p + padding (byte_len w) p + byte_len w) (p + length (zeros (byte_len w) p ++ number_bytes o w x)) r (omega (arith, len))))
  where
    sums : {a b c d : ℕ} → a ≡ b → c ≡ d → a + c ≡ b + d
    sums e f = omega arith

string_again : (text : List ℕ) (k : ℕ) (o : Order) (p : ℕ) (r : List ℕ) → is_text text ≡ true → value_by o (value_within k o) (basic string) (at p (spelled o p (a_string text) ++ r)) ≡ Some (a_string text, at (p + length (spelled o p (a_string text))) r)
string_again text k o p r i = then_is _ _ _ _ (text_front o p text r i) refl

path_again : (text : List ℕ) (k : ℕ) (o : Order) (p : ℕ) (r : List ℕ) → (is_text text && is_path text) ≡ true → value_by o (value_within k o) (basic path) (at p (spelled o p (a_path text) ++ r)) ≡ Some (a_path text, at (p + length (spelled o p (a_path text))) r)
path_again text k o p r i =
    let t = and_parts (is_text text) (is_path text) i in
    then_is _ _ _ _ (text_front o p text r t.0) (when_true (is_path text) (a_path text, at (p + length (spelled o p (a_path text))) r) t.1)

signature_again : (ts : List Complete) (k : ℕ) (o : Order) (p : ℕ) (r : List ℕ) → is_signature ts ≡ true → value_by o (value_within k o) (basic signature) (at p (spelled o p (a_signature ts) ++ r)) ≡ Some (a_signature ts, at (p + length (spelled o p (a_signature ts))) r)
signature_again ts k o p r i = then_is _ _ _ _ (signature_front p ts r i) refl

variant_again : (v : Value) (k : ℕ) (o : Order) (p : ℕ) (r : List ℕ) → is_signature (type_of v ∷ []) ≡ true
    → (let q = p + length (spelled_signature (type_of v ∷ [])) in value_within k o (type_of v) (at q (spelled o q v ++ r)) ≡ Some (v, at (q + length (spelled o q v)) r))
    → value_by o (value_within k o) variant (at p (spelled o p (a_variant v) ++ r)) ≡ Some (a_variant v, at (p + length (spelled o p (a_variant v))) r)
variant_again v k o p r i ih =
    let head = spelled_signature (type_of v ∷ []) in
    let q = p + length head in
    ap (λ (t : List ℕ). value_by o (value_within k o) variant (at p t)) (append_assoc head (spelled o q v) r)
    ∙ then_is _ _ _ _ (signature_front p (type_of v ∷ []) (spelled o q v ++ r) i)
    (then_is _ _ _ _ ih
    (ends_at (a_variant v) (q + length (spelled o q v)) (p + length (head ++ spelled o q v)) r (omega (arith, length-append head (spelled o q v)))))

array_again : (t : Complete) (vs : Values) (k : ℕ) (o : Order) (p : ℕ) (r : List ℕ) → length (spelled_all o (elements_place t p) vs) ≤ 2 ^ 26
    → to_the_end (element_at (value_within k o) t) (suc (length (spelled_all o (elements_place t p) vs))) (at (elements_place t p) (spelled_all o (elements_place t p) vs)) ≡ Some vs
    → value_by o (value_within k o) (array t) (at p (spelled o p (an_array t vs) ++ r)) ≡ Some (an_array t vs, at (p + length (spelled o p (an_array t vs))) r)
array_again t vs k o p r short ih =
    let e = spelled_all o (elements_place t p) vs in
    let q = p + padding 4 p + 4 in
    let n = number_bytes o w32 (length e) in
    let z = zeros (alignment t) q in
    ap (λ (b : List ℕ). value_by o (value_within k o) (array t) (at p b)) (append_assoc (zeros 4 p ++ n ++ z) e r ∙ append_assoc (zeros 4 p ++ n) z (e ++ r) ∙ append_assoc (zeros 4 p) n (z ++ (e ++ r)))
    ∙ then_is _ _ _ _ (aligned_front 4 p (n ++ (z ++ (e ++ r))))
    (then_is _ _ _ _ (width_front o w32 (length e) (p + padding 4 p) (z ++ (e ++ r)) wide_32 (omega (arith, short)))
    (then_is _ _ _ _ (aligned_front (alignment t) q (e ++ r))
    (then_is _ _ _ _ (some_bytes_front (length e) (q + padding (alignment t) q) e r refl)
    (then_is _ _ _ _ ih
    (when_true (nat_le (length e) (2 ^ 26)) (an_array t vs, at (q + padding (alignment t) q + length e) r) (le-leb (length e) (2 ^ 26) short)
    ∙ ends_at (an_array t vs) (q + padding (alignment t) q + length e) (p + length (zeros 4 p ++ n ++ z ++ e)) r (omega (arith, array_len o p t e)))))))

struct_again : (v : Value) (vs : Values) (k : ℕ) (o : Order) (p : ℕ) (r : List ℕ)
    → (let q = p + padding 8 p in let more = spelled_all o (q + length (spelled o q v)) vs in
    (value_within k o (type_of v) (at q (spelled o q v ++ (more ++ r))) ≡ Some (v, at (q + length (spelled o q v)) (more ++ r)))
    × (each_of (value_within k o) (types_of vs) (at (q + length (spelled o q v)) (more ++ r)) ≡ Some (vs, at (q + length (spelled o q v) + length more) r)))
    → value_by o (value_within k o) (struct (type_of v) (types_of vs)) (at p (spelled o p (a_struct v vs) ++ r)) ≡ Some (a_struct v vs, at (p + length (spelled o p (a_struct v vs))) r)
struct_again v vs k o p r ih =
    let q = p + padding 8 p in
    let first = spelled o q v in
    let more = spelled_all o (q + length first) vs in
    ap (λ (b : List ℕ). value_by o (value_within k o) (struct (type_of v) (types_of vs)) (at p b)) (append_assoc (zeros 8 p ++ first) more r ∙ append_assoc (zeros 8 p) first (more ++ r))
    ∙ then_is _ _ _ _ (aligned_front 8 p (first ++ (more ++ r)))
    (then_is _ _ _ _ ih.0
    (then_is _ _ _ _ ih.1
    (ends_at (a_struct v vs) (q + length first + length more) (p + length (zeros 8 p ++ first ++ more)) r (omega (arith, two_len (zeros 8 p) first more, length-replicate {A = ℕ} (padding 8 p) 0)))))

entry_again : (x y : Value) (k : ℕ) (o : Order) (p : ℕ) (r : List ℕ)
    → (let q = p + padding 8 p in let second = spelled o (q + length (spelled o q x)) y in
    (value_within k o (type_of x) (at q (spelled o q x ++ (second ++ r))) ≡ Some (x, at (q + length (spelled o q x)) (second ++ r)))
    × (value_within k o (type_of y) (at (q + length (spelled o q x)) (second ++ r)) ≡ Some (y, at (q + length (spelled o q x) + length second) r)))
    → element_at (value_within k o) (entry (type_of x) (type_of y)) (at p (spelled o p (an_entry x y) ++ r)) ≡ Some (an_entry x y, at (p + length (spelled o p (an_entry x y))) r)
entry_again x y k o p r ih =
    let q = p + padding 8 p in
    let first = spelled o q x in
    let second = spelled o (q + length first) y in
    ap (λ (b : List ℕ). element_at (value_within k o) (entry (type_of x) (type_of y)) (at p b)) (append_assoc (zeros 8 p ++ first) second r ∙ append_assoc (zeros 8 p) first (second ++ r))
    ∙ then_is _ _ _ _ (aligned_front 8 p (first ++ (second ++ r)))
    (then_is _ _ _ _ ih.0
    (then_is _ _ _ _ ih.1
    (ends_at (an_entry x y) (q + length first + length second) (p + length (zeros 8 p ++ first ++ second)) r (omega (arith, two_len (zeros 8 p) first second, length-replicate {A = ℕ} (padding 8 p) 0)))))

-- ---- all values

-- the first element of an array is read, and then the others
elements_step : (t : Complete) (v : Value) (vs : Values) (k fuel : ℕ) (o : Order) (p : ℕ)
    → (let more = spelled_all o (p + length (spelled o p v)) vs in
    (element_at (value_within k o) t (at p (spelled o p v ++ more)) ≡ Some (v, at (p + length (spelled o p v)) more))
    × (to_the_end (element_at (value_within k o) t) fuel (at (p + length (spelled o p v)) more) ≡ Some vs))
    → to_the_end (element_at (value_within k o) t) (suc fuel) (at p (spelled_all o p (value v vs))) ≡ Some (value v vs)
elements_step t v vs k fuel o p ih =
    let first = spelled o p v in
    let more = spelled_all o (p + length first) vs in
    let there : is_empty (first ++ more) ≡ false = not_empty (first ++ more) (omega (arith, length-append first more, spelled_pos v o p)) in
    ap (λ (b : Bool). cond b (some no_values) (element_at (value_within k o) t (at p (first ++ more)) >>= λ x. to_the_end (element_at (value_within k o) t) fuel x.1 >>= λ xs. some (value x.0 xs))) there
    ∙ then_is _ _ _ _ ih.0 (then_is _ _ _ _ ih.1 refl)

pub one_complete : (t : Complete) → is_signature (t ∷ []) ≡ true → is_complete t ≡ true
one_complete t s =
    let a = and_parts (list_all is_complete (t ∷ []) && list_all is_shallow (t ∷ [])) (nat_le (length (spelled_types (t ∷ []))) 255) s in
    let b = and_parts (list_all is_complete (t ∷ [])) (list_all is_shallow (t ∷ [])) a.0 in
    (and_parts (is_complete t) true b.0).0

mutual
  pub again : (v : Value) (k : ℕ) (o : Order) (p : ℕ) (r : List ℕ) → depth v < suc k → is_value o p v ≡ true → is_element_type (type_of v) ≡ true → element_at (value_within (suc k) o) (type_of v) (at p (spelled o p v ++ r)) ≡ Some (v, at (p + length (spelled o p v)) r)
  again (a_number n x) k o p r d i c = number_again n x k o p r i
  again (a_string text) k o p r d i c = string_again text k o p r i
  again (a_path text) k o p r d i c = path_again text k o p r i
  again (a_signature ts) k o p r d i c = signature_again ts k o p r i
  again (a_variant v) zero o p r d i c = absurd (omega (arith, d))
  again (a_variant v) (suc k) o p r d i c =
      let t = and_parts (is_signature (type_of v ∷ [])) (is_value o (p + length (spelled_signature (type_of v ∷ []))) v) i in
      let complete : is_complete (type_of v) ≡ true = one_complete (type_of v) t.0 in
      let q = p + length (spelled_signature (type_of v ∷ [])) in
      variant_again v (suc k) o p r t.0 (plain (value_within (suc k) o) (type_of v) (at q (spelled o q v ++ r)) complete ∙ again v k o q r (omega (arith, d)) t.1 (element_type (type_of v) complete))
  again (an_array t no_values) k o p r d i c = array_again t no_values k o p r (omega arith) refl
  again (an_array t (value v vs)) zero o p r d i c = absurd (omega (arith, d))
  again (an_array t (value v vs)) (suc k) o p r d i c =
      let e = spelled_all o (elements_place t p) (value v vs) in
      let a = and_parts (is_element_type t && have_type t (value v vs) && are_values o (elements_place t p) (value v vs)) (nat_le (length e) (2 ^ 26)) i in
      let b = and_parts (is_element_type t && have_type t (value v vs)) (are_values o (elements_place t p) (value v vs)) a.0 in
      let u = and_parts (is_element_type t) (have_type t (value v vs)) b.0 in
      array_again t (value v vs) (suc k) o p r (leb-true (length e) (2 ^ 26) a.1) (elements_again (value v vs) t k (suc (length e)) o (elements_place t p) (omega (arith, d)) b.1 u.1 u.0 (omega arith))
  again (a_struct v vs) zero o p r d i c = absurd (omega (arith, d))
  again (a_struct v vs) (suc k) o p r d i c =
      let q = p + padding 8 p in
      let next = q + length (spelled o q v) in
      let more = spelled_all o next vs in
      let t = and_parts (is_value o q v) (are_values o next vs) i in
      let u = and_parts (is_complete (type_of v)) (are_complete (types_of vs)) c in
      struct_again v vs (suc k) o p r (
        plain (value_within (suc k) o) (type_of v) (at q (spelled o q v ++ (more ++ r))) u.0 ∙ again v k o q (more ++ r) (omega (arith, d, max_left (depth v) (depths vs))) t.0 (element_type (type_of v) u.0),
        each_again vs k o next r (omega (arith, d, max_right (depth v) (depths vs))) t.1 u.1,
      )
  again (an_entry x y) k o p r d i c =
      let q = p + padding 8 p in
      let next = q + length (spelled o q x) in
      let second = spelled o next y in
      let t = and_parts (is_value o q x) (is_value o next y) i in
      let u = and_parts (is_basic (type_of x)) (is_complete (type_of y)) c in
      let key = basic_complete (type_of x) u.0 in
      entry_again x y (suc k) o p r (
        plain (value_within (suc k) o) (type_of x) (at q (spelled o q x ++ (second ++ r))) key ∙ again x k o q (second ++ r) (omega (arith, d, max_left (depth x) (depth y))) t.0 (element_type (type_of x) key),
        plain (value_within (suc k) o) (type_of y) (at next (second ++ r)) u.1 ∙ again y k o next r (omega (arith, d, max_right (depth x) (depth y))) t.1 (element_type (type_of y) u.1),
      )

  each_again : (vs : Values) (k : ℕ) (o : Order) (p : ℕ) (r : List ℕ) → depths vs < suc k → are_values o p vs ≡ true → are_complete (types_of vs) ≡ true → each_of (value_within (suc k) o) (types_of vs) (at p (spelled_all o p vs ++ r)) ≡ Some (vs, at (p + length (spelled_all o p vs)) r)
  each_again no_values k o p r d i c = ends_at no_values p (p + 0) r (omega arith)
  each_again (value v vs) k o p r d i c =
      let first = spelled o p v in
      let next = p + length first in
      let more = spelled_all o next vs in
      let t = and_parts (is_value o p v) (are_values o next vs) i in
      let u = and_parts (is_complete (type_of v)) (are_complete (types_of vs)) c in
      ap (λ (b : List ℕ). each_of (value_within (suc k) o) (types_of (value v vs)) (at p b)) (append_assoc first more r)
      ∙ then_is _ _ _ _ (plain (value_within (suc k) o) (type_of v) (at p (first ++ (more ++ r))) u.0 ∙ again v k o p (more ++ r) (omega (arith, d, max_left (depth v) (depths vs))) t.0 (element_type (type_of v) u.0))
      (then_is _ _ _ _ (each_again vs k o next r (omega (arith, d, max_right (depth v) (depths vs))) t.1 u.1)
      (ends_at (value v vs) (next + length more) (p + length (first ++ more)) r (omega (arith, length-append first more))))

  elements_again : (vs : Values) (t : Complete) (k fuel : ℕ) (o : Order) (p : ℕ) → depths vs < suc k → are_values o p vs ≡ true → have_type t vs ≡ true → is_element_type t ≡ true → length (spelled_all o p vs) < fuel → to_the_end (element_at (value_within (suc k) o) t) fuel (at p (spelled_all o p vs)) ≡ Some vs
  elements_again no_values t k zero o p d i h c f = absurd (omega (arith, f))
  elements_again no_values t k (suc fuel) o p d i h c f = refl
  elements_again (value v vs) t k zero o p d i h c f = absurd (omega (arith, f))
  elements_again (value v vs) t k (suc fuel) o p d i h c f =
      let first = spelled o p v in
      let next = p + length first in
      let more = spelled_all o next vs in
      let a = and_parts (is_value o p v) (are_values o next vs) i in
      let b = and_parts (has_type t v) (have_type t vs) h in
      let same : t ≡ type_of v = has_type-true t v b.0 in
      let of_v : is_element_type (type_of v) ≡ true = ap is_element_type (sym same) ∙ c in
      elements_step t v vs (suc k) fuel o p (
        ap (λ (u : Complete). element_at (value_within (suc k) o) u (at p (first ++ more))) same ∙ again v k o p more (omega (arith, d, max_left (depth v) (depths vs))) a.0 of_v,
        elements_again vs t k fuel o next (omega (arith, d, max_right (depth v) (depths vs))) a.1 b.1 c (omega (arith, f, length-append first more, spelled_pos v o p)),
      )
