-- The bytes that a text gives. They are those that its message spells, if the message is valid.
use Rattle.std.proofs.Common.{◌≡◌, ℕ, ◌+◌, ◌-◌, ◌^◌, ◌<◌, ◌≤◌, true, List, [], ◌∷◌, ◌++◌, length, refl, sym, ap, ◌∙◌, arith, min}
use Rattle.std.specs.Prelude.{◌&&◌, nat_lt, nat_le}
use Rattle.std.specs.List.{list_all}
use Rattle.std.specs.Str.{is_utf8}
use Rattle.std.specs.Int.{w32, byte_len}
use Rattle.std.proofs.lemmas.List.{append-nil}
use Rattle.std.proofs.lemmas.Bool.{and_parts, ltb-true, leb-true}
use Rattle.dbus_types.specs.Signature.{Complete, spelled_type, spelled_types, is_signature, is_complete, is_shallow, is_element_type}
use Rattle.dbus_values.specs.Values.{Value, a_number, a_string, a_path, a_signature, a_variant, an_array, a_struct, an_entry, Values, no_values, value, type_of, width, alignment, padding, zeros, number_bytes, spelled, spelled_all, spelled_signature, elements_place, is_text, have_type, is_value, are_values}
use Rattle.dbus_values.specs.declared.Order.{Order}
use Rattle.message_text.specs.MessageText.{Said, says_number, says_string, says_path, says_signature, says_variant, says_array, says_struct, says_entry, Saids, no_more, more, type_said, said, all_said}
use Rattle.message_text.specs.Reading.{signature_bytes}
use Rattle.message_text.proofs.ShapeLaws.{type_same}

-- a length of four bytes
abbrev pub len_bytes : Order → ℕ → List ℕ
len_bytes o n = number_bytes o w32 (min n (2 ^ 32 - 1))

abbrev pub text_bytes : Order → ℕ → List ℕ → List ℕ
text_bytes o p text = zeros 4 p ++ (len_bytes o (length text) ++ text) ++ 0 ∷ []

abbrev mutual
  pub bytes_of : Order → ℕ → Said → List ℕ
  bytes_of o p (says_number n x) = zeros (byte_len (width n)) p ++ number_bytes o (width n) x
  bytes_of o p (says_string text) = text_bytes o p text
  bytes_of o p (says_path text) = text_bytes o p text
  bytes_of o p (says_signature text) = signature_bytes text
  bytes_of o p (says_variant v) = let head = signature_bytes (spelled_type (type_said v)) in head ++ bytes_of o (p + length head) v
  bytes_of o p (says_array t vs) =
      let elements = bytes_of_all o (elements_place t p) vs in
      zeros 4 p ++ len_bytes o (length elements) ++ zeros (alignment t) (p + padding 4 p + 4) ++ elements
  bytes_of o p (says_struct v vs) =
      let start = p + padding 8 p in
      let first = bytes_of o start v in
      zeros 8 p ++ first ++ bytes_of_all o (start + length first) vs
  bytes_of o p (says_entry k v) =
      let start = p + padding 8 p in
      let key = bytes_of o start k in
      zeros 8 p ++ key ++ bytes_of o (start + length key) v

  pub bytes_of_all : Order → ℕ → Saids → List ℕ
  bytes_of_all o p no_more = []
  bytes_of_all o p (more v vs) = let first = bytes_of o p v in first ++ bytes_of_all o (p + length first) vs

short_text : (o : Order) (p : ℕ) (text : List ℕ) → is_text text ≡ true → text_bytes o p text ≡ spelled o p (a_string text)
short_text o p text ok =
    let short : length text < 2 ^ 32 = ltb-true (length text) (2 ^ 32) (and_parts (list_all (nat_lt 0) text && is_utf8 text) (nat_lt (length text) (2 ^ 32)) ok).1 in
    ap (λ (n : ℕ). zeros 4 p ++ (number_bytes o w32 n ++ text) ++ 0 ∷ []) (omega arith)

short_signature : (ts : List Complete) → is_signature ts ≡ true → signature_bytes (spelled_types ts) ≡ spelled_signature ts
short_signature ts ok =
    let text = spelled_types ts in
    let short : length text ≤ 255 = leb-true (length text) 255 (and_parts (list_all is_complete ts && list_all is_shallow ts) (nat_le (length text) 255) ok).1 in
    ap (λ (n : ℕ). n ∷ text ++ 0 ∷ []) (omega arith)

pub short_type : (t : Complete) → is_signature (t ∷ []) ≡ true → signature_bytes (spelled_type t) ≡ spelled_signature (t ∷ [])
short_type t ok = ap signature_bytes (sym (append-nil (spelled_type t))) ∙ short_signature (t ∷ []) ok

mutual
  pub bytes_same : (v : Value) (o : Order) (p : ℕ) → is_value o p v ≡ true → bytes_of o p (said v) ≡ spelled o p v
  bytes_same (a_number n x) o p i = refl
  bytes_same (a_string text) o p i = short_text o p text i
  bytes_same (a_path text) o p i = short_text o p text (and_parts _ _ i).0
  bytes_same (a_signature ts) o p i = short_signature ts i
  bytes_same (a_variant v) o p i =
      let a = and_parts (is_signature (type_of v ∷ [])) (is_value o (p + length (spelled_signature (type_of v ∷ []))) v) i in
      let head : signature_bytes (spelled_type (type_said (said v))) ≡ spelled_signature (type_of v ∷ []) = ap (λ (t : Complete). signature_bytes (spelled_type t)) (type_same v) ∙ short_type (type_of v) a.0 in
      ap (λ (h : List ℕ). h ++ bytes_of o (p + length h) (said v)) head
      ∙ ap (λ (b : List ℕ). spelled_signature (type_of v ∷ []) ++ b) (bytes_same v o (p + length (spelled_signature (type_of v ∷ []))) a.1)
  bytes_same (an_array t vs) o p i =
      let q = elements_place t p in
      let e = spelled_all o q vs in
      let a = and_parts (is_element_type t && have_type t vs && are_values o q vs) (nat_le (length e) (2 ^ 26)) i in
      let b = and_parts (is_element_type t && have_type t vs) (are_values o q vs) a.0 in
      let short : length e ≤ 2 ^ 26 = leb-true (length e) (2 ^ 26) a.1 in
      let z = zeros (alignment t) (p + padding 4 p + 4) in
      ap (λ (es : List ℕ). zeros 4 p ++ len_bytes o (length es) ++ z ++ es) (all_same vs o q b.1)
      ∙ ap (λ (n : ℕ). zeros 4 p ++ number_bytes o w32 n ++ z ++ e) (omega arith)
  bytes_same (a_struct v vs) o p i =
      let q = p + padding 8 p in
      let first = spelled o q v in
      let a = and_parts (is_value o q v) (are_values o (q + length first) vs) i in
      ap (λ (f : List ℕ). zeros 8 p ++ f ++ bytes_of_all o (q + length f) (all_said vs)) (bytes_same v o q a.0)
      ∙ ap (λ (b : List ℕ). zeros 8 p ++ first ++ b) (all_same vs o (q + length first) a.1)
  bytes_same (an_entry k v) o p i =
      let q = p + padding 8 p in
      let first = spelled o q k in
      let a = and_parts (is_value o q k) (is_value o (q + length first) v) i in
      ap (λ (f : List ℕ). zeros 8 p ++ f ++ bytes_of o (q + length f) (said v)) (bytes_same k o q a.0)
      ∙ ap (λ (b : List ℕ). zeros 8 p ++ first ++ b) (bytes_same v o (q + length first) a.1)

  pub all_same : (vs : Values) (o : Order) (p : ℕ) → are_values o p vs ≡ true → bytes_of_all o p (all_said vs) ≡ spelled_all o p vs
  all_same no_values o p i = refl
  all_same (value v vs) o p i =
      let first = spelled o p v in
      let a = and_parts (is_value o p v) (are_values o (p + length first) vs) i in
      ap (λ (f : List ℕ). f ++ bytes_of_all o (p + length f) (all_said vs)) (bytes_same v o p a.0)
      ∙ ap (λ (b : List ℕ). first ++ b) (all_same vs o (p + length first) a.1)
