-- Each valid value, spelled at a place, is printed from there as its text.
use Rattle.std.proofs.Common.{◌≡◌, ℕ, zero, suc, ◌+◌, ◌^◌, ◌<◌, ◌≤◌, Bool, true, false, cond, List, [], ◌∷◌, ◌++◌, length, take, drop, refl, sym, ap, ap₂, ◌∙◌, append_assoc, arith}
use Rattle.std.specs.Prelude.{◌&&◌, ◌==◌, nat_lt, nat_le, max}
use Rattle.std.specs.Str.{is_utf8}
use Rattle.std.specs.List.{list_all}
use Rattle.std.specs.Int.{w8, w16, w32, w64, byte_len}
use Rattle.std.proofs.lemmas.List.{length-append, length-replicate, append-nil, take_at, drop_at}
use Rattle.std.proofs.lemmas.Bool.{and_parts, ltb-true, leb-true}
use Rattle.byte_lists.specs.Bytes.{is_empty}
use Rattle.byte_lists.proofs.Bytes.{bytes_eq-true, not_empty}
use Rattle.dbus_types.specs.Signature.{Number, byte, boolean, int16, uint16, int32, uint32, int64, uint64, double, handle, Basic, number, string, path, signature, Complete, basic, variant, array, struct, entry, Completes, code, number_code, spelled_type, spelled_members, spelled_types, is_signature, is_complete, is_element_type, are_complete, is_basic}
use Rattle.dbus_types.specs.Behind.{behind}
use Rattle.dbus_types.proofs.SignatureLaws.{spelled_types_is}
use Rattle.dbus_types.proofs.BehindLaws.{type_in_front}
use Rattle.dbus_values.specs.Values.{Value, a_number, a_string, a_path, a_signature, a_variant, an_array, a_struct, an_entry, Values, no_values, value, type_of, types_of, width, alignment, padding, zeros, number_bytes, counted, spelled, spelled_all, spelled_signature, elements_place, depth, depths, is_text, limit, has_type, have_type, is_value, are_values}
use Rattle.dbus_values.specs.Reading.{At, number_of}
use Rattle.dbus_values.specs.Walk.{alignment_by, front_code}
use Rattle.dbus_values.proofs.ValueLaws.{at, wide, wide_32, text_len, text_len_is}
use Rattle.dbus_values.proofs.ValueAgain.{element_type, basic_complete, spelled_pos, one_complete}
use Rattle.dbus_values.proofs.WalkNumbers.{type_len}
use Rattle.dbus_values.specs.declared.Order.{Order}
use Rattle.dbus_values.specs.declared.Order.TheVariants.{Little, Big}
use Rattle.message_text.specs.MessageText.{Text, said, all_said, value_text, others_text, number_text, quoted}
use Rattle.message_text.specs.Printing.{taken, onward, at_most, over_gap, number_in, width_of, number_word, Printed, print_number, print_counted, print_text, print_signature, print_basic, Typed, Print, print_items, print_elements, print_entry, print_element, print_array, print_members, print_struct, print_typed, print_variant, with_types, print_within}
use Rattle.message_text.proofs.ShapeLaws.{type_same}

abbrev pub printed : Text → At → Printed
printed text a = (text, a)

abbrev pub typed : Text → List ℕ → At → Typed
typed text types a = (text, types, a)

-- ---- bytes

at_front : (n p : ℕ) (xs r : List ℕ) → length xs ≡ n → at_most n (at p (xs ++ r)) ≡ n
at_front n p xs r e = omega (arith, e, length-append xs r)

pub taken_front : (n p : ℕ) (xs r : List ℕ) → length xs ≡ n → taken n (at p (xs ++ r)) ≡ xs
taken_front n p xs r e = ap (λ (m : ℕ). take m (xs ++ r)) (at_front n p xs r e) ∙ take_at xs r n e

pub onward_front : (n p : ℕ) (xs r : List ℕ) → length xs ≡ n → onward n (at p (xs ++ r)) ≡ at (p + n) r
onward_front n p xs r e = ap (λ (m : ℕ). at (p + m) (drop m (xs ++ r))) (at_front n p xs r e) ∙ ap (λ (t : List ℕ). at (p + n) t) (drop_at xs r n e)

pub gap_front : (n p : ℕ) (r : List ℕ) → over_gap n (at p (zeros n p ++ r)) ≡ at (p + padding n p) r
gap_front n p r = onward_front (padding n p) p (zeros n p) r (length-replicate (padding n p) 0)

-- ---- numbers

in_8 : (o : Order) (x : ℕ) → number_of o w8 (number_bytes o w8 x) ≡ number_in o (number_bytes o w8 x)
in_8 Little x = refl
in_8 Big x = refl

in_16 : (o : Order) (x : ℕ) → number_of o w16 (number_bytes o w16 x) ≡ number_in o (number_bytes o w16 x)
in_16 Little x = refl
in_16 Big x = refl

in_32 : (o : Order) (x : ℕ) → number_of o w32 (number_bytes o w32 x) ≡ number_in o (number_bytes o w32 x)
in_32 Little x = refl
in_32 Big x = refl

in_64 : (o : Order) (x : ℕ) → number_of o w64 (number_bytes o w64 x) ≡ number_in o (number_bytes o w64 x)
in_64 Little x = refl
in_64 Big x = refl

by_width : (n : Number) (o : Order) (x : ℕ) → number_of o (width n) (number_bytes o (width n) x) ≡ number_in o (number_bytes o (width n) x)
by_width byte o x = in_8 o x
by_width boolean o x = in_32 o x
by_width int16 o x = in_16 o x
by_width uint16 o x = in_16 o x
by_width int32 o x = in_32 o x
by_width uint32 o x = in_32 o x
by_width int64 o x = in_64 o x
by_width uint64 o x = in_64 o x
by_width double o x = in_64 o x
by_width handle o x = in_32 o x

limit_le : (n : Number) → limit n ≤ 256 ^ byte_len (width n)
limit_le byte = omega arith
limit_le boolean = omega arith
limit_le int16 = omega arith
limit_le uint16 = omega arith
limit_le int32 = omega arith
limit_le uint32 = omega arith
limit_le int64 = omega arith
limit_le uint64 = omega arith
limit_le double = omega arith
limit_le handle = omega arith

pub width_is : (n : Number) → width_of (number_code n) ≡ byte_len (width n)
width_is byte = refl
width_is boolean = refl
width_is int16 = refl
width_is uint16 = refl
width_is int32 = refl
width_is uint32 = refl
width_is int64 = refl
width_is uint64 = refl
width_is double = refl
width_is handle = refl

word_is : (n : Number) (o : Order) (x : ℕ) → number_word o (number_code n) x ≡ number_text o n x
word_is byte o x = refl
word_is boolean o x = refl
word_is int16 o x = refl
word_is uint16 o x = refl
word_is int32 o x = refl
word_is uint32 o x = refl
word_is int64 o x = refl
word_is uint64 o x = refl
word_is double o x = refl
word_is handle o x = refl

pub number_front : (n : Number) (o : Order) (x p : ℕ) (r : List ℕ) → x < 256 ^ byte_len (width n) → number_in o (taken (byte_len (width n)) (at p (number_bytes o (width n) x ++ r))) ≡ x
number_front n o x p r low =
    ap (number_in o) (taken_front (byte_len (width n)) p (number_bytes o (width n) x) r ((wide n).len o x))
    ∙ sym (by_width n o x) ∙ (wide n).again o x low

pub u32_front : (o : Order) (x p : ℕ) (r : List ℕ) → x < 2 ^ 32 → number_in o (taken 4 (at p (number_bytes o w32 x ++ r))) ≡ x
u32_front o x p r low = number_front uint32 o x p r (omega arith)

number_shown : (n : Number) (x : ℕ) (o : Order) (p : ℕ) (out rest : List ℕ) → nat_lt x (limit n) ≡ true → print_number o (number_code n) out (at p (spelled o p (a_number n x) ++ rest)) ≡ printed (out ++ number_text o n x) (at (p + length (spelled o p (a_number n x))) rest)
number_shown n x o p out rest i =
    let w = byte_len (width n) in
    let bytes = number_bytes o (width n) x in
    let low : x < 256 ^ w = omega (arith, ltb-true x (limit n) i, limit_le n) in
    let len : length (zeros w p ++ bytes) ≡ padding w p + w = omega (arith, length-append (zeros w p) bytes, length-replicate {A = ℕ} (padding w p) 0, (wide n).len o x) in
    ap (λ (m : ℕ). let start = over_gap m (at p ((zeros w p ++ bytes) ++ rest)) in printed (out ++ number_word o (number_code n) (number_in o (taken m start))) (onward m start)) (width_is n)
    ∙ ap (λ (b : List ℕ). let start = over_gap w (at p b) in printed (out ++ number_word o (number_code n) (number_in o (taken w start))) (onward w start)) (append_assoc (zeros w p) bytes rest)
    ∙ ap (λ (start : At). printed (out ++ number_word o (number_code n) (number_in o (taken w start))) (onward w start)) (gap_front w p (bytes ++ rest))
    ∙ ap₂ printed
    (ap (λ (y : ℕ). out ++ number_word o (number_code n) y) (number_front n o x (p + padding w p) rest low) ∙ ap (λ (t : Text). out ++ t) (word_is n o x))
    (onward_front w (p + padding w p) bytes rest ((wide n).len o x) ∙ ap (λ (q : ℕ). at q rest) (omega (arith, len)))

-- ---- texts

counted_shown : (n p : ℕ) (text out rest : List ℕ) → length text ≡ n → print_counted n out (at p (text ++ 0 ∷ rest)) ≡ printed (out ++ quoted text) (at (p + n + 1) rest)
counted_shown n p text out rest e =
    ap₂ printed (ap (λ (t : Text). out ++ quoted t) (taken_front n p text (0 ∷ rest) e))
    (ap (λ (a : At). onward 1 a) (onward_front n p text (0 ∷ rest) e) ∙ onward_front 1 (p + n) (0 ∷ []) rest refl)

text_shown : (text : List ℕ) (o : Order) (p : ℕ) (out rest : List ℕ) → is_text text ≡ true → print_text o out (at p ((zeros 4 p ++ counted o text ++ 0 ∷ []) ++ rest)) ≡ printed (out ++ quoted text) (at (p + text_len o p text) rest)
text_shown text o p out rest ok =
    let n = number_bytes o w32 (length text) in
    let short : length text < 2 ^ 32 = ltb-true (length text) (2 ^ 32) (and_parts (list_all (nat_lt 0) text && is_utf8 text) (nat_lt (length text) (2 ^ 32)) ok).1 in
    let q = p + padding 4 p in
    ap (λ (b : List ℕ). print_text o out (at p b)) (append_assoc (zeros 4 p ++ counted o text) (0 ∷ []) rest ∙ append_assoc (zeros 4 p) (counted o text) (0 ∷ rest) ∙ ap (λ (t : List ℕ). zeros 4 p ++ t) (append_assoc n text (0 ∷ rest)))
    ∙ ap (λ (start : At). print_counted (number_in o (taken 4 start)) out (onward 4 start)) (gap_front 4 p (n ++ (text ++ 0 ∷ rest)))
    ∙ ap₂ (λ (m : ℕ) (a : At). print_counted m out a) (u32_front o (length text) q (text ++ 0 ∷ rest) short) (onward_front 4 q n (text ++ 0 ∷ rest) (wide_32.len o (length text)))
    ∙ counted_shown (length text) (q + 4) text out rest refl
    ∙ ap (λ (m : ℕ). printed (out ++ quoted text) (at m rest)) (omega (arith, text_len_is o p text))

signature_shown : (ts : List Complete) (p : ℕ) (out rest : List ℕ) → print_signature out (at p (spelled_signature ts ++ rest)) ≡ printed (out ++ quoted (spelled_types ts)) (at (p + length (spelled_signature ts)) rest)
signature_shown ts p out rest =
    let text = spelled_types ts in
    let len : length (spelled_signature ts) ≡ suc (length text) + 1 = length-append (length text ∷ text) (0 ∷ []) in
    ap (λ (b : List ℕ). print_signature out (at p b)) (append_assoc (length text ∷ text) (0 ∷ []) rest)
    ∙ ap (λ (a : At). print_counted (length text) out a) (onward_front 1 p (length text ∷ []) (text ++ 0 ∷ rest) refl)
    ∙ counted_shown (length text) (p + 1) text out rest refl
    ∙ ap (λ (m : ℕ). printed (out ++ quoted text) (at m rest)) (omega (arith, len))

-- ---- which case a type takes

basic_coded : (b : Basic) (o : Order) (k : ℕ) (out r : List ℕ) (a : At) → print_element (print_within (suc k) o) out (code b ∷ r) a ≡ with_types r (print_basic o (code b) out a)
unfolding print_within
basic_coded (number byte) o k out r a = refl
basic_coded (number boolean) o k out r a = refl
basic_coded (number int16) o k out r a = refl
basic_coded (number uint16) o k out r a = refl
basic_coded (number int32) o k out r a = refl
basic_coded (number uint32) o k out r a = refl
basic_coded (number int64) o k out r a = refl
basic_coded (number uint64) o k out r a = refl
basic_coded (number double) o k out r a = refl
basic_coded (number handle) o k out r a = refl
basic_coded string o k out r a = refl
basic_coded path o k out r a = refl
basic_coded signature o k out r a = refl

number_coded : (n : Number) (o : Order) (out : List ℕ) (a : At) → print_basic o (number_code n) out a ≡ print_number o (number_code n) out a
number_coded byte o out a = refl
number_coded boolean o out a = refl
number_coded int16 o out a = refl
number_coded uint16 o out a = refl
number_coded int32 o out a = refl
number_coded uint32 o out a = refl
number_coded int64 o out a = refl
number_coded uint64 o out a = refl
number_coded double o out a = refl
number_coded handle o out a = refl

basic_plain : (b : Basic) (inner : Print) (out r : List ℕ) (a : At) → inner out (code b ∷ r) a ≡ print_element inner out (code b ∷ r) a
basic_plain (number byte) inner out r a = refl
basic_plain (number boolean) inner out r a = refl
basic_plain (number int16) inner out r a = refl
basic_plain (number uint16) inner out r a = refl
basic_plain (number int32) inner out r a = refl
basic_plain (number uint32) inner out r a = refl
basic_plain (number int64) inner out r a = refl
basic_plain (number uint64) inner out r a = refl
basic_plain (number double) inner out r a = refl
basic_plain (number handle) inner out r a = refl
basic_plain string inner out r a = refl
basic_plain path inner out r a = refl
basic_plain signature inner out r a = refl

-- a type that is no dict entry is printed as an element as it is elsewhere
pub plain : (t : Complete) (inner : Print) (out r : List ℕ) (a : At) → is_complete t ≡ true → inner out (spelled_type t ++ r) a ≡ print_element inner out (spelled_type t ++ r) a
plain (basic b) inner out r a c = basic_plain b inner out r a
plain variant inner out r a c = refl
plain (array t) inner out r a c = refl
plain (struct t ts) inner out r a c = refl
plain (entry k t) inner out r a c = absurd cc

variant_coded : (o : Order) (k : ℕ) (out r : List ℕ) (a : At) → print_element (print_within (suc k) o) out (118 ∷ r) a ≡ with_types r (print_variant (print_within k o) out a)
unfolding print_within
variant_coded o k out r a = refl

array_coded : (o : Order) (k : ℕ) (out r : List ℕ) (a : At) → print_element (print_within (suc k) o) out (97 ∷ r) a ≡ print_array o (print_within k o) out r a
unfolding print_within
array_coded o k out r a = refl

struct_coded : (o : Order) (k : ℕ) (out r : List ℕ) (a : At) → print_element (print_within (suc k) o) out (40 ∷ r) a ≡ print_struct (print_within k o) out r a
unfolding print_within
struct_coded o k out r a = refl

pub struct_regrouped : (t : Complete) (ts : Completes) (rest : List ℕ) → spelled_type (struct t ts) ++ rest ≡ 40 ∷ (spelled_type t ++ (spelled_members ts ++ 41 ∷ rest))
struct_regrouped t ts rest = append_assoc ((40 ∷ spelled_type t) ++ spelled_members ts) (41 ∷ []) rest ∙ append_assoc (40 ∷ spelled_type t) (spelled_members ts) (41 ∷ rest)

pub entry_regrouped : (k t : Complete) (rest : List ℕ) → spelled_type (entry k t) ++ rest ≡ 123 ∷ (spelled_type k ++ (spelled_type t ++ 125 ∷ rest))
entry_regrouped k t rest = append_assoc ((123 ∷ spelled_type k) ++ spelled_type t) (125 ∷ []) rest ∙ append_assoc (123 ∷ spelled_type k) (spelled_type t) (125 ∷ rest)

-- the code in front tells the type's alignment, and isn't the bracket after a struct's members
pub type_front : (t : Complete) (rest : List ℕ) → let c = front_code (spelled_type t ++ rest) in (alignment_by c ≡ alignment t) × ((c == 41) ≡ false)
type_front (basic (number byte)) rest = (refl, refl)
type_front (basic (number boolean)) rest = (refl, refl)
type_front (basic (number int16)) rest = (refl, refl)
type_front (basic (number uint16)) rest = (refl, refl)
type_front (basic (number int32)) rest = (refl, refl)
type_front (basic (number uint32)) rest = (refl, refl)
type_front (basic (number int64)) rest = (refl, refl)
type_front (basic (number uint64)) rest = (refl, refl)
type_front (basic (number double)) rest = (refl, refl)
type_front (basic (number handle)) rest = (refl, refl)
type_front (basic string) rest = (refl, refl)
type_front (basic path) rest = (refl, refl)
type_front (basic signature) rest = (refl, refl)
type_front variant rest = (refl, refl)
type_front (array t) rest = (refl, refl)
type_front (struct t ts) rest = (refl, refl)
type_front (entry k t) rest = (refl, refl)

-- ---- containers

pub typed_shown : (inner : Print) (v : Value) (o : Order) (p : ℕ) (out rest : List ℕ) →
    (let q = p + length (spelled_signature (type_of v ∷ [])) in let s = spelled_type (type_of v) in inner (out ++ s ++ 32 ∷ []) (s ++ []) (at q (spelled o q v ++ rest)) ≡ typed (out ++ s ++ 32 ∷ [] ++ value_text o (said v)) [] (at (q + length (spelled o q v)) rest)) →
    print_typed inner out (at p (spelled o p (a_variant v) ++ rest)) ≡ printed (out ++ spelled_type (type_of v) ++ 32 ∷ [] ++ value_text o (said v)) (at (p + length (spelled o p (a_variant v))) rest)
typed_shown inner v o p out rest ih =
    let s = spelled_type (type_of v) in
    let head = spelled_signature (type_of v ∷ []) in
    let q = p + length head in
    let n = length (s ++ []) in
    let len : length head ≡ suc n + 1 = length-append (n ∷ (s ++ [])) (0 ∷ []) in
    let after = spelled o q v ++ rest in
    let one : onward 1 (at p (n ∷ ((s ++ []) ++ 0 ∷ after))) ≡ at (p + 1) ((s ++ []) ++ 0 ∷ after) = onward_front 1 p (n ∷ []) ((s ++ []) ++ 0 ∷ after) refl in
    ap (λ (b : List ℕ). print_typed inner out (at p b)) (append_assoc head (spelled o q v) rest ∙ append_assoc (n ∷ (s ++ [])) (0 ∷ []) after)
    ∙ ap (λ (a : At). let types = taken n a in let x = inner (out ++ types ++ 32 ∷ []) types (onward 1 (onward n a)) in printed x.0 x.2) one
    ∙ ap₂ (λ (types : List ℕ) (a : At). let x = inner (out ++ types ++ 32 ∷ []) types (onward 1 a) in printed x.0 x.2) (taken_front n (p + 1) (s ++ []) (0 ∷ after) refl) (onward_front n (p + 1) (s ++ []) (0 ∷ after) refl)
    ∙ ap (λ (a : At). let x = inner (out ++ (s ++ []) ++ 32 ∷ []) (s ++ []) a in printed x.0 x.2) (onward_front 1 (p + 1 + n) (0 ∷ []) after refl ∙ ap (λ (m : ℕ). at m after) (omega (arith, len)))
    ∙ ap (λ (t : List ℕ). let x = inner (out ++ t ++ 32 ∷ []) (s ++ []) (at q after) in printed x.0 x.2) (append-nil s)
    ∙ ap (λ (x : Typed). printed x.0 x.2) ih
    ∙ ap (λ (m : ℕ). printed (out ++ s ++ 32 ∷ [] ++ value_text o (said v)) (at m rest)) (omega (arith, length-append head (spelled o q v)))

-- where an array's elements begin and end
array_len : (o : Order) (p : ℕ) (t : Complete) (e : List ℕ) → length (zeros 4 p ++ number_bytes o w32 (length e) ++ zeros (alignment t) (p + padding 4 p + 4) ++ e) ≡ padding 4 p + 4 + padding (alignment t) (p + padding 4 p + 4) + length e
array_len o p t e =
    let n = number_bytes o w32 (length e) in
    let z = zeros (alignment t) (p + padding 4 p + 4) in
    omega (arith, length-append (zeros 4 p ++ n ++ z) e, length-append (zeros 4 p ++ n) z, length-append (zeros 4 p) n, length-replicate {A = ℕ} (padding 4 p) 0, wide_32.len o (length e), length-replicate {A = ℕ} (padding (alignment t) (p + padding 4 p + 4)) 0)

array_shown : (inner : Print) (t : Complete) (vs : Values) (o : Order) (p : ℕ) (out r rest text : List ℕ) → length (spelled_all o (elements_place t p) vs) ≤ 2 ^ 26
    → print_elements (λ word place. print_element inner word (spelled_type t ++ r) place) (out ++ 91 ∷ []) (at (elements_place t p) (spelled_all o (elements_place t p) vs)) ≡ text
    → print_array o inner out (spelled_type t ++ r) (at p (spelled o p (an_array t vs) ++ rest)) ≡ typed (text ++ 93 ∷ []) r (at (p + length (spelled o p (an_array t vs))) rest)
array_shown inner t vs o p out r rest text short ih =
    let e = spelled_all o (elements_place t p) vs in
    let q = p + padding 4 p + 4 in
    let n = number_bytes o w32 (length e) in
    let z = zeros (alignment t) q in
    let types = spelled_type t ++ r in
    let body : ℕ → At → Typed = λ m first. (print_elements (λ word place. print_element inner word types place) (out ++ 91 ∷ []) (record { place = first.place; bytes = taken m first }) ++ 93 ∷ [], behind 0 types, onward m first) in
    ap (λ (b : List ℕ). print_array o inner out types (at p b)) (append_assoc (zeros 4 p ++ n ++ z) e rest ∙ append_assoc (zeros 4 p ++ n) z (e ++ rest) ∙ append_assoc (zeros 4 p) n (z ++ (e ++ rest)))
    ∙ ap (λ (start : At). body (number_in o (taken 4 start)) (over_gap (alignment_by (front_code types)) (onward 4 start))) (gap_front 4 p (n ++ (z ++ (e ++ rest))))
    ∙ ap₂ (λ (m : ℕ) (a : At). body m (over_gap (alignment_by (front_code types)) a)) (u32_front o (length e) (p + padding 4 p) (z ++ (e ++ rest)) (omega (arith, short))) (onward_front 4 (p + padding 4 p) n (z ++ (e ++ rest)) (wide_32.len o (length e)))
    ∙ ap (λ (m : ℕ). body (length e) (over_gap m (at q (z ++ (e ++ rest))))) (type_front t r).0
    ∙ ap (λ (a : At). body (length e) a) (gap_front (alignment t) q (e ++ rest))
    ∙ ap (λ (b : List ℕ). typed (print_elements (λ word place. print_element inner word types place) (out ++ 91 ∷ []) (at (elements_place t p) b) ++ 93 ∷ []) (behind 0 types) (onward (length e) (at (elements_place t p) (e ++ rest)))) (taken_front (length e) (elements_place t p) e rest refl)
    ∙ ap₂ (λ (word : Text) (a : At). typed (word ++ 93 ∷ []) (behind 0 types) a) ih (onward_front (length e) (elements_place t p) e rest refl ∙ ap (λ (m : ℕ). at m rest) (omega (arith, array_len o p t e)))
    ∙ ap (λ (ts : List ℕ). typed (text ++ 93 ∷ []) ts (at (p + length (spelled o p (an_array t vs))) rest)) (type_in_front types t r refl)

-- ---- texts in parts

struct_text : (out a b : List ℕ) → out ++ 40 ∷ [] ++ a ++ b ++ 41 ∷ [] ≡ out ++ (40 ∷ a ++ b ++ 41 ∷ [])
struct_text out a b = simp append_assoc

array_text : (out a b : List ℕ) → out ++ 91 ∷ [] ++ a ++ b ++ 93 ∷ [] ≡ out ++ (91 ∷ a ++ b ++ 93 ∷ [])
array_text out a b = simp append_assoc

entry_text : (out a b : List ℕ) → out ++ 123 ∷ [] ++ a ++ 32 ∷ [] ++ b ++ 125 ∷ [] ≡ out ++ (123 ∷ a ++ 32 ∷ b ++ 125 ∷ [])
entry_text out a b = simp append_assoc

variant_text : (out s a : List ℕ) → out ++ 60 ∷ [] ++ s ++ 32 ∷ [] ++ a ++ 62 ∷ [] ≡ out ++ (60 ∷ s ++ 32 ∷ a ++ 62 ∷ [])
variant_text out s a = simp append_assoc

next_text : (out a b : List ℕ) → out ++ 32 ∷ [] ++ a ++ b ≡ out ++ (32 ∷ a ++ b)
next_text out a b = simp append_assoc

max_left : (a b : ℕ) → a ≤ max a b
max_left a b = omega arith

max_right : (a b : ℕ) → b ≤ max a b
max_right a b = omega arith

heads : (a b : Complete) → a ∷ [] ≡ b ∷ [] → a ≡ b
heads a b e = cc

pub has_type-true : (t : Complete) (v : Value) → has_type t v ≡ true → t ≡ type_of v
has_type-true t v e = heads t (type_of v) (spelled_types_is (t ∷ []) (type_of v ∷ []) (append-nil (spelled_type t) ∙ bytes_eq-true (spelled_type t) (spelled_type (type_of v)) e ∙ sym (append-nil (spelled_type (type_of v)))))

two_len : (a b c : List ℕ) → length (a ++ b ++ c) ≡ length a + length b + length c
two_len a b c = omega (arith, length-append (a ++ b) c, length-append a b)

-- ---- elements

-- an element of a type is a value that has it
item_shown : (v : Value) (t : Complete) (k : ℕ) (o : Order) (p : ℕ) (out r more : List ℕ) → has_type t v ≡ true
    → (is_element_type (type_of v) ≡ true → print_element (print_within (suc k) o) out (spelled_type (type_of v) ++ r) (at p (spelled o p v ++ more)) ≡ typed (out ++ value_text o (said v)) r (at (p + length (spelled o p v)) more))
    → is_element_type t ≡ true → print_element (print_within (suc k) o) out (spelled_type t ++ r) (at p (spelled o p v ++ more)) ≡ typed (out ++ value_text o (said v)) r (at (p + length (spelled o p v)) more)
item_shown v t k o p out r more h ih c =
    let same : t ≡ type_of v = has_type-true t v h in
    ap (λ (u : Complete). print_element (print_within (suc k) o) out (spelled_type u ++ r) (at p (spelled o p v ++ more))) same ∙ ih (ap is_element_type (sym same) ∙ c)

-- the first element, and then the others
elements_shown : (item : Text → At → Typed) (v : Value) (vs : Values) (o : Order) (p : ℕ) (out r text : List ℕ)
    → (let first = spelled o p v in let more = spelled_all o (p + length first) vs in
    (item out (at p (first ++ more)) ≡ typed (out ++ value_text o (said v)) r (at (p + length first) more))
    × (print_items item (length (first ++ more)) (out ++ value_text o (said v)) (at (p + length first) more) ≡ text))
    → print_elements item out (at p (spelled_all o p (value v vs))) ≡ text
elements_shown item v vs o p out r text ih =
    let first = spelled o p v in
    let more = spelled_all o (p + length first) vs in
    let there : is_empty (first ++ more) ≡ false = not_empty (first ++ more) (omega (arith, length-append first more, spelled_pos v o p)) in
    ap (λ (q : Bool). cond q out (let x = item out (at p (first ++ more)) in print_items item (length (first ++ more)) x.0 x.2)) there
    ∙ ap (λ (x : Typed). print_items item (length (first ++ more)) x.0 x.2) ih.0 ∙ ih.1

-- ---- all values

mutual
  pub shown : (v : Value) (k : ℕ) (o : Order) (p : ℕ) (out r rest : List ℕ) → depth v < suc k → is_value o p v ≡ true → is_element_type (type_of v) ≡ true → print_element (print_within (suc k) o) out (spelled_type (type_of v) ++ r) (at p (spelled o p v ++ rest)) ≡ typed (out ++ value_text o (said v)) r (at (p + length (spelled o p v)) rest)
  shown (a_number n x) k o p out r rest d i c =
      basic_coded (number n) o k out r (at p (spelled o p (a_number n x) ++ rest))
      ∙ ap (λ (y : Printed). with_types r y) (number_coded n o out (at p (spelled o p (a_number n x) ++ rest)) ∙ number_shown n x o p out rest i)
  shown (a_string text) k o p out r rest d i c =
      basic_coded string o k out r (at p (spelled o p (a_string text) ++ rest)) ∙ ap (λ (y : Printed). with_types r y) (text_shown text o p out rest i)
  shown (a_path text) k o p out r rest d i c =
      basic_coded path o k out r (at p (spelled o p (a_path text) ++ rest)) ∙ ap (λ (y : Printed). with_types r y) (text_shown text o p out rest (and_parts _ _ i).0)
  shown (a_signature ts) k o p out r rest d i c =
      basic_coded signature o k out r (at p (spelled o p (a_signature ts) ++ rest)) ∙ ap (λ (y : Printed). with_types r y) (signature_shown ts p out rest)
  shown (a_variant v) zero o p out r rest d i c = absurd (omega (arith, d))
  shown (a_variant v) (suc k) o p out r rest d i c =
      let t = and_parts (is_signature (type_of v ∷ [])) (is_value o (p + length (spelled_signature (type_of v ∷ []))) v) i in
      let complete : is_complete (type_of v) ≡ true = one_complete (type_of v) t.0 in
      let q = p + length (spelled_signature (type_of v ∷ [])) in
      let s = spelled_type (type_of v) in
      let front = out ++ 60 ∷ [] in
      variant_coded o (suc k) out r (at p (spelled o p (a_variant v) ++ rest))
      ∙ ap (λ (y : Printed). typed (y.0 ++ 62 ∷ []) r y.1) (typed_shown (print_within (suc k) o) v o p front rest
      (plain (type_of v) (print_within (suc k) o) (front ++ s ++ 32 ∷ []) [] (at q (spelled o q v ++ rest)) complete ∙ shown v k o q (front ++ s ++ 32 ∷ []) [] rest (omega (arith, d)) t.1 (element_type (type_of v) complete)))
      ∙ ap (λ (y : Text). typed y r (at (p + length (spelled o p (a_variant v))) rest)) (variant_text out s (value_text o (said v)) ∙ ap (λ (u : Complete). out ++ (60 ∷ spelled_type u ++ 32 ∷ value_text o (said v) ++ 62 ∷ [])) (sym (type_same v)))
  shown (an_array t no_values) k o p out r rest d i c =
      array_coded o k out (spelled_type t ++ r) (at p (spelled o p (an_array t no_values) ++ rest))
      ∙ array_shown (print_within k o) t no_values o p out r rest (out ++ 91 ∷ []) (omega arith) refl
      ∙ ap (λ (y : Text). typed y r (at (p + length (spelled o p (an_array t no_values))) rest)) (append_assoc out (91 ∷ []) (93 ∷ []))
  shown (an_array t (value v vs)) zero o p out r rest d i c = absurd (omega (arith, d))
  shown (an_array t (value v vs)) (suc k) o p out r rest d i c =
      let q = elements_place t p in
      let e = spelled_all o q (value v vs) in
      let a = and_parts (is_element_type t && have_type t (value v vs) && are_values o q (value v vs)) (nat_le (length e) (2 ^ 26)) i in
      let b = and_parts (is_element_type t && have_type t (value v vs)) (are_values o q (value v vs)) a.0 in
      let u = and_parts (is_element_type t) (have_type t (value v vs)) b.0 in
      let first = spelled o q v in
      let more = spelled_all o (q + length first) vs in
      let w = and_parts (is_value o q v) (are_values o (q + length first) vs) b.1 in
      let h = and_parts (has_type t v) (have_type t vs) u.1 in
      array_coded o (suc k) out (spelled_type t ++ r) (at p (spelled o p (an_array t (value v vs)) ++ rest))
      ∙ array_shown (print_within (suc k) o) t (value v vs) o p out r rest (out ++ 91 ∷ [] ++ value_text o (said v) ++ others_text o (all_said vs)) (leb-true (length e) (2 ^ 26) a.1) (elements_shown (λ word place. print_element (print_within (suc k) o) word (spelled_type t ++ r) place) v vs o q (out ++ 91 ∷ []) r (out ++ 91 ∷ [] ++ value_text o (said v) ++ others_text o (all_said vs)) (
        item_shown v t k o q (out ++ 91 ∷ []) r more h.0 (shown v k o q (out ++ 91 ∷ []) r more (omega (arith, d, max_left (depth v) (depths vs))) w.0) u.0,
        items_shown vs t k (length (first ++ more)) o (q + length first) (out ++ 91 ∷ [] ++ value_text o (said v)) r (omega (arith, d, max_right (depth v) (depths vs))) w.1 h.1 u.0 (omega (arith, length-append first more)),
      ))
      ∙ ap (λ (y : Text). typed y r (at (p + length (spelled o p (an_array t (value v vs)))) rest)) (array_text out (value_text o (said v)) (others_text o (all_said vs)))
  shown (a_struct v vs) zero o p out r rest d i c = absurd (omega (arith, d))
  shown (a_struct v vs) (suc k) o p out r rest d i c =
      let q = p + padding 8 p in
      let first = spelled o q v in
      let next = q + length first in
      let more = spelled_all o next vs in
      let s = spelled_type (type_of v) in
      let members = spelled_members (types_of vs) ++ 41 ∷ r in
      let inner = print_within (suc k) o in
      let t = and_parts (is_value o q v) (are_values o next vs) i in
      let u = and_parts (is_complete (type_of v)) (are_complete (types_of vs)) c in
      let after : Typed → Typed = λ x. (let y = print_members inner (length x.1) x.0 x.1 x.2 in typed (y.0 ++ 41 ∷ []) (drop 1 y.1) y.2) in
      ap (λ (ts : List ℕ). print_element (print_within (suc (suc k)) o) out ts (at p (spelled o p (a_struct v vs) ++ rest))) (struct_regrouped (type_of v) (types_of vs) r)
      ∙ struct_coded o (suc k) out (s ++ members) (at p (spelled o p (a_struct v vs) ++ rest))
      ∙ ap (λ (b : List ℕ). print_struct inner out (s ++ members) (at p b)) (append_assoc (zeros 8 p ++ first) more rest ∙ append_assoc (zeros 8 p) first (more ++ rest))
      ∙ ap (λ (a : At). after (inner (out ++ 40 ∷ []) (s ++ members) a)) (gap_front 8 p (first ++ (more ++ rest)))
      ∙ ap after (plain (type_of v) inner (out ++ 40 ∷ []) members (at q (first ++ (more ++ rest))) u.0 ∙ shown v k o q (out ++ 40 ∷ []) members (more ++ rest) (omega (arith, d, max_left (depth v) (depths vs))) t.0 (element_type (type_of v) u.0))
      ∙ ap (λ (y : Typed). typed (y.0 ++ 41 ∷ []) (drop 1 y.1) y.2) (members_shown vs k (length members) o next (out ++ 40 ∷ [] ++ value_text o (said v)) r rest (omega (arith, d, max_right (depth v) (depths vs))) t.1 u.1 (omega (arith, length-append (spelled_members (types_of vs)) (41 ∷ r))))
      ∙ ap₂ (λ (y : Text) (m : ℕ). typed y r (at m rest)) (struct_text out (value_text o (said v)) (others_text o (all_said vs))) (omega (arith, two_len (zeros 8 p) first more, length-replicate {A = ℕ} (padding 8 p) 0))
  shown (an_entry x y) k o p out r rest d i c =
      let q = p + padding 8 p in
      let first = spelled o q x in
      let next = q + length first in
      let second = spelled o next y in
      let s = spelled_type (type_of x) in
      let z = spelled_type (type_of y) ++ 125 ∷ r in
      let inner = print_within (suc k) o in
      let t = and_parts (is_value o q x) (is_value o next y) i in
      let u = and_parts (is_basic (type_of x)) (is_complete (type_of y)) c in
      let key = basic_complete (type_of x) u.0 in
      let after : Typed → Typed = λ w. (let w' = inner (w.0 ++ 32 ∷ []) w.1 w.2 in typed (w'.0 ++ 125 ∷ []) (drop 1 w'.1) w'.2) in
      ap (λ (ts : List ℕ). print_element inner out ts (at p (spelled o p (an_entry x y) ++ rest))) (entry_regrouped (type_of x) (type_of y) r)
      ∙ ap (λ (b : List ℕ). print_entry inner out (s ++ z) (at p b)) (append_assoc (zeros 8 p ++ first) second rest ∙ append_assoc (zeros 8 p) first (second ++ rest))
      ∙ ap (λ (a : At). after (inner (out ++ 123 ∷ []) (s ++ z) a)) (gap_front 8 p (first ++ (second ++ rest)))
      ∙ ap after (plain (type_of x) inner (out ++ 123 ∷ []) z (at q (first ++ (second ++ rest))) key ∙ shown x k o q (out ++ 123 ∷ []) z (second ++ rest) (omega (arith, d, max_left (depth x) (depth y))) t.0 (element_type (type_of x) key))
      ∙ ap (λ (w : Typed). typed (w.0 ++ 125 ∷ []) (drop 1 w.1) w.2) (plain (type_of y) inner (out ++ 123 ∷ [] ++ value_text o (said x) ++ 32 ∷ []) (125 ∷ r) (at next (second ++ rest)) u.1 ∙ shown y k o next (out ++ 123 ∷ [] ++ value_text o (said x) ++ 32 ∷ []) (125 ∷ r) rest (omega (arith, d, max_right (depth x) (depth y))) t.1 (element_type (type_of y) u.1))
      ∙ ap₂ (λ (w : Text) (m : ℕ). typed w r (at m rest)) (entry_text out (value_text o (said x)) (value_text o (said y))) (omega (arith, two_len (zeros 8 p) first second, length-replicate {A = ℕ} (padding 8 p) 0))

  members_shown : (vs : Values) (k fuel : ℕ) (o : Order) (p : ℕ) (out r rest : List ℕ) → depths vs < suc k → are_values o p vs ≡ true → are_complete (types_of vs) ≡ true → length (spelled_members (types_of vs)) < fuel → print_members (print_within (suc k) o) fuel out (spelled_members (types_of vs) ++ 41 ∷ r) (at p (spelled_all o p vs ++ rest)) ≡ typed (out ++ others_text o (all_said vs)) (41 ∷ r) (at (p + length (spelled_all o p vs)) rest)
  members_shown vs k zero o p out r rest d i c f = absurd (omega (arith, f))
  members_shown no_values k (suc fuel) o p out r rest d i c f = ap₂ (λ (y : Text) (m : ℕ). typed y (41 ∷ r) (at m rest)) (sym (append-nil out)) (omega arith)
  members_shown (value v vs) k (suc fuel) o p out r rest d i c f =
      let first = spelled o p v in
      let next = p + length first in
      let more = spelled_all o next vs in
      let s = spelled_type (type_of v) in
      let members = spelled_members (types_of vs) ++ 41 ∷ r in
      let inner = print_within (suc k) o in
      let t = and_parts (is_value o p v) (are_values o next vs) i in
      let u = and_parts (is_complete (type_of v)) (are_complete (types_of vs)) c in
      let after : Typed → Typed = λ x. print_members inner fuel x.0 x.1 x.2 in
      ap₂ (λ (ts b : List ℕ). print_members inner (suc fuel) out ts (at p b)) (append_assoc s (spelled_members (types_of vs)) (41 ∷ r)) (append_assoc first more rest)
      ∙ ap (λ (q : Bool). cond q (typed out (s ++ members) (at p (first ++ (more ++ rest)))) (after (inner (out ++ 32 ∷ []) (s ++ members) (at p (first ++ (more ++ rest)))))) (type_front (type_of v) members).1
      ∙ ap after (plain (type_of v) inner (out ++ 32 ∷ []) members (at p (first ++ (more ++ rest))) u.0 ∙ shown v k o p (out ++ 32 ∷ []) members (more ++ rest) (omega (arith, d, max_left (depth v) (depths vs))) t.0 (element_type (type_of v) u.0))
      ∙ members_shown vs k fuel o next (out ++ 32 ∷ [] ++ value_text o (said v)) r rest (omega (arith, d, max_right (depth v) (depths vs))) t.1 u.1 (omega (arith, f, length-append s (spelled_members (types_of vs)), type_len (type_of v)))
      ∙ ap₂ (λ (y : Text) (m : ℕ). typed y (41 ∷ r) (at m rest)) (next_text out (value_text o (said v)) (others_text o (all_said vs))) (omega (arith, length-append first more))

  items_shown : (vs : Values) (t : Complete) (k fuel : ℕ) (o : Order) (p : ℕ) (out r : List ℕ) → depths vs < suc k → are_values o p vs ≡ true → have_type t vs ≡ true → is_element_type t ≡ true → length (spelled_all o p vs) ≤ fuel → print_items (λ word place. print_element (print_within (suc k) o) word (spelled_type t ++ r) place) fuel out (at p (spelled_all o p vs)) ≡ out ++ others_text o (all_said vs)
  items_shown no_values t k zero o p out r d i h c f = sym (append-nil out)
  items_shown no_values t k (suc fuel) o p out r d i h c f = sym (append-nil out)
  items_shown (value v vs) t k zero o p out r d i h c f = absurd (omega (arith, f, length-append (spelled o p v) (spelled_all o (p + length (spelled o p v)) vs), spelled_pos v o p))
  items_shown (value v vs) t k (suc fuel) o p out r d i h c f =
      let first = spelled o p v in
      let next = p + length first in
      let more = spelled_all o next vs in
      let a = and_parts (is_value o p v) (are_values o next vs) i in
      let b = and_parts (has_type t v) (have_type t vs) h in
      let item : Text → At → Typed = λ word place. print_element (print_within (suc k) o) word (spelled_type t ++ r) place in
      let there : is_empty (first ++ more) ≡ false = not_empty (first ++ more) (omega (arith, length-append first more, spelled_pos v o p)) in
      ap (λ (q : Bool). cond q out (let x = item (out ++ 32 ∷ []) (at p (first ++ more)) in print_items item fuel x.0 x.2)) there
      ∙ ap (λ (x : Typed). print_items item fuel x.0 x.2) (item_shown v t k o p (out ++ 32 ∷ []) r more b.0 (shown v k o p (out ++ 32 ∷ []) r more (omega (arith, d, max_left (depth v) (depths vs))) a.0) c)
      ∙ items_shown vs t k fuel o next (out ++ 32 ∷ [] ++ value_text o (said v)) r (omega (arith, d, max_right (depth v) (depths vs))) a.1 b.1 c (omega (arith, f, length-append first more, spelled_pos v o p))
      ∙ next_text out (value_text o (said v)) (others_text o (all_said vs))
