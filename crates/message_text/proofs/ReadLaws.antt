-- The text of each value is read as that value: its bytes are put after those before it, and the rest of the text is
-- left.
use Rattle.std.proofs.Common.{◌≡◌, ℕ, zero, suc, ◌+◌, ◌-◌, ◌^◌, ◌<◌, ◌≤◌, Bool, true, false, cond, List, [], ◌∷◌, ◌++◌, length, take, drop, Option, Some, None, refl, sym, ap, ap₂, ◌∙◌, append_assoc, arith, inl, inr, codes, decimal, min}
use Rattle.std.specs.Prelude.{◌==◌, nat_lt, nat_le, max, slice_set, is_none}
use Rattle.std.specs.List.{list_all, flat_map, AllByRecursion}
use Rattle.std.specs.Str.{is_utf8}
use Rattle.std.specs.Int.{w8, w16, w32, w64, byte_len}
use Rattle.std.proofs.lemmas.List.{length-append, length-replicate, append-nil, take_at, drop_at, set_at}
use Rattle.std.proofs.lemmas.Bool.{and_parts, and_from, ltb-true, leb-true, le-leb, ne_eqb, cases_Bool}
use Rattle.byte_lists.specs.Bytes.{is_empty}
use Rattle.byte_lists.proofs.Bytes.{bytes_eq-true}
use Rattle.byte_lists.proofs.Options.{some}
use Rattle.dbus_types.specs.Signature.{Number, byte, boolean, int16, uint16, int32, uint32, int64, uint64, double, handle, Basic, number, string, path, signature, Complete, basic, variant, array, struct, entry, code, number_code, spelled_type, spelled_members, spelled_types, is_signature, is_complete, is_element_type, are_complete, is_basic, signature_fault, signature_of, types_of}
use Rattle.dbus_types.specs.Behind.{behind}
use Rattle.dbus_types.proofs.SignatureLaws.{spelled_types_is}
use Rattle.dbus_types.proofs.BehindLaws.{type_in_front}
use Rattle.dbus_values.specs.Values.{width, alignment, padding, zeros, number_bytes, elements_place, limit}
use Rattle.dbus_values.specs.Reading.{◌>>=◌, when}
use Rattle.dbus_values.specs.Walk.{front_code}
use Rattle.dbus_values.proofs.ValueLaws.{wide, then_is, signature_of-spelled}
use Rattle.dbus_values.proofs.ValueAgain.{element_type, basic_complete, one_complete}
use Rattle.dbus_values.proofs.WalkNumbers.{type_len}
use Rattle.dbus_values.specs.declared.Order.{Order}
use Rattle.dbus_values.specs.declared.Order.TheVariants.{Little, Big}
use Rattle.dbus_header.specs.Message.{with_number}
use Rattle.message_text.specs.MessageText.{Text, Said, says_number, says_string, says_path, says_signature, says_variant, says_array, says_struct, says_entry, Saids, no_more, more, type_said, types_said, value_text, others_text, number_text, quoted, hex_byte, is_typed, are_typed, in_range, all_in_range, depth_said, depths_said}
use Rattle.message_text.specs.Printing.{signed_from}
use Rattle.message_text.specs.Reading.{Bytes, Value, Read, after_byte, is_digit, boolean_at, number_at, hex_bytes, with_len, with_gap, no_len, number_part, read_number, read_double, read_text, read_signature, read_basic, read_items, read_elements, read_element, before_elements, read_array, read_members, read_struct, word_len, signature_bytes, read_typed, read_variant, of_types, read_within}
use Rattle.message_text.proofs.ShapeLaws.{is_low, type_low}
use Rattle.message_text.proofs.PrintLaws.{width_is, struct_regrouped, entry_regrouped, type_front}
use Rattle.message_text.proofs.TextBytes.{len_bytes, text_bytes, bytes_of, bytes_of_all}
use Rattle.message_text.proofs.WordLaws.{starts_digit, decimal_front, up_to_read, signed_read, hex_all_again, quoted_read}

abbrev pub bytes_read : List ℕ → Text → Option Bytes
bytes_read out text = Some (out, text)

abbrev pub value_read : List ℕ → List ℕ → Text → Option Value
value_read types out text = Some (types, out, text)

-- ---- numbers

part_8 : (o : Order) (x : ℕ) → number_part o 1 x ≡ number_bytes o w8 x
part_8 Little x = refl
part_8 Big x = refl

part_16 : (o : Order) (x : ℕ) → number_part o 2 x ≡ number_bytes o w16 x
part_16 Little x = refl
part_16 Big x = refl

part_32 : (o : Order) (x : ℕ) → number_part o 4 x ≡ number_bytes o w32 x
part_32 Little x = refl
part_32 Big x = refl

part_64 : (o : Order) (x : ℕ) → number_part o 8 x ≡ number_bytes o w64 x
part_64 Little x = refl
part_64 Big x = refl

part_is : (n : Number) (o : Order) (x : ℕ) → number_part o (byte_len (width n)) x ≡ number_bytes o (width n) x
part_is byte o x = part_8 o x
part_is boolean o x = part_32 o x
part_is int16 o x = part_16 o x
part_is uint16 o x = part_16 o x
part_is int32 o x = part_32 o x
part_is uint32 o x = part_32 o x
part_is int64 o x = part_64 o x
part_is uint64 o x = part_64 o x
part_is double o x = part_64 o x
part_is handle o x = part_32 o x

abbrev pub is_double : Number → Bool
is_double double = true
is_double n = false

boolean_read : (o : Order) (x : ℕ) (r : List ℕ) → x < 2 → boolean_at (number_text o boolean x ++ r) ≡ Some (x, r)
boolean_read o zero r low = refl
boolean_read o (suc zero) r low = refl
boolean_read o (suc (suc x)) r low = absurd (omega arith)

number_word_read : (n : Number) (o : Order) (x : ℕ) (r : List ℕ) → is_double n ≡ false → nat_lt x (limit n) ≡ true → starts_digit r ≡ false → number_at (number_code n) (number_text o n x ++ r) ≡ Some (x, r)
number_word_read byte o x r d i s = let low = ltb-true x 256 i in up_to_read (2 ^ 8 - 1) x r (omega arith) (omega arith) s
number_word_read boolean o x r d i s = boolean_read o x r (ltb-true x 2 i)
number_word_read int16 o x r d i s = let low = ltb-true x (256 ^ 2) i in signed_read (2 ^ 15) x r (omega arith) (omega arith) s
number_word_read uint16 o x r d i s = let low = ltb-true x (256 ^ 2) i in up_to_read (2 ^ 16 - 1) x r (omega arith) (omega arith) s
number_word_read int32 o x r d i s = let low = ltb-true x (256 ^ 4) i in signed_read (2 ^ 31) x r (omega arith) (omega arith) s
number_word_read uint32 o x r d i s = let low = ltb-true x (256 ^ 4) i in up_to_read (2 ^ 32 - 1) x r (omega arith) (omega arith) s
number_word_read int64 o x r d i s = let low = ltb-true x (256 ^ 8) i in signed_read (2 ^ 63) x r (omega arith) (omega arith) s
number_word_read uint64 o x r d i s = let low = ltb-true x (256 ^ 8) i in up_to_read (2 ^ 64 - 1) x r (omega arith) (omega arith) s
number_word_read double o x r d i s = absurd cc
number_word_read handle o x r d i s = let low = ltb-true x (256 ^ 4) i in up_to_read (2 ^ 32 - 1) x r (omega arith) (omega arith) s

pub number_coded : (n : Number) (o : Order) (out : List ℕ) (text : Text) → is_double n ≡ false → read_basic o (number_code n) out text ≡ read_number o (number_code n) out text
number_coded byte o out text d = refl
number_coded boolean o out text d = refl
number_coded int16 o out text d = refl
number_coded uint16 o out text d = refl
number_coded int32 o out text d = refl
number_coded uint32 o out text d = refl
number_coded int64 o out text d = refl
number_coded uint64 o out text d = refl
number_coded double o out text d = absurd cc
number_coded handle o out text d = refl

plain_number : (n : Number) (o : Order) (x : ℕ) (out r : List ℕ) → is_double n ≡ false → nat_lt x (limit n) ≡ true → starts_digit r ≡ false → read_basic o (number_code n) out (number_text o n x ++ r) ≡ bytes_read (out ++ bytes_of o (length out) (says_number n x)) r
plain_number n o x out r d i s =
    let w = byte_len (width n) in
    number_coded n o out (number_text o n x ++ r) d
    ∙ then_is _ _ _ _ (number_word_read n o x r d i s)
    (ap (λ (m : ℕ). bytes_read (with_gap m out ++ number_part o m x) r) (width_is n)
    ∙ ap (λ (t : List ℕ). bytes_read (with_gap w out ++ t) r) (part_is n o x)
    ∙ ap (λ (t : List ℕ). bytes_read t r) (append_assoc out (zeros w (length out)) (number_bytes o (width n) x)))

low_bytes : (o : Order) (x : ℕ) → AllByRecursion (λ b. b < 256) (number_bytes o w64 x)
low_bytes Little x = (omega arith, (omega arith, (omega arith, (omega arith, (omega arith, (omega arith, (omega arith, (omega arith, tt))))))))
low_bytes Big x = (omega arith, (omega arith, (omega arith, (omega arith, (omega arith, (omega arith, (omega arith, (omega arith, tt))))))))

double_read : (o : Order) (x : ℕ) (out r : List ℕ) → read_basic o (number_code double) out (number_text o double x ++ r) ≡ bytes_read (out ++ bytes_of o (length out) (says_number double x)) r
double_read o x out r =
    let bytes = number_bytes o w64 x in
    ap (λ (t : List ℕ). read_double out t) (append_assoc (codes "0x") (flat_map hex_byte bytes) r)
    ∙ (ap (λ (m : ℕ). hex_bytes m (with_gap 8 out) (flat_map hex_byte bytes ++ r)) (sym ((wide double).len o x))
    ∙ hex_all_again bytes (with_gap 8 out) r (low_bytes o x)
    ∙ ap (λ (t : List ℕ). bytes_read t r) (append_assoc out (zeros 8 (length out)) bytes))

number_read : (n : Number) (o : Order) (x : ℕ) (out r : List ℕ) → nat_lt x (limit n) ≡ true → starts_digit r ≡ false → read_basic o (number_code n) out (number_text o n x ++ r) ≡ bytes_read (out ++ bytes_of o (length out) (says_number n x)) r
number_read byte o x out r i s = plain_number byte o x out r refl i s
number_read boolean o x out r i s = plain_number boolean o x out r refl i s
number_read int16 o x out r i s = plain_number int16 o x out r refl i s
number_read uint16 o x out r i s = plain_number uint16 o x out r refl i s
number_read int32 o x out r i s = plain_number int32 o x out r refl i s
number_read uint32 o x out r i s = plain_number uint32 o x out r refl i s
number_read int64 o x out r i s = plain_number int64 o x out r refl i s
number_read uint64 o x out r i s = plain_number uint64 o x out r refl i s
number_read double o x out r i s = double_read o x out r
number_read handle o x out r i s = plain_number handle o x out r refl i s

-- ---- lengths that are written afterwards

pub len_written : (o : Order) (a four gap e : List ℕ) → length four ≡ 4 → with_len o (length a) (length (a ++ four ++ gap)) (a ++ four ++ gap ++ e) ≡ a ++ len_bytes o (length e) ++ (gap ++ e)
len_written o a four gap e f =
    let bytes = a ++ four ++ gap ++ e in
    let len : length bytes ≡ length (a ++ four ++ gap) + length e = length-append (a ++ four ++ gap) e in
    let before : length (a ++ four ++ gap) ≡ length a + 4 + length gap = omega (arith, length-append (a ++ four) gap, length-append a four, f) in
    let room : nat_le 4 (length bytes) ≡ true = le-leb 4 (length bytes) (omega (arith, len, before)) in
    let there : nat_le (length a) (length bytes - 4) ≡ true = le-leb (length a) (length bytes - 4) (omega (arith, len, before)) in
    let n = min (length bytes - length (a ++ four ++ gap)) (2 ^ 32 - 1) in
    let parts : bytes ≡ a ++ four ++ (gap ++ e) = append_assoc (a ++ four) gap e in
    let front : take (length a) bytes ≡ a = ap (λ (t : List ℕ). take (length a) t) (parts ∙ append_assoc a four (gap ++ e)) ∙ take_at a (four ++ (gap ++ e)) (length a) refl in
    let back : drop (length a + 4) bytes ≡ gap ++ e = ap (λ (t : List ℕ). drop (length a + 4) t) parts ∙ drop_at (a ++ four) (gap ++ e) (length a + 4) (omega (arith, length-append a four, f)) in
    ap (λ (b : Bool). cond b (with_number o (length a) n bytes) bytes) (and_from _ _ room there)
    ∙ ap₂ (λ (x y : List ℕ). x ++ number_bytes o w32 n ++ y) front back
    ∙ ap (λ (m : ℕ). a ++ number_bytes o w32 (min m (2 ^ 32 - 1)) ++ (gap ++ e)) (omega (arith, len))

text_read : (o : Order) (text out r : List ℕ) → is_utf8 text ≡ true → read_text o out (quoted text ++ r) ≡ bytes_read (out ++ text_bytes o (length out) text) r
text_read o text out r ok =
    let a = with_gap 4 out in
    let z = zeros 4 (length out) in
    then_is _ _ _ _ (quoted_read text (a ++ no_len) r ok)
    (ap (λ (t : List ℕ). bytes_read (with_len o (length a) (length t) (t ++ text) ++ 0 ∷ []) r) (sym (append-nil (a ++ no_len)))
    ∙ ap (λ (t : List ℕ). bytes_read (t ++ 0 ∷ []) r) (len_written o a no_len [] text refl)
    ∙ ap (λ (t : List ℕ). bytes_read t r) (grouped out z (len_bytes o (length text)) text))
  where
    grouped : (a b c d : List ℕ) → a ++ b ++ c ++ d ++ 0 ∷ [] ≡ a ++ (b ++ (c ++ d) ++ 0 ∷ [])
    grouped a b c d = simp append_assoc

signature_read : (text out r : List ℕ) → is_utf8 text ≡ true → read_signature out (quoted text ++ r) ≡ bytes_read (out ++ signature_bytes text) r
signature_read text out r ok =
    let n = min (length (out ++ 0 ∷ [] ++ text) - (length out + 1)) 255 in
    let parts : out ++ 0 ∷ [] ++ text ≡ out ++ (0 ∷ text) = append_assoc out (0 ∷ []) text in
    then_is _ _ _ _ (quoted_read text (out ++ 0 ∷ []) r ok)
    (ap (λ (t : List ℕ). bytes_read (slice_set t (length out) n ++ 0 ∷ []) r) parts
    ∙ ap (λ (t : List ℕ). bytes_read (t ++ 0 ∷ []) r) (set_at out 0 text n (length out) refl)
    ∙ ap (λ (m : ℕ). bytes_read (out ++ (min m 255 ∷ text) ++ 0 ∷ []) r) (omega (arith, ap length parts, length-append out (0 ∷ text)))
    ∙ ap (λ (t : List ℕ). bytes_read t r) (append_assoc out (min (length text) 255 ∷ text) (0 ∷ [])))

-- ---- which case a type takes

pub basic_coded : (b : Basic) (o : Order) (k : ℕ) (out r text : List ℕ) → read_element (read_within (suc k) o) (code b ∷ r) out text ≡ of_types r (read_basic o (code b) out text)
unfolding read_within
basic_coded (number byte) o k out r text = refl
basic_coded (number boolean) o k out r text = refl
basic_coded (number int16) o k out r text = refl
basic_coded (number uint16) o k out r text = refl
basic_coded (number int32) o k out r text = refl
basic_coded (number uint32) o k out r text = refl
basic_coded (number int64) o k out r text = refl
basic_coded (number uint64) o k out r text = refl
basic_coded (number double) o k out r text = refl
basic_coded (number handle) o k out r text = refl
basic_coded string o k out r text = refl
basic_coded path o k out r text = refl
basic_coded signature o k out r text = refl

basic_plain : (b : Basic) (inner : Read) (out r text : List ℕ) → inner (code b ∷ r) out text ≡ read_element inner (code b ∷ r) out text
basic_plain (number byte) inner out r text = refl
basic_plain (number boolean) inner out r text = refl
basic_plain (number int16) inner out r text = refl
basic_plain (number uint16) inner out r text = refl
basic_plain (number int32) inner out r text = refl
basic_plain (number uint32) inner out r text = refl
basic_plain (number int64) inner out r text = refl
basic_plain (number uint64) inner out r text = refl
basic_plain (number double) inner out r text = refl
basic_plain (number handle) inner out r text = refl
basic_plain string inner out r text = refl
basic_plain path inner out r text = refl
basic_plain signature inner out r text = refl

-- a type that is no dict entry is read as an element as it is elsewhere
pub plain : (t : Complete) (inner : Read) (out r text : List ℕ) → is_complete t ≡ true → inner (spelled_type t ++ r) out text ≡ read_element inner (spelled_type t ++ r) out text
plain (basic b) inner out r text c = basic_plain b inner out r text
plain variant inner out r text c = refl
plain (array t) inner out r text c = refl
plain (struct t ts) inner out r text c = refl
plain (entry k t) inner out r text c = absurd cc

pub variant_coded : (o : Order) (k : ℕ) (out r text : List ℕ) → read_element (read_within (suc k) o) (118 ∷ r) out text ≡ of_types r (read_variant (read_within k o) out text)
unfolding read_within
variant_coded o k out r text = refl

pub array_coded : (o : Order) (k : ℕ) (out r text : List ℕ) → read_element (read_within (suc k) o) (97 ∷ r) out text ≡ read_array o (read_within k o) r out text
unfolding read_within
array_coded o k out r text = refl

pub struct_coded : (o : Order) (k : ℕ) (out r text : List ℕ) → read_element (read_within (suc k) o) (40 ∷ r) out text ≡ read_struct (read_within k o) r out text
unfolding read_within
struct_coded o k out r text = refl

-- ---- types

no_space : (s r : List ℕ) → list_all is_low s ≡ true → word_len (s ++ 32 ∷ r) ≡ length s
no_space [] r e = refl
no_space (c ∷ s) r e =
    let a = and_parts (is_low c) (list_all is_low s) e in
    let low = ltb-true 32 c (and_parts (nat_lt 32 c) (nat_lt c 128) a.0).0 in
    ap (λ (b : Bool). cond b 0 (suc (word_len (s ++ 32 ∷ r)))) (ne_eqb c 32 (λ q. omega (arith, q, low))) ∙ ap suc (no_space s r a.1)

heads : (a b : Complete) → a ∷ [] ≡ b ∷ [] → a ≡ b
heads a b e = cc

pub typed-true : (t : Complete) (v : Said) → is_typed t v ≡ true → t ≡ type_said v
typed-true t v e = heads t (type_said v) (spelled_types_is (t ∷ []) (type_said v ∷ []) (append-nil (spelled_type t) ∙ bytes_eq-true (spelled_type t) (spelled_type (type_said v)) e ∙ sym (append-nil (spelled_type (type_said v)))))

-- a type alone is a valid signature
pub sound_signature : (t : Complete) → is_signature (t ∷ []) ≡ true → is_none (signature_fault (spelled_type t)) ≡ true
sound_signature t ok = ap (λ (s : List ℕ). is_none (signature_fault s)) (sym (append-nil (spelled_type t))) ∙ go (is_none (signature_fault (spelled_types (t ∷ [])))) refl (signature_of-spelled (t ∷ []) ok)
  where
    go : (b : Bool) → is_none (signature_fault (spelled_types (t ∷ []))) ≡ b → signature_of (spelled_types (t ∷ [])) ≡ Some (t ∷ []) → is_none (signature_fault (spelled_types (t ∷ []))) ≡ true
    go true e s = e
    go false e s = absurd (never (sym (ap (λ (b : Bool). cond b (types_of (spelled_types (t ∷ []))) None) e) ∙ s))
      where
        never : {A : Type 0} {x : A} → None ≡ some x → ⊥
        never q = absurd cc

-- a type and a value of it
pub typed_read : (inner : Read) (v : Said) (o : Order) (out rest : List ℕ) → is_signature (type_said v ∷ []) ≡ true
    → (let s = spelled_type (type_said v) in let front = out ++ signature_bytes s in inner (s ++ []) front (value_text o v ++ rest) ≡ value_read [] (front ++ bytes_of o (length front) v) rest)
    → read_typed inner out (spelled_type (type_said v) ++ 32 ∷ (value_text o v ++ rest)) ≡ bytes_read (out ++ bytes_of o (length out) (says_variant v)) rest
typed_read inner v o out rest ok ih =
    let s = spelled_type (type_said v) in
    let head = signature_bytes s in
    let front = out ++ head in
    let after = value_text o v ++ rest in
    let text = s ++ 32 ∷ after in
    let body : List ℕ → Text → Option Bytes = λ types tail. cond (is_none (signature_fault types)) (after_byte 32 tail >>= λ next. inner types (out ++ signature_bytes types) next >>= λ x. when (is_empty x.0) (x.1, x.2)) None in
    ap (λ (m : ℕ). body (take m text) (drop m text)) (no_space s after (type_low (type_said v)))
    ∙ ap₂ body (take_at s (32 ∷ after) (length s) refl) (drop_at s (32 ∷ after) (length s) refl)
    ∙ ap (λ (b : Bool). cond b (after_byte 32 (32 ∷ after) >>= λ next. inner s front next >>= λ x. when (is_empty x.0) (x.1, x.2)) None) (sound_signature (type_said v) ok)
    ∙ (ap (λ (q : Option Value). q >>= λ x. when (is_empty x.0) (x.1, x.2)) (ap (λ (types : List ℕ). inner types front after) (sym (append-nil s)) ∙ ih))
    ∙ ap (λ (m : ℕ). bytes_read (front ++ bytes_of o m v) rest) (length-append out head)
    ∙ ap (λ (t : List ℕ). bytes_read t rest) (append_assoc out head (bytes_of o (length out + length head) v))

-- an array, by its elements
array_read : (inner : Read) (t : Complete) (vs : Saids) (o : Order) (out r text rest : List ℕ)
    → (let front = before_elements (alignment t) out in read_elements (λ bytes tail. read_element inner (spelled_type t ++ r) bytes tail) front text ≡ bytes_read (front ++ bytes_of_all o (length front) vs) rest)
    → read_array o inner (spelled_type t ++ r) out (91 ∷ text) ≡ value_read r (out ++ bytes_of o (length out) (says_array t vs)) rest
array_read inner t vs o out r text rest ih =
    let p = length out in
    let a = with_gap 4 out in
    let front = before_elements (alignment t) out in
    let types = spelled_type t ++ r in
    let q = p + padding 4 p + 4 in
    let alen : length (a ++ no_len) ≡ q = omega (arith, length-append a no_len, length-append out (zeros 4 p), length-replicate {A = ℕ} (padding 4 p) 0) in
    let gap = zeros (alignment t) (length (a ++ no_len)) in
    let place : length front ≡ elements_place t p = omega (arith, length-append (a ++ no_len) gap, length-replicate {A = ℕ} (padding (alignment t) (length (a ++ no_len))) 0, alen, ap (padding (alignment t)) alen) in
    let e = bytes_of_all o (length front) vs in
    let whole : ℕ → Option Value = λ n. (read_elements (λ bytes tail. read_element inner types bytes tail) (before_elements n out) text >>= λ x. some {A = Value} (behind 0 types, with_len o (length a) (length (before_elements n out)) x.0, x.1)) in
    (ap whole (type_front t r).0
    ∙ ap (λ (q : Option Bytes). q >>= λ x. some {A = Value} (behind 0 types, with_len o (length a) (length front) x.0, x.1)) ih
    ∙ ap₂ (λ (ts b : List ℕ). value_read ts b rest) (type_in_front types t r refl) (len_written o a no_len gap e refl)
    ∙ ap (λ (b : List ℕ). value_read r b rest) (grouped out (zeros 4 p) (len_bytes o (length e)) gap e)
    ∙ ap₂ (λ (m n : ℕ). value_read r (out ++ (zeros 4 p ++ len_bytes o (length (bytes_of_all o m vs)) ++ zeros (alignment t) n ++ bytes_of_all o m vs)) rest) place alen)
  where
    grouped : (a b c d e : List ℕ) → a ++ b ++ c ++ (d ++ e) ≡ a ++ (b ++ c ++ d ++ e)
    grouped a b c d e = simp append_assoc

-- ---- what a value's text begins with, and what follows it

decimal_open : (x : ℕ) (r : List ℕ) → x < 2 ^ 64 → (front_code (decimal x ++ r) == 93) ≡ false
decimal_open x r low =
    let front = decimal_front x low in
    let digit = leb-true front.first 57 (and_parts (nat_le 48 front.first) (nat_le front.first 57) front.digit).1 in
    ap (λ (t : List ℕ). front_code (t ++ r) == 93) front.is ∙ ne_eqb front.first 93 (λ e. omega (arith, e, digit))

signed_open : (half x : ℕ) (r : List ℕ) → x < 2 ^ 64 → (front_code (signed_from half x ++ r) == 93) ≡ false
signed_open half x r low = elim (cases_Bool (nat_lt x half)) [
  | inl e ↦ ap (λ (b : Bool). front_code (cond b (decimal x) (45 ∷ decimal (half + half - x)) ++ r) == 93) e ∙ decimal_open x r low
  | inr e ↦ ap (λ (b : Bool). front_code (cond b (decimal x) (45 ∷ decimal (half + half - x)) ++ r) == 93) e
]

boolean_open : (o : Order) (x : ℕ) (r : List ℕ) → (front_code (number_text o boolean x ++ r) == 93) ≡ false
boolean_open o x r = go (x == 0)
  where
    go : (b : Bool) → (front_code (cond b (codes "false") (codes "true") ++ r) == 93) ≡ false
    go true = refl
    go false = refl

number_open : (n : Number) (o : Order) (x : ℕ) (r : List ℕ) → nat_lt x (limit n) ≡ true → (front_code (number_text o n x ++ r) == 93) ≡ false
number_open byte o x r i = let low = ltb-true x 256 i in decimal_open x r (omega arith)
number_open boolean o x r i = boolean_open o x r
number_open int16 o x r i = let low = ltb-true x (256 ^ 2) i in signed_open (2 ^ 15) x r (omega arith)
number_open uint16 o x r i = let low = ltb-true x (256 ^ 2) i in decimal_open x r (omega arith)
number_open int32 o x r i = let low = ltb-true x (256 ^ 4) i in signed_open (2 ^ 31) x r (omega arith)
number_open uint32 o x r i = let low = ltb-true x (256 ^ 4) i in decimal_open x r (omega arith)
number_open int64 o x r i = let low = ltb-true x (256 ^ 8) i in signed_open (2 ^ 63) x r (omega arith)
number_open uint64 o x r i = let low = ltb-true x (256 ^ 8) i in decimal_open x r (omega arith)
number_open double o x r i = refl
number_open handle o x r i = let low = ltb-true x (256 ^ 4) i in decimal_open x r (omega arith)

opens : (s : Said) (o : Order) (r : List ℕ) → in_range s ≡ true → (front_code (value_text o s ++ r) == 93) ≡ false
opens (says_number n x) o r i = number_open n o x r i
opens (says_string text) o r i = refl
opens (says_path text) o r i = refl
opens (says_signature text) o r i = refl
opens (says_variant v) o r i = refl
opens (says_array t no_more) o r i = refl
opens (says_array t (more v vs)) o r i = refl
opens (says_struct v vs) o r i = refl
opens (says_entry k v) o r i = refl

others_stop : (vs : Saids) (o : Order) (c : ℕ) (r : List ℕ) → is_digit c ≡ false → starts_digit (others_text o vs ++ c ∷ r) ≡ false
others_stop no_more o c r e = e
others_stop (more v vs) o c r e = refl

-- ---- texts in parts

variant_text : (s a rest : List ℕ) → (60 ∷ s ++ 32 ∷ a ++ 62 ∷ []) ++ rest ≡ 60 ∷ (s ++ 32 ∷ (a ++ 62 ∷ rest))
variant_text s a rest = simp append_assoc

list_text : (c d : ℕ) (a b rest : List ℕ) → (c ∷ a ++ b ++ d ∷ []) ++ rest ≡ c ∷ (a ++ (b ++ d ∷ rest))
list_text c d a b rest = simp append_assoc

entry_text : (a b rest : List ℕ) → (123 ∷ a ++ 32 ∷ b ++ 125 ∷ []) ++ rest ≡ 123 ∷ (a ++ 32 ∷ (b ++ 125 ∷ rest))
entry_text a b rest = simp append_assoc

next_text : (a b rest : List ℕ) → (32 ∷ a ++ b) ++ rest ≡ 32 ∷ (a ++ (b ++ rest))
next_text a b rest = simp append_assoc

max_left : (a b : ℕ) → a ≤ max a b
max_left a b = omega arith

max_right : (a b : ℕ) → b ≤ max a b
max_right a b = omega arith

-- bytes after those of a gap
pub after_gap : (n : ℕ) (out : List ℕ) → length (with_gap n out) ≡ length out + padding n (length out)
after_gap n out = omega (arith, length-append out (zeros n (length out)), length-replicate {A = ℕ} (padding n (length out)) 0)

-- an element of a type is a value that has it
element_read : (v : Said) (t : Complete) (k : ℕ) (o : Order) (out r rest : List ℕ) → is_typed t v ≡ true
    → (is_element_type (type_said v) ≡ true → read_element (read_within (suc k) o) (spelled_type (type_said v) ++ r) out (value_text o v ++ rest) ≡ value_read r (out ++ bytes_of o (length out) v) rest)
    → is_element_type t ≡ true → read_element (read_within (suc k) o) (spelled_type t ++ r) out (value_text o v ++ rest) ≡ value_read r (out ++ bytes_of o (length out) v) rest
element_read v t k o out r rest h ih c =
    let same : t ≡ type_said v = typed-true t v h in
    ap (λ (u : Complete). read_element (read_within (suc k) o) (spelled_type u ++ r) out (value_text o v ++ rest)) same ∙ ih (ap is_element_type (sym same) ∙ c)

-- the bytes of a value, and those of the values after it
then_bytes : (o : Order) (out : List ℕ) (v : Said) (vs : Saids) → (let next = out ++ bytes_of o (length out) v in next ++ bytes_of_all o (length next) vs ≡ out ++ bytes_of_all o (length out) (more v vs))
then_bytes o out v vs =
    let first = bytes_of o (length out) v in
    ap (λ (m : ℕ). out ++ first ++ bytes_of_all o m vs) (length-append out first)
    ∙ append_assoc out first (bytes_of_all o (length out + length first) vs)

-- ---- all values

mutual
  pub reads : (s : Said) (k : ℕ) (o : Order) (out r rest : List ℕ) → depth_said s < suc k → in_range s ≡ true → is_element_type (type_said s) ≡ true → starts_digit rest ≡ false → read_element (read_within (suc k) o) (spelled_type (type_said s) ++ r) out (value_text o s ++ rest) ≡ value_read r (out ++ bytes_of o (length out) s) rest
  reads (says_number n x) k o out r rest d i c s =
      basic_coded (number n) o k out r (number_text o n x ++ rest) ∙ ap (λ (y : Option Bytes). of_types r y) (number_read n o x out rest i s)
  reads (says_string text) k o out r rest d i c s =
      basic_coded string o k out r (quoted text ++ rest) ∙ ap (λ (y : Option Bytes). of_types r y) (text_read o text out rest i)
  reads (says_path text) k o out r rest d i c s =
      basic_coded path o k out r (quoted text ++ rest) ∙ ap (λ (y : Option Bytes). of_types r y) (text_read o text out rest i)
  reads (says_signature text) k o out r rest d i c s =
      basic_coded signature o k out r (quoted text ++ rest) ∙ ap (λ (y : Option Bytes). of_types r y) (signature_read text out rest i)
  reads (says_variant v) zero o out r rest d i c s = absurd (omega (arith, d))
  reads (says_variant v) (suc k) o out r rest d i c s =
      let t = and_parts (is_signature (type_said v ∷ [])) (in_range v) i in
      let complete : is_complete (type_said v) ≡ true = one_complete (type_said v) t.0 in
      let spelling = spelled_type (type_said v) in
      let front = out ++ signature_bytes spelling in
      let inner = read_within (suc k) o in
      let tail = 62 ∷ rest in
      ap (λ (text : List ℕ). read_element (read_within (suc (suc k)) o) (118 ∷ r) out text) (variant_text spelling (value_text o v) rest)
      ∙ variant_coded o (suc k) out r (60 ∷ (spelling ++ 32 ∷ (value_text o v ++ tail)))
      ∙ ap (λ (y : Option Bytes). of_types r y) (
      (then_is _ _ _ _ (typed_read inner v o out tail t.0 (plain (type_said v) inner front [] (value_text o v ++ tail) complete ∙ reads v k o front [] tail (omega (arith, d)) t.1 (element_type (type_said v) complete) refl))
      (refl)))
  reads (says_array t no_more) k o out r rest d i c s =
      array_coded o k out (spelled_type t ++ r) (91 ∷ 93 ∷ rest)
      ∙ array_read (read_within k o) t no_more o out r (93 ∷ rest) rest (ap (λ (b : List ℕ). bytes_read b rest) (sym (append-nil (before_elements (alignment t) out))))
  reads (says_array t (more v vs)) zero o out r rest d i c s = absurd (omega (arith, d))
  reads (says_array t (more v vs)) (suc k) o out r rest d i c s =
      let a = and_parts (are_typed t (more v vs)) (all_in_range (more v vs)) i in
      let h = and_parts (is_typed t v) (are_typed t vs) a.0 in
      let w = and_parts (in_range v) (all_in_range vs) a.1 in
      let others = others_text o vs ++ 93 ∷ rest in
      let text = value_text o v ++ others in
      let front = before_elements (alignment t) out in
      let item : List ℕ → Text → Option Value = λ bytes tail. read_element (read_within (suc k) o) (spelled_type t ++ r) bytes tail in
      ap (λ (b : List ℕ). read_element (read_within (suc (suc k)) o) (97 ∷ (spelled_type t ++ r)) out b) (list_text 91 93 (value_text o v) (others_text o vs) rest)
      ∙ array_coded o (suc k) out (spelled_type t ++ r) (91 ∷ text)
      ∙ array_read (read_within (suc k) o) t (more v vs) o out r text rest (
      ap (λ (b : Bool). cond b (some {A = Bytes} (front, drop 1 text)) (item front text >>= λ x. read_items item (suc (length x.2)) x.1 x.2)) (opens v o others w.0)
      ∙ then_is _ _ _ _ (element_read v t k o front r others h.0 (λ e. reads v k o front r others (omega (arith, d, max_left (depth_said v) (depths_said vs))) w.0 e (others_stop vs o 93 rest refl)) c)
      (items_read vs t k (suc (length others)) o (front ++ bytes_of o (length front) v) r rest (omega (arith, d, max_right (depth_said v) (depths_said vs))) w.1 h.1 c (omega (arith, length-append (others_text o vs) (93 ∷ rest)))
      ∙ ap (λ (b : List ℕ). bytes_read b rest) (then_bytes o front v vs)))
  reads (says_struct v vs) zero o out r rest d i c s = absurd (omega (arith, d))
  reads (says_struct v vs) (suc k) o out r rest d i c s =
      let w = and_parts (in_range v) (all_in_range vs) i in
      let u = and_parts (is_complete (type_said v)) (are_complete (types_said vs)) c in
      let others = others_text o vs ++ 41 ∷ rest in
      let text = value_text o v ++ others in
      let front = with_gap 8 out in
      let inner = read_within (suc k) o in
      let members = spelled_members (types_said vs) ++ 41 ∷ r in
      let spelling = spelled_type (type_said v) in
      ap₂ (λ (ts b : List ℕ). read_element (read_within (suc (suc k)) o) ts out b) (struct_regrouped (type_said v) (types_said vs) r) (list_text 40 41 (value_text o v) (others_text o vs) rest)
      ∙ struct_coded o (suc k) out (spelling ++ members) (40 ∷ text)
      ∙ (then_is _ _ _ _ (plain (type_said v) inner front members text u.0 ∙ reads v k o front members others (omega (arith, d, max_left (depth_said v) (depths_said vs))) w.0 (element_type (type_said v) u.0) (others_stop vs o 41 rest refl))
      (members_read vs k (suc (length members)) o (front ++ bytes_of o (length front) v) r rest (omega (arith, d, max_right (depth_said v) (depths_said vs))) w.1 u.1 (omega (arith, length-append (spelled_members (types_said vs)) (41 ∷ r)))
      ∙ ap (λ (b : List ℕ). value_read r b rest) (then_bytes o front v vs ∙ struct_bytes o out v vs)))
    where
      struct_bytes : (o : Order) (out : List ℕ) (v : Said) (vs : Saids) → with_gap 8 out ++ bytes_of_all o (length (with_gap 8 out)) (more v vs) ≡ out ++ bytes_of o (length out) (says_struct v vs)
      struct_bytes o out v vs =
          let p = length out in
          ap (λ (m : ℕ). with_gap 8 out ++ (bytes_of o m v ++ bytes_of_all o (m + length (bytes_of o m v)) vs)) (after_gap 8 out)
          ∙ grouped out (zeros 8 p) (bytes_of o (p + padding 8 p) v) (bytes_of_all o (p + padding 8 p + length (bytes_of o (p + padding 8 p) v)) vs)
        where
          grouped : (a b c d : List ℕ) → a ++ b ++ (c ++ d) ≡ a ++ (b ++ c ++ d)
          grouped a b c d = simp append_assoc
  reads (says_entry x y) k o out r rest d i c s =
      let w = and_parts (in_range x) (in_range y) i in
      let u = and_parts (is_basic (type_said x)) (is_complete (type_said y)) c in
      let key = basic_complete (type_said x) u.0 in
      let front = with_gap 8 out in
      let inner = read_within (suc k) o in
      let first = bytes_of o (length front) x in
      let z = spelled_type (type_said y) ++ 125 ∷ r in
      let second = value_text o y ++ 125 ∷ rest in
      let text = value_text o x ++ 32 ∷ second in
      ap₂ (λ (ts b : List ℕ). read_element inner ts out b) (entry_regrouped (type_said x) (type_said y) r) (entry_text (value_text o x) (value_text o y) rest)
      ∙ (then_is _ _ _ _ (plain (type_said x) inner front z text key ∙ reads x k o front z (32 ∷ second) (omega (arith, d, max_left (depth_said x) (depth_said y))) w.0 (element_type (type_said x) key) refl)
      ((then_is _ _ _ _ (plain (type_said y) inner (front ++ first) (125 ∷ r) second u.1 ∙ reads y k o (front ++ first) (125 ∷ r) (125 ∷ rest) (omega (arith, d, max_right (depth_said x) (depth_said y))) w.1 (element_type (type_said y) u.1) refl)
      ((ap (λ (b : List ℕ). value_read r b rest) (entry_bytes o out x y))))))
    where
      entry_bytes : (o : Order) (out : List ℕ) (x y : Said) → (let front = with_gap 8 out in let next = front ++ bytes_of o (length front) x in next ++ bytes_of o (length next) y ≡ out ++ bytes_of o (length out) (says_entry x y))
      entry_bytes o out x y =
          let p = length out in
          let front = with_gap 8 out in
          let q = p + padding 8 p in
          ap (λ (m : ℕ). front ++ bytes_of o (length front) x ++ bytes_of o m y) (length-append front (bytes_of o (length front) x))
          ∙ ap (λ (m : ℕ). front ++ bytes_of o m x ++ bytes_of o (m + length (bytes_of o m x)) y) (after_gap 8 out)
          ∙ grouped out (zeros 8 p) (bytes_of o q x) (bytes_of o (q + length (bytes_of o q x)) y)
        where
          grouped : (a b c d : List ℕ) → a ++ b ++ c ++ d ≡ a ++ (b ++ c ++ d)
          grouped a b c d = simp append_assoc

  items_read : (vs : Saids) (t : Complete) (k fuel : ℕ) (o : Order) (out r rest : List ℕ) → depths_said vs < suc k → all_in_range vs ≡ true → are_typed t vs ≡ true → is_element_type t ≡ true → length (others_text o vs) < fuel → read_items (λ bytes tail. read_element (read_within (suc k) o) (spelled_type t ++ r) bytes tail) fuel out (others_text o vs ++ 93 ∷ rest) ≡ bytes_read (out ++ bytes_of_all o (length out) vs) rest
  items_read vs t k zero o out r rest d i h c f = absurd (omega (arith, f))
  items_read no_more t k (suc fuel) o out r rest d i h c f = ap (λ (b : List ℕ). bytes_read b rest) (sym (append-nil out))
  items_read (more v vs) t k (suc fuel) o out r rest d i h c f =
      let a = and_parts (is_typed t v) (are_typed t vs) h in
      let w = and_parts (in_range v) (all_in_range vs) i in
      let others = others_text o vs ++ 93 ∷ rest in
      let item : List ℕ → Text → Option Value = λ bytes tail. read_element (read_within (suc k) o) (spelled_type t ++ r) bytes tail in
      ap (λ (b : List ℕ). read_items item (suc fuel) out b) (next_text (value_text o v) (others_text o vs) (93 ∷ rest))
      ∙ (then_is _ _ _ _ (element_read v t k o out r others a.0 (λ e. reads v k o out r others (omega (arith, d, max_left (depth_said v) (depths_said vs))) w.0 e (others_stop vs o 93 rest refl)) c)
      (items_read vs t k fuel o (out ++ bytes_of o (length out) v) r rest (omega (arith, d, max_right (depth_said v) (depths_said vs))) w.1 a.1 c (omega (arith, f, length-append (32 ∷ value_text o v) (others_text o vs)))
      ∙ ap (λ (b : List ℕ). bytes_read b rest) (then_bytes o out v vs)))

  members_read : (vs : Saids) (k fuel : ℕ) (o : Order) (out r rest : List ℕ) → depths_said vs < suc k → all_in_range vs ≡ true → are_complete (types_said vs) ≡ true → length (spelled_members (types_said vs)) < fuel → read_members (read_within (suc k) o) fuel (spelled_members (types_said vs) ++ 41 ∷ r) out (others_text o vs ++ 41 ∷ rest) ≡ value_read r (out ++ bytes_of_all o (length out) vs) rest
  members_read vs k zero o out r rest d i c f = absurd (omega (arith, f))
  members_read no_more k (suc fuel) o out r rest d i c f =
      (ap (λ (b : List ℕ). value_read r b rest) (sym (append-nil out)))
  members_read (more v vs) k (suc fuel) o out r rest d i c f =
      let w = and_parts (in_range v) (all_in_range vs) i in
      let u = and_parts (is_complete (type_said v)) (are_complete (types_said vs)) c in
      let others = others_text o vs ++ 41 ∷ rest in
      let inner = read_within (suc k) o in
      let spelling = spelled_type (type_said v) in
      let members = spelled_members (types_said vs) ++ 41 ∷ r in
      let text = value_text o v ++ others in
      ap₂ (λ (ts b : List ℕ). read_members inner (suc fuel) ts out b) (append_assoc spelling (spelled_members (types_said vs)) (41 ∷ r)) (next_text (value_text o v) (others_text o vs) (41 ∷ rest))
      ∙ ap (λ (b : Bool). cond b (after_byte 41 (32 ∷ text) >>= λ tail. value_read (drop 1 (spelling ++ members)) out tail) (after_byte 32 (32 ∷ text) >>= λ next. inner (spelling ++ members) out next >>= λ x. read_members inner fuel x.0 x.1 x.2)) (type_front (type_said v) members).1
      ∙ (then_is _ _ _ _ (plain (type_said v) inner out members text u.0 ∙ reads v k o out members others (omega (arith, d, max_left (depth_said v) (depths_said vs))) w.0 (element_type (type_said v) u.0) (others_stop vs o 41 rest refl))
      (members_read vs k fuel o (out ++ bytes_of o (length out) v) r rest (omega (arith, d, max_right (depth_said v) (depths_said vs))) w.1 u.1 (omega (arith, f, length-append spelling (spelled_members (types_said vs)), type_len (type_said v)))
      ∙ ap (λ (b : List ℕ). value_read r b rest) (then_bytes o out v vs)))
