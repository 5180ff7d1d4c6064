-- The text of each message of the form is read, and that of a valid message gives the bytes that it spells.
use Rattle.std.proofs.Common.{◌≡◌, ℕ, suc, ◌+◌, ◌-◌, ◌^◌, ◌<◌, ◌≤◌, true, List, [], ◌∷◌, ◌++◌, length, map, Option, Some, None, refl, sym, ap, ap₂, ◌∙◌, append_assoc, arith, codes, decimal, replicate}
use Rattle.std.specs.Prelude.{◌&&◌, nat_lt}
use Rattle.std.specs.List.{flat_map}
use Rattle.std.specs.Int.{w8, w32}
use Rattle.std.proofs.lemmas.List.{length-append, length-replicate, append-nil}
use Rattle.std.proofs.lemmas.Bool.{and_parts, ltb-true}
use Rattle.std.proofs.lemmas.Option.{same_Some}
use Rattle.byte_lists.proofs.Options.{some}
use Rattle.dbus_types.specs.Signature.{byte, spelled_types}
use Rattle.dbus_values.specs.Values.{Value, a_number, a_variant, padding, zeros, number_bytes, spelled, is_value, is_within}
use Rattle.dbus_values.proofs.ValueLaws.{then_is, wide_32}
use Rattle.dbus_values.specs.declared.Order.{Order}
use Rattle.dbus_values.specs.declared.Order.TheVariants.{Little, Big}
use Rattle.dbus_header.specs.Message.{Field, Message, Valid, order_byte, field_value, spelled_list, spelled_fields, body_place, spell, are_valid, are_valid_fields}
use Rattle.dbus_header.proofs.MessageAgain.{spelled_from, spell_is}
use Rattle.dbus_header.proofs.Aligned.{no_gap_1}
use Rattle.message_text.specs.MessageText.{Text, SaidMessage, said, said_field, said_message, type_said, value_text, first_line, field_line, body_line, text_of, message_text, InShape}
use Rattle.message_text.specs.Reading.{Bytes, order_at, head_bytes, read_head, or_none, read_body, read_message, with_len, with_gap, no_len}
use Rattle.message_text.proofs.ShapeLaws.{said_shape}
use Rattle.message_text.proofs.PrintMessageLaws.{field_parts}
use Rattle.message_text.proofs.TextBytes.{bytes_same}
use Rattle.message_text.proofs.WordLaws.{up_to_read}
use Rattle.message_text.proofs.ReadLaws.{len_written}
use Rattle.message_text.proofs.LinesRead.{field_bytes, fields_bytes, values_bytes, types_found, types_same, fields_read, values_read}

-- ---- the bytes that a text gives

abbrev pub header : SaidMessage → List ℕ
header s = with_gap 8 (with_len s.order 12 16 (head_bytes s.order s.kind s.flags s.serial ++ fields_bytes s.order 16 s.fields))

abbrev pub message_bytes : SaidMessage → List ℕ
message_bytes s = with_len s.order 4 (length (header s)) (header s ++ values_bytes s.order (length (header s)) s.body)

-- ---- the first line

order_read : (o : Order) (r : Text) → order_at (order_byte o ∷ r) ≡ some {A = Order × Text} (o, r)
order_read Little r = refl
order_read Big r = refl

line_text : (o k f n rest : List ℕ) → (o ++ k ++ 32 ∷ f ++ 32 ∷ n ++ 10 ∷ []) ++ rest ≡ o ++ (k ++ 32 ∷ (f ++ 32 ∷ (n ++ 10 ∷ rest)))
line_text o k f n rest = simp append_assoc

pub head_read : (s : SaidMessage) (rest : Text) → s.kind < 256 → s.flags < 256 → s.serial < 2 ^ 32 → read_head (first_line s ++ rest) ≡ Some ((s.order, head_bytes s.order s.kind s.flags s.serial), rest)
head_read s rest k f n =
    let d = 10 ∷ rest in
    let c = decimal s.serial ++ d in
    let b = decimal s.flags ++ 32 ∷ c in
    let a = decimal s.kind ++ 32 ∷ b in
    ap read_head (line_text (order_byte s.order ∷ 32 ∷ []) (decimal s.kind) (decimal s.flags) (decimal s.serial) rest)
    ∙ then_is _ _ _ _ (order_read s.order (32 ∷ a))
    ((then_is _ _ _ _ (up_to_read (2 ^ 8 - 1) s.kind (32 ∷ b) (omega arith) (omega arith) refl)
    ((then_is _ _ _ _ (up_to_read (2 ^ 8 - 1) s.flags (32 ∷ c) (omega arith) (omega arith) refl)
    ((then_is _ _ _ _ (up_to_read (2 ^ 32 - 1) s.serial d (omega arith) (omega arith) refl)
    (refl)))))))

head_len : (o : Order) (k f n : ℕ) → length (head_bytes o k f n) ≡ 16
head_len Little k f n = refl
head_len Big k f n = refl

-- ---- the whole text

pub text_parts : (s : SaidMessage) → text_of s ≡ first_line s ++ (flat_map (field_line s.order) s.fields ++ (codes "body" ++ (flat_map (λ v. 32 ∷ value_text s.order v) s.body ++ 10 ∷ [])))
unfolding text_of
text_parts s =
    append_assoc (first_line s) (flat_map (field_line s.order) s.fields) (body_line s.order s.body)
    ∙ ap (λ (t : Text). first_line s ++ (flat_map (field_line s.order) s.fields ++ t)) (append_assoc (codes "body") (flat_map (λ v. 32 ∷ value_text s.order v) s.body) (10 ∷ []))

pub shape_read : (s : SaidMessage) → InShape s → read_message (text_of s) ≡ Some (message_bytes s)
unfolding read_message
shape_read s h =
    let o = s.order in
    let head = head_bytes o s.kind s.flags s.serial in
    let lines = flat_map (field_line o) s.fields in
    let values = flat_map (λ v. 32 ∷ value_text o v) s.body ++ 10 ∷ [] in
    let text = lines ++ (codes "body" ++ values) in
    let types = spelled_types (map type_said s.body) in
    let on : Option (List ℕ) × Bytes → Option (List ℕ) = λ x. read_body o (or_none x.0) (with_gap 8 (with_len o 12 16 x.1.0)) x.1.1 in
    ap read_message (text_parts s)
    ∙ then_is (read_head (first_line s ++ text)) _ _ _ (head_read s text h.numbers.0 h.numbers.1 h.numbers.2)
    (then_is _ _ _ _ (fields_read s.fields (suc (length text)) o None head values h.fields (omega (arith, length-append lines (codes "body" ++ values))))
    (ap (λ (m : ℕ). read_body o (or_none (types_found None s.fields)) (with_gap 8 (with_len o 12 16 (head ++ fields_bytes o m s.fields))) values) (head_len o s.kind s.flags s.serial)
    ∙ ap (λ (ts : List ℕ). read_body o ts (header s) values) (types_same s.fields ∙ sym h.types)
    ∙ then_is _ _ _ _ (values_read s.body (suc (length types)) o (header s) [] h.body (omega arith))
    (refl)))

-- ---- a valid message's bytes

code_bytes : (o : Order) (c : ℕ) → c < 256 → number_bytes o w8 c ≡ c ∷ []
code_bytes Little c low = ap (λ (x : ℕ). x ∷ []) (omega arith)
code_bytes Big c low = ap (λ (x : ℕ). x ∷ []) (omega arith)

field_same : (f : Field) (o : Order) (p : ℕ) → is_value o p (field_value f) ≡ true → field_bytes o p (said_field f) ≡ spelled o p (field_value f)
field_same f o p i =
    let q = p + padding 8 p in
    let first = spelled o q (a_number byte f.code) in
    let b = and_parts (nat_lt f.code 256) (is_value o (q + length first) (a_variant f.value) && true) i in
    let c = and_parts (is_value o (q + length first) (a_variant f.value)) true b.1 in
    let code = code_bytes o f.code (ltb-true f.code 256 b.0) in
    let one : length first ≡ 1 = ap (λ (n : ℕ). length (zeros_of n ++ number_bytes o w8 f.code)) (no_gap_1 q) ∙ ap length code in
    let sound : is_value o (q + 1) (a_variant f.value) ≡ true = ap (λ (n : ℕ). is_value o (q + n) (a_variant f.value)) (sym one) ∙ c.0 in
    ap (λ (b : List ℕ). zeros 8 p ++ (f.code ∷ b)) (bytes_same (a_variant f.value) o (q + 1) sound ∙ sym (append-nil (spelled o (q + 1) (a_variant f.value))))
    ∙ sym (ap (λ (t : List ℕ). zeros 8 p ++ (t ++ (spelled o (q + length t) (a_variant f.value) ++ []))) code)
    ∙ sym (field_parts f o p [])
    ∙ append-nil (spelled o p (field_value f))
  where
    zeros_of : ℕ → List ℕ
    zeros_of n = replicate n 0

fields_same : (fields : List Field) (o : Order) (p : ℕ) → are_valid_fields o p fields ≡ true → fields_bytes o p (map said_field fields) ≡ spelled_from o p fields
fields_same [] o p i = refl
fields_same (f ∷ fields) o p i =
    let first = spelled o p (field_value f) in
    let a = and_parts (is_within 64 (a_variant f.value) && is_value o p (field_value f)) (are_valid_fields o (p + length first) fields) i in
    let b = and_parts (is_within 64 (a_variant f.value)) (is_value o p (field_value f)) a.0 in
    ap (λ (t : List ℕ). t ++ fields_bytes o (p + length t) (map said_field fields)) (field_same f o p b.1)
    ∙ ap (λ (t : List ℕ). first ++ t) (fields_same fields o (p + length first) a.1)

values_same : (vs : List Value) (o : Order) (p : ℕ) → are_valid o p vs ≡ true → values_bytes o p (map said vs) ≡ spelled_list o p vs
values_same [] o p i = refl
values_same (v ∷ vs) o p i =
    let first = spelled o p v in
    let a = and_parts (is_within 64 v && is_value o p v) (are_valid o (p + length first) vs) i in
    let b = and_parts (is_within 64 v) (is_value o p v) a.0 in
    ap (λ (t : List ℕ). t ++ values_bytes o (p + length t) (map said vs)) (bytes_same v o p b.1)
    ∙ ap (λ (t : List ℕ). first ++ t) (values_same vs o (p + length first) a.1)

module _ (m : Message) (valid : Valid m) where
  abbrev o : Order
  o = m.order

  abbrev front : List ℕ
  front = order_byte o ∷ m.kind ∷ m.flags ∷ 1 ∷ []

  abbrev serial : List ℕ
  serial = number_bytes o w32 m.serial

  abbrev fields : List ℕ
  fields = spelled_fields o m.fields

  abbrev gap : List ℕ
  gap = zeros 8 (16 + length fields)

  abbrev place : ℕ
  place = body_place (length fields)

  abbrev body : List ℕ
  body = spelled_list o place m.body

  serial_len : length (front ++ no_len ++ serial) ≡ 12
  serial_len = omega (arith, length-append (front ++ no_len) serial, wide_32.len o m.serial)

  counted : with_len o 12 16 (head_bytes o m.kind m.flags m.serial ++ fields) ≡ front ++ no_len ++ serial ++ number_bytes o w32 (length fields) ++ fields
  counted =
      let a = front ++ no_len ++ serial in
      ap (λ (t : List ℕ). with_len o 12 16 (t ++ fields)) (sym (append-nil (a ++ no_len)))
      ∙ ap₂ (λ (x y : ℕ). with_len o x y (a ++ no_len ++ [] ++ fields)) (sym serial_len) (sym (ap length (append-nil (a ++ no_len)) ∙ length-append a no_len ∙ ap (λ (x : ℕ). x + 4) serial_len))
      ∙ len_written o a no_len [] fields refl
      ∙ ap (λ (n : ℕ). a ++ number_bytes o w32 n ++ fields) (omega (arith, valid.fields_len))

  header_is : header (said_message m) ≡ front ++ no_len ++ (serial ++ number_bytes o w32 (length fields) ++ fields ++ gap)
  header_is =
      let a = front ++ no_len ++ serial ++ number_bytes o w32 (length fields) ++ fields in
      let len : length a ≡ 16 + length fields = omega (arith, length-append (front ++ no_len ++ serial ++ number_bytes o w32 (length fields)) fields, length-append (front ++ no_len ++ serial) (number_bytes o w32 (length fields)), serial_len, wide_32.len o (length fields)) in
      ap (λ (t : List ℕ). with_gap 8 (with_len o 12 16 (head_bytes o m.kind m.flags m.serial ++ t))) (fields_same m.fields o 16 valid.field_values)
      ∙ ap (with_gap 8) counted
      ∙ ap (λ (n : ℕ). a ++ zeros 8 n) len
      ∙ grouped (front ++ no_len) serial (number_bytes o w32 (length fields)) fields gap
    where
      grouped : (a b c d e : List ℕ) → a ++ b ++ c ++ d ++ e ≡ a ++ (b ++ c ++ d ++ e)
      grouped a b c d e = simp append_assoc

  header_len : length (header (said_message m)) ≡ place
  header_len =
      ap length header_is
      ∙ omega (arith, length-append (front ++ no_len) (serial ++ number_bytes o w32 (length fields) ++ fields ++ gap), length-append (serial ++ number_bytes o w32 (length fields) ++ fields) gap, length-append (serial ++ number_bytes o w32 (length fields)) fields, length-append serial (number_bytes o w32 (length fields)), wide_32.len o m.serial, wide_32.len o (length fields), length-replicate {A = ℕ} (padding 8 (16 + length fields)) 0)

  body_short : length body ≤ 2 ^ 27
  unfolding spell
  body_short = omega (arith, valid.len, length-append (front ++ number_bytes o w32 (length body) ++ serial ++ number_bytes o w32 (length fields) ++ fields ++ gap) body)

  pub valid_bytes : message_bytes (said_message m) ≡ spell m
  unfolding spell
  valid_bytes =
      let tail = serial ++ number_bytes o w32 (length fields) ++ fields ++ gap in
      let h = front ++ no_len ++ tail in
      ap (λ (x : ℕ). with_len o 4 (length (header (said_message m))) (header (said_message m) ++ values_bytes o x (map said m.body))) header_len
      ∙ ap (λ (b : List ℕ). with_len o 4 (length (header (said_message m))) (header (said_message m) ++ b)) (values_same m.body o place valid.body_values)
      ∙ ap (λ (t : List ℕ). with_len o 4 (length t) (t ++ body)) header_is
      ∙ len_written o front no_len tail body refl
      ∙ ap (λ (n : ℕ). front ++ number_bytes o w32 n ++ (tail ++ body)) (omega (arith, body_short))
      ∙ grouped front (number_bytes o w32 (length body)) serial (number_bytes o w32 (length fields)) fields gap body
    where
      grouped : (a b c d e f g : List ℕ) → a ++ b ++ (c ++ d ++ e ++ f ++ g) ≡ a ++ b ++ c ++ d ++ e ++ f ++ g
      grouped a b c d e f g = simp append_assoc

-- the text of a valid message gives its bytes
pub message_read : (m : Message) → Valid m → read_message (message_text m) ≡ Some (spell m)
message_read m valid = shape_read (said_message m) (said_shape m valid) ∙ ap (λ (b : List ℕ). some b) (valid_bytes m valid)

-- so no other valid message has it
pub one_message : (m n : Message) → Valid m → Valid n → message_text m ≡ message_text n → m ≡ n
one_message m n p q e =
    let same : spell m ≡ spell n = same_Some (spell m) (spell n) (sym (message_read m p) ∙ ap read_message e ∙ message_read n q) in
    (spell_is m n [] [] p q (ap (λ (b : List ℕ). b ++ []) same)).0
