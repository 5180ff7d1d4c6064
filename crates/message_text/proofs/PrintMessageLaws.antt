-- A valid message is printed as its text.
use Rattle.std.proofs.Common.{◌≡◌, ℕ, zero, suc, ◌+◌, ◌^◌, ◌<◌, ◌≤◌, Bool, true, false, cond, List, [], ◌∷◌, ◌++◌, length, map, take, drop, replicate, Option, Some, refl, sym, ap, ap₂, ◌∙◌, append_assoc, arith, codes, decimal, option_map}
use Rattle.std.specs.Prelude.{◌&&◌, nat_lt}
use Rattle.std.specs.List.{list_all, flat_map}
use Rattle.std.specs.Int.{w8}
use Rattle.std.proofs.lemmas.List.{length-append, length-replicate, append-nil}
use Rattle.std.proofs.lemmas.Bool.{and_parts, ltb-true, leb-true}
use Rattle.std.proofs.lemmas.Option.{same_Some}
use Rattle.byte_lists.specs.Bytes.{is_empty}
use Rattle.byte_lists.proofs.Bytes.{not_empty}
use Rattle.dbus_types.specs.Signature.{Complete, byte, spelled_type, spelled_types, is_signature, is_complete}
use Rattle.dbus_types.proofs.SignatureLaws.{spelled_types_is}
use Rattle.dbus_values.specs.Values.{Value, a_number, a_variant, type_of, padding, zeros, number_bytes, spelled, spelled_signature, depth, is_value, is_within}
use Rattle.dbus_values.specs.Reading.{At}
use Rattle.dbus_values.proofs.ValueLaws.{at, wide, again_32}
use Rattle.dbus_values.proofs.ValueAgain.{element_type, spelled_pos, one_complete}
use Rattle.dbus_values.proofs.WalkNumbers.{type_len}
use Rattle.dbus_values.specs.declared.Order.{Order}
use Rattle.dbus_values.specs.declared.Order.TheVariants.{Little, Big}
use Rattle.dbus_header.specs.Message.{Field, Message, Valid, field_value, spelled_list, spelled_fields, body_place, spell, stated, signature, are_valid, are_valid_fields}
use Rattle.dbus_header.specs.Contents.{Contents, contents_of, message_of, body_bytes}
use Rattle.dbus_header.proofs.MessageAgain.{spelled_from, head, head_len, stated_complete}
use Rattle.dbus_header.proofs.Aligned.{no_gap_1}
use Rattle.message_text.specs.MessageText.{Text, said, said_field, value_text, field_line, message_text, text_of}
use Rattle.message_text.specs.Printing.{taken, onward, number_in, Printed, Typed, print_typed, print_within, print_field, print_fields, print_values, head_line, fields_in, print_message, body_in}
use Rattle.message_text.proofs.ShapeLaws.{type_same}
use Rattle.message_text.proofs.PrintLaws.{printed, taken_front, onward_front, gap_front, number_front, typed_shown, plain, shown}

-- ---- fields

field_text : (out c s a : List ℕ) → out ++ c ++ 32 ∷ [] ++ s ++ 32 ∷ [] ++ a ++ 10 ∷ [] ≡ out ++ (c ++ 32 ∷ s ++ 32 ∷ a ++ 10 ∷ [])
field_text out c s a = simp append_assoc

lines_text : (out a b : List ℕ) → out ++ a ++ b ≡ out ++ (a ++ b)
lines_text out a b = append_assoc out a b

-- a field's spelling in parts
pub field_parts : (f : Field) (o : Order) (p : ℕ) (rest : List ℕ) → (let q = p + padding 8 p in let c = number_bytes o w8 f.code in spelled o p (field_value f) ++ rest ≡ zeros 8 p ++ (c ++ (spelled o (q + length c) (a_variant f.value) ++ rest)))
field_parts f o p rest =
    let q = p + padding 8 p in
    let c = number_bytes o w8 f.code in
    let first = spelled o q (a_number byte f.code) in
    let is : first ≡ c = ap (λ (n : ℕ). replicate n 0 ++ c) (no_gap_1 q) in
    let v = spelled o (q + length first) (a_variant f.value) in
    append_assoc (zeros 8 p ++ first) (v ++ []) rest
    ∙ append_assoc (zeros 8 p) first ((v ++ []) ++ rest)
    ∙ ap (λ (t : List ℕ). zeros 8 p ++ (first ++ (t ++ rest))) (append-nil v)
    ∙ ap (λ (t : List ℕ). zeros 8 p ++ (t ++ (spelled o (q + length t) (a_variant f.value) ++ rest))) is

record FieldIs (f : Field) (o : Order) (p : ℕ) : Type 0 where
  low : f.code < 256
  deep : depth f.value < 64
  complete : is_complete (type_of f.value) ≡ true
  sound : (let q = p + padding 8 p + 1 in is_value o (q + length (spelled_signature (type_of f.value ∷ []))) f.value ≡ true)

field_sound : (f : Field) (o : Order) (p : ℕ) → is_within 64 (a_variant f.value) ≡ true → is_value o p (field_value f) ≡ true → FieldIs f o p
field_sound f o p d i =
    let start = p + padding 8 p in
    let first = spelled o start (a_number byte f.code) in
    let after = start + length first in
    let len : length first ≡ 1 = length-append (zeros 1 start) (number_bytes o w8 f.code) ∙ omega (arith, length-replicate {A = ℕ} (padding 1 start) 0, no_gap_1 start, (wide byte).len o f.code) in
    let b = and_parts (nat_lt f.code 256) (is_value o after (a_variant f.value) && true) i in
    let c = and_parts (is_value o after (a_variant f.value)) true b.1 in
    let e = and_parts (is_signature (type_of f.value ∷ [])) (is_value o (after + length (spelled_signature (type_of f.value ∷ []))) f.value) c.0 in
    record {
      low = ltb-true f.code 256 b.0;
      deep = omega (arith, leb-true (1 + depth f.value) 64 d);
      complete = one_complete (type_of f.value) e.0;
      sound = ap (λ (n : ℕ). is_value o (start + n + length (spelled_signature (type_of f.value ∷ []))) f.value) (sym len) ∙ e.1;
    }

field_shown : (f : Field) (o : Order) (p : ℕ) (out rest : List ℕ) → is_within 64 (a_variant f.value) ≡ true → is_value o p (field_value f) ≡ true → print_field o out (at p (spelled o p (field_value f) ++ rest)) ≡ printed (out ++ field_line o (said_field f)) (at (p + length (spelled o p (field_value f))) rest)
field_shown f o p out rest d i =
    let is = field_sound f o p d i in
    let v = f.value in
    let q = p + padding 8 p in
    let c = number_bytes o w8 f.code in
    let clen : length c ≡ 1 = (wide byte).len o f.code in
    let t = spelled o (q + length c) (a_variant v) in
    let t1 = spelled o (q + 1) (a_variant v) in
    let z = q + 1 + length (spelled_signature (type_of v ∷ [])) in
    let s = spelled_type (type_of v) in
    let front = out ++ decimal f.code ++ 32 ∷ [] in
    let inner = print_within 64 o in
    let whole : Printed → Printed = λ x. printed (x.0 ++ 10 ∷ []) x.1 in
    let by : At → Printed = λ start. whole (print_typed inner (out ++ decimal (number_in o (taken 1 start)) ++ 32 ∷ []) (onward 1 start)) in
    let len : length (spelled o p (field_value f)) ≡ padding 8 p + 1 + length t1 = (
    ap length (sym (append-nil (spelled o p (field_value f))) ∙ field_parts f o p [] ∙ ap (λ (n : ℕ). zeros 8 p ++ (c ++ (spelled o (q + n) (a_variant v) ++ []))) clen)
    ∙ omega (arith, length-append (zeros 8 p) (c ++ (t1 ++ [])), length-append c (t1 ++ []), length-append t1 [], length-replicate {A = ℕ} (padding 8 p) 0, clen)
    ) in
    ap (λ (b : List ℕ). print_field o out (at p b)) (field_parts f o p rest ∙ ap (λ (n : ℕ). zeros 8 p ++ (c ++ (spelled o (q + n) (a_variant v) ++ rest))) clen)
    ∙ ap by (gap_front 8 p (c ++ (t1 ++ rest)))
    ∙ ap₂ (λ (n : ℕ) (a : At). whole (print_typed inner (out ++ decimal n ++ 32 ∷ []) a)) (number_front byte o f.code q (t1 ++ rest) (omega (arith, is.low))) (onward_front 1 q c (t1 ++ rest) clen)
    ∙ ap whole (typed_shown inner v o (q + 1) front rest (plain (type_of v) inner (front ++ s ++ 32 ∷ []) [] (at z (spelled o z v ++ rest)) is.complete ∙ shown v 63 o z (front ++ s ++ 32 ∷ []) [] rest (omega (arith, is.deep)) is.sound (element_type (type_of v) is.complete)))
    ∙ ap₂ printed (field_text out (decimal f.code) s (value_text o (said v)) ∙ ap (λ (u : Complete). out ++ (decimal f.code ++ 32 ∷ spelled_type u ++ 32 ∷ value_text o (said v) ++ 10 ∷ [])) (sym (type_same v))) (ap (λ (n : ℕ). at n rest) (omega (arith, len)))

fields_shown : (fields : List Field) (fuel : ℕ) (o : Order) (p : ℕ) (out : List ℕ) → are_valid_fields o p fields ≡ true → length (spelled_from o p fields) ≤ fuel → print_fields o fuel out (at p (spelled_from o p fields)) ≡ out ++ flat_map (field_line o) (map said_field fields)
fields_shown [] zero o p out i h = sym (append-nil out)
fields_shown [] (suc fuel) o p out i h = sym (append-nil out)
fields_shown (f ∷ fields) zero o p out i h = absurd (omega (arith, h, spelled_pos (field_value f) o p, length-append (spelled o p (field_value f)) (spelled_from o (p + length (spelled o p (field_value f))) fields)))
fields_shown (f ∷ fields) (suc fuel) o p out i h =
    let first = spelled o p (field_value f) in
    let next = p + length first in
    let others = spelled_from o next fields in
    let t = and_parts (is_within 64 (a_variant f.value) && is_value o p (field_value f)) (are_valid_fields o next fields) i in
    let u = and_parts (is_within 64 (a_variant f.value)) (is_value o p (field_value f)) t.0 in
    let there : is_empty (first ++ others) ≡ false = not_empty (first ++ others) (omega (arith, length-append first others, spelled_pos (field_value f) o p)) in
    ap (λ (b : Bool). cond b out (let x = print_field o out (at p (first ++ others)) in print_fields o fuel x.0 x.1)) there
    ∙ ap (λ (x : Printed). print_fields o fuel x.0 x.1) (field_shown f o p out others u.0 u.1)
    ∙ fields_shown fields fuel o next (out ++ field_line o (said_field f)) t.1 (omega (arith, h, spelled_pos (field_value f) o p, length-append first others))
    ∙ append_assoc out (field_line o (said_field f)) (flat_map (field_line o) (map said_field fields))

-- ---- the body

abbrev after_space : Order → Value → Text
after_space o v = 32 ∷ value_text o (said v)

values_shown : (vs : List Value) (fuel : ℕ) (o : Order) (p : ℕ) (out rest : List ℕ) → are_valid o p vs ≡ true → list_all is_complete (map type_of vs) ≡ true → length (spelled_types (map type_of vs)) ≤ fuel →
    print_values o fuel out (spelled_types (map type_of vs)) (at p (spelled_list o p vs ++ rest)) ≡ out ++ flat_map (λ v. 32 ∷ value_text o v) (map said vs)
values_shown [] zero o p out rest i c h = sym (append-nil out)
values_shown [] (suc fuel) o p out rest i c h = sym (append-nil out)
values_shown (v ∷ vs) zero o p out rest i c h = absurd (omega (arith, h, type_len (type_of v), length-append (spelled_type (type_of v)) (spelled_types (map type_of vs))))
values_shown (v ∷ vs) (suc fuel) o p out rest i c h =
    let first = spelled o p v in
    let next = p + length first in
    let others = spelled_list o next vs in
    let s = spelled_type (type_of v) in
    let types = spelled_types (map type_of vs) in
    let t = and_parts (is_within 64 v && is_value o p v) (are_valid o next vs) i in
    let u = and_parts (is_within 64 v) (is_value o p v) t.0 in
    let k = and_parts (is_complete (type_of v)) (list_all is_complete (map type_of vs)) c in
    let there : is_empty (s ++ types) ≡ false = not_empty (s ++ types) (omega (arith, length-append s types, type_len (type_of v))) in
    ap (λ (b : List ℕ). print_values o (suc fuel) out (s ++ types) (at p b)) (append_assoc first others rest)
    ∙ ap (λ (b : Bool). cond b out (let x = print_within 65 o (out ++ 32 ∷ []) (s ++ types) (at p (first ++ (others ++ rest))) in print_values o fuel x.0 x.1 x.2)) there
    ∙ ap (λ (x : Typed). print_values o fuel x.0 x.1 x.2) (plain (type_of v) (print_within 65 o) (out ++ 32 ∷ []) types (at p (first ++ (others ++ rest))) k.0 ∙ shown v 64 o p (out ++ 32 ∷ []) types (others ++ rest) (omega (arith, leb-true (depth v) 64 u.0)) u.1 (element_type (type_of v) k.0))
    ∙ values_shown vs fuel o next (out ++ 32 ∷ [] ++ value_text o (said v)) rest t.1 k.1 (omega (arith, h, length-append s types, type_len (type_of v)))
    ∙ next_line out (value_text o (said v)) (flat_map (λ w. 32 ∷ value_text o w) (map said vs))
  where
    next_line : (out a b : List ℕ) → out ++ 32 ∷ [] ++ a ++ b ≡ out ++ (32 ∷ a ++ b)
    next_line out a b = simp append_assoc

-- ---- the message

len_in : (o : Order) (k f b s n : ℕ) (t : List ℕ) → n < 2 ^ 32 → number_in o (take 4 (drop 12 (head o k f b s n ++ t))) ≡ n
len_in Little k f b s n t low = again_32 Little n low
len_in Big k f b s n t low = again_32 Big n low

after_head : (o : Order) (k f b s n : ℕ) (t : List ℕ) → drop 16 (head o k f b s n ++ t) ≡ t
after_head Little k f b s n t = refl
after_head Big k f b s n t = refl

module _ (m : Message) (valid : Valid m) where
  abbrev fields_bytes : List ℕ
  fields_bytes = spelled_fields m.order m.fields

  abbrev gap : List ℕ
  gap = zeros 8 (16 + length fields_bytes)

  abbrev body : List ℕ
  body = body_bytes m

  abbrev the_head : List ℕ
  the_head = head m.order m.kind m.flags (length body) m.serial (length fields_bytes)

  spell_parts : spell m ≡ the_head ++ (fields_bytes ++ (gap ++ body))
  unfolding spell
  spell_parts = append_assoc (the_head ++ fields_bytes) gap body ∙ append_assoc the_head fields_bytes (gap ++ body)

  spell_len : length (spell m) ≡ body_place (length fields_bytes) + length body
  unfolding spell
  spell_len = omega (arith, length-append (the_head ++ fields_bytes ++ gap) body, length-append (the_head ++ fields_bytes) gap, length-append the_head fields_bytes, head_len m.order m.kind m.flags (length body) m.serial (length fields_bytes), length-replicate {A = ℕ} (padding 8 (16 + length fields_bytes)) 0)

  fields_at_16 : fields_in m.order (spell m) ≡ at 16 fields_bytes
  fields_at_16 =
      let rest = fields_bytes ++ (gap ++ body) in
      ap (λ (t : List ℕ). fields_in m.order t) spell_parts
      ∙ ap₂ (λ (n : ℕ) (t : List ℕ). at 16 (taken n (at 16 t))) (len_in m.order m.kind m.flags (length body) m.serial (length fields_bytes) rest (omega (arith, valid.fields_len))) (after_head m.order m.kind m.flags (length body) m.serial (length fields_bytes) rest)
      ∙ ap (λ (t : List ℕ). at 16 t) (taken_front (length fields_bytes) 16 fields_bytes (gap ++ body) refl)

  types_are : stated m.fields ≡ map type_of m.body
  types_are = spelled_types_is (stated m.fields) (map type_of m.body) valid.agreement

  pub message_shown : print_message m.order m.kind m.flags m.serial (signature m) body (spell m) ≡ message_text m
  unfolding text_of
  message_shown =
      let line = head_line m.order m.kind m.flags m.serial in
      let lines = flat_map (field_line m.order) (map said_field m.fields) in
      let place = body_place (length fields_bytes) in
      let values : Text → At → Text = λ out a. print_values m.order (length (signature m)) (out ++ codes "body") (signature m) a ++ 10 ∷ [] in
      let words = flat_map (λ v. 32 ∷ value_text m.order v) (map said m.body) in
      ap (λ (a : At). values (print_fields m.order (length a.bytes) line a) (body_in (spell m) body)) fields_at_16
      ∙ ap (λ (out : Text). values out (body_in (spell m) body)) (fields_shown m.fields (length fields_bytes) m.order 16 line valid.field_values (omega arith))
      ∙ ap (λ (q : ℕ). values (line ++ lines) (at q body)) (omega (arith, spell_len))
      ∙ ap (λ (b : List ℕ). values (line ++ lines) (at place b)) (sym (append-nil body))
      ∙ ap (λ (t : Text). t ++ 10 ∷ []) (values_shown m.body (length (signature m)) m.order place (line ++ lines ++ codes "body") [] valid.body_values (ap (λ (ts : List Complete). list_all is_complete ts) (sym types_are) ∙ stated_complete m.fields m.order 16 valid.field_values) (omega arith))
      ∙ last line lines (codes "body") words
    where
      last : (a b c d : List ℕ) → a ++ b ++ c ++ d ++ 10 ∷ [] ≡ a ++ b ++ (c ++ d ++ 10 ∷ [])
      last a b c d = simp append_assoc

-- what was read of a message is printed as the message's text
pub printed_text : (bytes : List ℕ) (x : Contents) (m : Message) → Valid m × (bytes ≡ spell m) → option_map contents_of (message_of bytes) ≡ Some x → message_of bytes ≡ Some m →
    print_message x.order x.kind x.flags x.serial x.signature x.body bytes ≡ message_text m
printed_text bytes x m of read is =
    let same : x ≡ contents_of m = same_Some x (contents_of m) (sym read ∙ ap (λ (q : Option Message). option_map contents_of q) is) in
    ap₂ (λ (y : Contents) (b : List ℕ). print_message y.order y.kind y.flags y.serial y.signature y.body b) same of.1
    ∙ message_shown m of.0
