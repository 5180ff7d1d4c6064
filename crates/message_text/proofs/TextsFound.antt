-- A text that is read has the form of a message's text.
use Rattle.std.proofs.Common.{◌≡◌, ℕ, zero, suc, ◌+◌, ◌-◌, ◌^◌, ◌<◌, ◌≤◌, Bool, true, false, cond, List, [], ◌∷◌, ◌++◌, length, map, drop, Option, Some, None, refl, sym, ap, ap₂, subst, ◌∙◌, append_assoc, arith, codes, decimal}
use Rattle.std.specs.Prelude.{◌&&◌, ◌==◌, nat_le, nat_eq}
use Rattle.std.specs.List.{list_all, flat_map, starts_with}
use Rattle.std.proofs.lemmas.List.{length-append}
use Rattle.std.proofs.lemmas.Bool.{and_parts, and_from, lt-ltb, le-leb, leb-true, eqb-true}
use Rattle.std.proofs.lemmas.Option.{same_Some}
use Rattle.byte_lists.specs.Bytes.{is_empty}
use Rattle.byte_lists.proofs.Bytes.{not_empty, empty_is}
use Rattle.byte_lists.proofs.Options.{some}
use Rattle.dbus_types.specs.Signature.{Complete, spelled_type, spelled_types, is_signature, is_complete, is_shallow}
use Rattle.dbus_types.proofs.SignatureRead.{signature_of-is}
use Rattle.dbus_values.specs.Reading.{◌>>=◌, when}
use Rattle.dbus_values.proofs.ValueRead.{bound, when_is}
use Rattle.dbus_values.proofs.ValueAgain.{one_complete}
use Rattle.dbus_values.proofs.BodyLaws.{starts-then}
use Rattle.dbus_values.proofs.WalkNumbers.{type_len}
use Rattle.dbus_values.specs.declared.Order.{Order}
use Rattle.dbus_values.specs.declared.Order.TheVariants.{Little, Big}
use Rattle.dbus_header.specs.Message.{order_byte}
use Rattle.message_text.specs.MessageText.{Text, Said, says_number, says_string, says_path, says_signature, says_variant, says_array, says_struct, says_entry, SaidField, SaidMessage, type_said, value_text, field_line, text_of, depth_said, has_shape, field_shape, or_next, types_by_value, body_types, InShape}
use Rattle.message_text.specs.Reading.{Number as NumberAt, Bytes, Value, after_byte, number_to, with_gap, with_len, order_at, head_bytes, read_head, read_typed, read_within, read_field, signature_in, or_else, read_fields, read_values, or_none, read_body, read_rest, read_message}
use Rattle.message_text.proofs.WordsRead.{after_byte_is, up_to_is}
use Rattle.message_text.proofs.ReadIs.{typed_is, finds, no_type_read}
use Rattle.message_text.proofs.LinesRead.{field_bytes, types_found, types_same, sig_text, sig_in_field, value_in, field_read}
use Rattle.message_text.proofs.TextsRead.{text_parts}

-- ---- the first line

record Head_is (text : Text) (x : (Order × List ℕ) × Text) : Type 0 where
  kind : ℕ
  flags : ℕ
  serial : ℕ
  low : (kind < 256) × (flags < 256) × (serial < 2 ^ 32)
  is : text ≡ order_byte x.0.0 ∷ 32 ∷ (decimal kind ++ 32 ∷ (decimal flags ++ 32 ∷ (decimal serial ++ 10 ∷ x.1)))

order_is : (t : Text) (x : Order × Text) → order_at t ≡ Some x → t ≡ order_byte x.0 ∷ x.1
order_is [] x e = absurd cc
order_is (c ∷ t) x e = go (c == 108) refl (c == 66) refl e
  where
    go : (a : Bool) → (c == 108) ≡ a → (b : Bool) → (c == 66) ≡ b → cond a (some {A = Order × Text} (Little, t)) (cond b (some {A = Order × Text} (Big, t)) None) ≡ Some x → c ∷ t ≡ order_byte x.0 ∷ x.1
    go true h b k q = let here : Order × Text = (Little, t) in subst (λ (y : Order × Text). c ∷ t ≡ order_byte y.0 ∷ y.1) (same_Some here x q) (ap (λ (d : ℕ). d ∷ t) (eqb-true c 108 h))
    go false h true k q = let here : Order × Text = (Big, t) in subst (λ (y : Order × Text). c ∷ t ≡ order_byte y.0 ∷ y.1) (same_Some here x q) (ap (λ (d : ℕ). d ∷ t) (eqb-true c 66 k))
    go false h false k q = absurd cc

-- what a first line gives, and what follows it
abbrev HeadAt : Type 0
HeadAt = (Order × List ℕ) × Text

record Serial_is (o : Order) (t : Text) (x : HeadAt) : Type 0 where
  serial : ℕ
  serial_low : serial < 2 ^ 32
  is : t ≡ 32 ∷ (decimal serial ++ 10 ∷ x.1)
  order : o ≡ x.0.0

serial_found : (o : Order) (k f : ℕ) (t : Text) (x : HeadAt) → (after_byte 32 t >>= λ c. number_to (2 ^ 32 - 1) c >>= λ n. after_byte 10 n.1 >>= λ r. some {A = HeadAt} ((o, head_bytes o k f n.0), r)) ≡ Some x → Serial_is o t x
serial_found o k f t x e =
    let c = bound (after_byte 32 t) (λ c. number_to (2 ^ 32 - 1) c >>= λ n. after_byte 10 n.1 >>= λ r. some {A = HeadAt} ((o, head_bytes o k f n.0), r)) x e in
    by_number c.0 (after_byte_is 32 t c.0 c.1) (bound (number_to (2 ^ 32 - 1) c.0) (λ n. after_byte 10 n.1 >>= λ r. some {A = HeadAt} ((o, head_bytes o k f n.0), r)) x c.2)
  where
    by_rest : (n : NumberAt) (r : Text) → n.0 ≤ 2 ^ 32 - 1 → t ≡ 32 ∷ (decimal n.0 ++ n.1) → n.1 ≡ 10 ∷ r → some {A = HeadAt} ((o, head_bytes o k f n.0), r) ≡ Some x → Serial_is o t x
    by_rest n r low is end q =
        let here : HeadAt = ((o, head_bytes o k f n.0), r) in
        let same : here ≡ x = same_Some here x q in
        record {
          serial = n.0;
          serial_low = omega arith;
          is = is ∙ ap (λ (u : Text). 32 ∷ (decimal n.0 ++ u)) end ∙ ap (λ (y : HeadAt). 32 ∷ (decimal n.0 ++ 10 ∷ y.1)) same;
          order = ap (λ (y : HeadAt). y.0.0) same;
        }

    by_number : (c : Text) → t ≡ 32 ∷ c → (n : NumberAt) × (number_to (2 ^ 32 - 1) c ≡ Some n) × ((after_byte 10 n.1 >>= λ r. some {A = HeadAt} ((o, head_bytes o k f n.0), r)) ≡ Some x) → Serial_is o t x
    by_number c is n =
        let w = up_to_is (2 ^ 32 - 1) c n.0 n.1 in
        let r = bound (after_byte 10 n.0.1) (λ r. some {A = HeadAt} ((o, head_bytes o k f n.0.0), r)) x n.2 in
        by_rest n.0 r.0 w.0 (is ∙ ap (λ (u : Text). 32 ∷ u) w.1) (after_byte_is 10 n.0.1 r.0 r.1) r.2

record Flags_is (o : Order) (t : Text) (x : HeadAt) : Type 0 where
  flags : ℕ
  flags_low : flags < 256
  serial : ℕ
  serial_low : serial < 2 ^ 32
  is : t ≡ 32 ∷ (decimal flags ++ 32 ∷ (decimal serial ++ 10 ∷ x.1))
  order : o ≡ x.0.0

flags_found : (o : Order) (k : ℕ) (t : Text) (x : HeadAt) → (after_byte 32 t >>= λ b. number_to (2 ^ 8 - 1) b >>= λ f. after_byte 32 f.1 >>= λ c. number_to (2 ^ 32 - 1) c >>= λ n. after_byte 10 n.1 >>= λ r. some {A = HeadAt} ((o, head_bytes o k f.0 n.0), r)) ≡ Some x → Flags_is o t x
flags_found o k t x e =
    let b = bound (after_byte 32 t) (λ b. number_to (2 ^ 8 - 1) b >>= λ f. after_byte 32 f.1 >>= λ c. number_to (2 ^ 32 - 1) c >>= λ n. after_byte 10 n.1 >>= λ r. some {A = HeadAt} ((o, head_bytes o k f.0 n.0), r)) x e in
    by_number b.0 (after_byte_is 32 t b.0 b.1) (bound (number_to (2 ^ 8 - 1) b.0) (λ f. after_byte 32 f.1 >>= λ c. number_to (2 ^ 32 - 1) c >>= λ n. after_byte 10 n.1 >>= λ r. some {A = HeadAt} ((o, head_bytes o k f.0 n.0), r)) x b.2)
  where
    by_rest : (f : NumberAt) → f.0 ≤ 2 ^ 8 - 1 → t ≡ 32 ∷ (decimal f.0 ++ f.1) → Serial_is o f.1 x → Flags_is o t x
    by_rest f low is s = record { flags = f.0; flags_low = omega arith; serial = s.serial; serial_low = s.serial_low; is = is ∙ ap (λ (u : Text). 32 ∷ (decimal f.0 ++ u)) s.is; order = s.order }

    by_number : (b : Text) → t ≡ 32 ∷ b → (f : NumberAt) × (number_to (2 ^ 8 - 1) b ≡ Some f) × ((after_byte 32 f.1 >>= λ c. number_to (2 ^ 32 - 1) c >>= λ n. after_byte 10 n.1 >>= λ r. some {A = HeadAt} ((o, head_bytes o k f.0 n.0), r)) ≡ Some x) → Flags_is o t x
    by_number b is f =
        let w = up_to_is (2 ^ 8 - 1) b f.0 f.1 in
        by_rest f.0 w.0 (is ∙ ap (λ (u : Text). 32 ∷ u) w.1) (serial_found o k f.0.0 f.0.1 x f.2)

record Kind_is (o : Order) (t : Text) (x : HeadAt) : Type 0 where
  kind : ℕ
  kind_low : kind < 256
  flags : ℕ
  flags_low : flags < 256
  serial : ℕ
  serial_low : serial < 2 ^ 32
  is : t ≡ 32 ∷ (decimal kind ++ 32 ∷ (decimal flags ++ 32 ∷ (decimal serial ++ 10 ∷ x.1)))
  order : o ≡ x.0.0

kind_found : (o : Order) (t : Text) (x : HeadAt) → (after_byte 32 t >>= λ a. number_to (2 ^ 8 - 1) a >>= λ k. after_byte 32 k.1 >>= λ b. number_to (2 ^ 8 - 1) b >>= λ f. after_byte 32 f.1 >>= λ c. number_to (2 ^ 32 - 1) c >>= λ n. after_byte 10 n.1 >>= λ r. some {A = HeadAt} ((o, head_bytes o k.0 f.0 n.0), r)) ≡ Some x → Kind_is o t x
kind_found o t x e =
    let a = bound (after_byte 32 t) (λ a. number_to (2 ^ 8 - 1) a >>= λ k. after_byte 32 k.1 >>= λ b. number_to (2 ^ 8 - 1) b >>= λ f. after_byte 32 f.1 >>= λ c. number_to (2 ^ 32 - 1) c >>= λ n. after_byte 10 n.1 >>= λ r. some {A = HeadAt} ((o, head_bytes o k.0 f.0 n.0), r)) x e in
    by_number a.0 (after_byte_is 32 t a.0 a.1) (bound (number_to (2 ^ 8 - 1) a.0) (λ k. after_byte 32 k.1 >>= λ b. number_to (2 ^ 8 - 1) b >>= λ f. after_byte 32 f.1 >>= λ c. number_to (2 ^ 32 - 1) c >>= λ n. after_byte 10 n.1 >>= λ r. some {A = HeadAt} ((o, head_bytes o k.0 f.0 n.0), r)) x a.2)
  where
    by_rest : (k : NumberAt) → k.0 ≤ 2 ^ 8 - 1 → t ≡ 32 ∷ (decimal k.0 ++ k.1) → Flags_is o k.1 x → Kind_is o t x
    by_rest k low is s = record { kind = k.0; kind_low = omega arith; flags = s.flags; flags_low = s.flags_low; serial = s.serial; serial_low = s.serial_low; is = is ∙ ap (λ (u : Text). 32 ∷ (decimal k.0 ++ u)) s.is; order = s.order }

    by_number : (a : Text) → t ≡ 32 ∷ a → (k : NumberAt) × (number_to (2 ^ 8 - 1) a ≡ Some k) × ((after_byte 32 k.1 >>= λ b. number_to (2 ^ 8 - 1) b >>= λ f. after_byte 32 f.1 >>= λ c. number_to (2 ^ 32 - 1) c >>= λ n. after_byte 10 n.1 >>= λ r. some {A = HeadAt} ((o, head_bytes o k.0 f.0 n.0), r)) ≡ Some x) → Kind_is o t x
    by_number a is k =
        let w = up_to_is (2 ^ 8 - 1) a k.0 k.1 in
        by_rest k.0 w.0 (is ∙ ap (λ (u : Text). 32 ∷ u) w.1) (flags_found o k.0.0 k.0.1 x k.2)

head_found : (text : Text) (x : HeadAt) → read_head text ≡ Some x → Head_is text x
head_found text x e =
    let o = bound (order_at text) (λ o. after_byte 32 o.1 >>= λ a. number_to (2 ^ 8 - 1) a >>= λ k. after_byte 32 k.1 >>= λ b. number_to (2 ^ 8 - 1) b >>= λ f. after_byte 32 f.1 >>= λ c. number_to (2 ^ 32 - 1) c >>= λ n. after_byte 10 n.1 >>= λ r. some {A = HeadAt} ((o.0, head_bytes o.0 k.0 f.0 n.0), r)) x e in
    by_kind o.0 (order_is text o.0 o.1) (kind_found o.0.0 o.0.1 x o.2)
  where
    by_kind : (o : Order × Text) → text ≡ order_byte o.0 ∷ o.1 → Kind_is o.0 o.1 x → Head_is text x
    by_kind o is s = record {
      kind = s.kind;
      flags = s.flags;
      serial = s.serial;
      low = (s.kind_low, s.flags_low, s.serial_low);
      is = is ∙ ap₂ (λ (p : Order) (u : Text). order_byte p ∷ u) s.order s.is;
    }

-- ---- fields

field_text : (c s a rest : List ℕ) → c ++ 32 ∷ (s ++ 32 ∷ (a ++ 10 ∷ rest)) ≡ (c ++ 32 ∷ s ++ 32 ∷ a ++ 10 ∷ []) ++ rest
field_text c s a rest = simp append_assoc

record Field_is (o : Order) (text rest : Text) : Type 0 where
  field : SaidField
  sound : field_shape field ≡ true
  is : text ≡ field_line o field ++ rest

field_found : (o : Order) (out : List ℕ) (text : Text) (x : ℕ × Bytes) → read_field o out text ≡ Some x → Field_is o text x.1.1
field_found o out text x e =
    let start : ℕ → List ℕ = λ c. with_gap 8 out ++ c ∷ [] in
    let code = bound (number_to (2 ^ 8 - 1) text) (λ c. after_byte 32 c.1 >>= λ next. read_typed (read_within 64 o) (with_gap 8 out ++ c.0 ∷ []) next >>= λ y. after_byte 10 y.1 >>= λ rest. some {A = ℕ × Bytes} (c.0, (y.0, rest))) x e in
    let next = bound (after_byte 32 code.0.1) (λ next. read_typed (read_within 64 o) (with_gap 8 out ++ code.0.0 ∷ []) next >>= λ y. after_byte 10 y.1 >>= λ rest. some {A = ℕ × Bytes} (code.0.0, (y.0, rest))) x code.2 in
    let y = bound (read_typed (read_within 64 o) (with_gap 8 out ++ code.0.0 ∷ []) next.0) (λ y. after_byte 10 y.1 >>= λ rest. some {A = ℕ × Bytes} (code.0.0, (y.0, rest))) x next.2 in
    let rest = bound (after_byte 10 y.0.1) (λ rest. some {A = ℕ × Bytes} (code.0.0, (y.0.0, rest))) x y.2 in
    let here : ℕ × Bytes = (code.0.0, (y.0.0, rest.0)) in
    let c = up_to_is (2 ^ 8 - 1) text code.0 code.1 in
    let c_low : code.0.0 ≤ 2 ^ 8 - 1 = c.0 in
    let v = typed_is o 64 (read_within 64 o) (finds 64 o) (no_type_read 64 o) (with_gap 8 out ++ code.0.0 ∷ []) next.0 y.0 y.1 in
    let spelling = spelled_type (type_said v.value) in
    record {
      field = record { code = code.0.0; value = v.value };
      sound = and_from _ _ (lt-ltb code.0.0 256 (omega arith)) (and_from _ _ (and_from _ _ v.sound v.range) (le-leb (depth_said v.value) 63 (omega (arith, v.deep))));
      is = c.1
          ∙ ap (λ (t : Text). decimal code.0.0 ++ t) (after_byte_is 32 code.0.1 next.0 next.1 ∙ ap (λ (t : Text). 32 ∷ t) (v.is ∙ ap (λ (t : Text). spelling ++ 32 ∷ (value_text o v.value ++ t)) (after_byte_is 10 y.0.1 rest.0 rest.1)))
          ∙ field_text (decimal code.0.0) spelling (value_text o v.value) rest.0
          ∙ ap (λ (z : ℕ × Bytes). field_line o (record { code = code.0.0; value = v.value }) ++ z.1.1) (same_Some here x rest.2);
    }

record Fields_are (o : Order) (types : Option (List ℕ)) (text : Text) (x : Option (List ℕ) × Bytes) : Type 0 where
  fields : List SaidField
  sound : list_all field_shape fields ≡ true
  types_is : x.0 ≡ types_found types fields
  is : text ≡ flat_map (field_line o) fields ++ (codes "body" ++ x.1.1)

-- the fields after a field
abbrev on_field : ℕ → Order → Option (List ℕ) → List ℕ → ℕ × Bytes → Option (Option (List ℕ) × Bytes)
on_field fuel o types out y = read_fields o fuel (or_else types (signature_in y.0 (drop (length (with_gap 8 out) + 1) y.1.0))) y.1.0 y.1.1

abbrev Later : ℕ → Order → Type 0
Later fuel o = (ts : Option (List ℕ)) (p : List ℕ) (u : Text) (y : Option (List ℕ) × Bytes) → read_fields o fuel ts p u ≡ Some y → Fields_are o ts u y

fields_found : (fuel : ℕ) (o : Order) (types : Option (List ℕ)) (out : List ℕ) (text : Text) (x : Option (List ℕ) × Bytes) → read_fields o fuel types out text ≡ Some x → Fields_are o types text x
fields_found zero o types out text x e = absurd cc
fields_found (suc fuel) o types out text x e = go (λ ts p u y q. fields_found fuel o ts p u y q) (starts_with nat_eq text (codes "body")) refl e
  where
    found : Later fuel o → (y : ℕ × Bytes) → read_field o out text ≡ Some y → on_field fuel o types out y ≡ Some x → Fields_are o types text x
    found later y s q =
        let f = field_found o out text y s in
        let again : y ≡ (f.field.code, (out ++ field_bytes o (length out) f.field, y.1.1)) =
        same_Some y (f.field.code, (out ++ field_bytes o (length out) f.field, y.1.1)) (sym s ∙ ap (read_field o out) f.is ∙ field_read o out f.field y.1.1 f.sound) in
        let start = with_gap 8 out ++ f.field.code ∷ [] in
        let sig : signature_in y.0 (drop (length (with_gap 8 out) + 1) y.1.0) ≡ sig_text f.field =
        ap (λ (z : ℕ × Bytes). signature_in z.0 (drop (length (with_gap 8 out) + 1) z.1.0)) again
        ∙ ap (signature_in f.field.code) (value_in o out f.field) ∙ sig_in_field o (length start) f.field in
        let g = later (or_else types (signature_in y.0 (drop (length (with_gap 8 out) + 1) y.1.0))) y.1.0 y.1.1 x q in
        record {
          fields = f.field ∷ g.fields;
          sound = and_from _ _ f.sound g.sound;
          types_is = g.types_is ∙ ap (λ (z : Option (List ℕ)). types_found (or_else types z) g.fields) sig;
          is = f.is ∙ ap (λ (t : Text). field_line o f.field ++ t) g.is ∙ sym (append_assoc (field_line o f.field) (flat_map (field_line o) g.fields) (codes "body" ++ x.1.1));
        }

    go : Later fuel o → (b : Bool) → starts_with nat_eq text (codes "body") ≡ b → cond b (some {A = Option (List ℕ) × Bytes} (types, (out, drop 4 text))) (read_field o out text >>= on_field fuel o types out) ≡ Some x → Fields_are o types text x
    go later true h q =
        let here : Option (List ℕ) × Bytes = (types, (out, drop 4 text)) in
        subst (λ (y : Option (List ℕ) × Bytes). Fields_are o types text y) (same_Some here x q) (record { fields = []; sound = refl; types_is = refl; is = starts-then text (codes "body") h })
    go later false h q = let s = bound (read_field o out text) (on_field fuel o types out) x q in found later s.0 s.1 s.2

-- ---- the body

abbrev alone : Complete → Bool
alone t = is_signature (t ∷ [])

each_alone : (ts : List Complete) → list_all is_complete ts ≡ true → list_all is_shallow ts ≡ true → length (spelled_types ts) ≤ 255 → list_all alone ts ≡ true
each_alone [] c s l = refl
each_alone (t ∷ ts) c s l =
    let a = and_parts (is_complete t) (list_all is_complete ts) c in
    let b = and_parts (is_shallow t) (list_all is_shallow ts) s in
    let len : length (spelled_types (t ∷ ts)) ≡ length (spelled_type t) + length (spelled_types ts) = length-append (spelled_type t) (spelled_types ts) in
    let short : nat_le (length (spelled_type t ++ [])) 255 ≡ true = le-leb _ _ (omega (arith, len, l, length-append (spelled_type t) [])) in
    and_from _ _ (and_from _ _ (and_from _ _ (and_from _ _ a.0 refl) (and_from _ _ b.0 refl)) short) (each_alone ts a.1 b.1 (omega (arith, len, l)))

signature_alone : (ts : List Complete) → is_signature ts ≡ true → list_all alone ts ≡ true
signature_alone ts e =
    let a = and_parts (list_all is_complete ts && list_all is_shallow ts) (nat_le (length (spelled_types ts)) 255) e in
    let b = and_parts (list_all is_complete ts) (list_all is_shallow ts) a.0 in
    each_alone ts b.0 b.1 (leb-true (length (spelled_types ts)) 255 a.1)

by_value_sound : (v : Said) (ts : List Complete) → types_by_value v ≡ Some ts → is_signature ts ≡ true
by_value_sound (says_number n x) ts e = absurd cc
by_value_sound (says_string text) ts e = absurd cc
by_value_sound (says_path text) ts e = absurd cc
by_value_sound (says_signature text) ts e = (signature_of-is text ts e).1
by_value_sound (says_variant v) ts e = absurd cc
by_value_sound (says_array t vs) ts e = absurd cc
by_value_sound (says_struct v vs) ts e = absurd cc
by_value_sound (says_entry k v) ts e = absurd cc

body_sound : (fields : List SaidField) → is_signature (body_types fields) ≡ true
body_sound [] = refl
body_sound (f ∷ fields) = go (body_sound fields) (f.code == 8) (types_by_value f.value) refl
  where
    go : is_signature (body_types fields) ≡ true → (b : Bool) (found : Option (List Complete)) → types_by_value f.value ≡ found → is_signature (or_next (cond b found None) (body_types fields)) ≡ true
    go later true (Some ts) e = by_value_sound f.value ts e
    go later true None e = later
    go later false found e = later

record Values_are (o : Order) (ts : List Complete) (text rest : Text) : Type 0 where
  values : List Said
  typed : map type_said values ≡ ts
  sound : list_all (has_shape 64) values ≡ true
  is : text ≡ flat_map (λ v. 32 ∷ value_text o v) values ++ rest

values_found : (fuel : ℕ) (o : Order) (ts : List Complete) (out : List ℕ) (text : Text) (x : Bytes) → list_all alone ts ≡ true → read_values o fuel (spelled_types ts) out text ≡ Some x → Values_are o ts text x.1
values_found zero o ts out text x c e = absurd cc
values_found (suc fuel) o [] out text x c e =
    let here : Bytes = (out, text) in
    record { values = []; typed = refl; sound = refl; is = ap (λ (y : Bytes). y.1) (same_Some here x e) }
values_found (suc fuel) o (t ∷ ts) out text x c e =
    let a = and_parts (alone t) (list_all alone ts) c in
    let types = spelled_type t ++ spelled_types ts in
    let on : Value → Option Bytes = λ y. read_values o fuel y.0 y.1 y.2 in
    let e' = sym (ap (λ (b : Bool). cond b (some {A = Bytes} (out, text)) (after_byte 32 text >>= λ next. read_within 65 o types out next >>= on)) (not_empty types (omega (arith, length-append (spelled_type t) (spelled_types ts), type_len t)))) ∙ e in
    let s = bound (after_byte 32 text) (λ next. read_within 65 o types out next >>= on) x e' in
    let y = bound (read_within 65 o types out s.0) on x s.2 in
    let f = finds 65 o t (spelled_types ts) out s.0 y.0 (one_complete t a.0) y.1 in
    let g = values_found fuel o ts y.0.1 y.0.2 x a.1 (ap (λ (b : List ℕ). read_values o fuel b y.0.1 y.0.2) (sym f.0) ∙ y.2) in
    let v = f.1 in
    record {
      values = v.value ∷ g.values;
      typed = ap₂ (λ (z : Complete) (zs : List Complete). z ∷ zs) v.typed g.typed;
      sound = and_from _ _ (and_from _ _ (and_from _ _ (ap (λ (z : Complete). is_signature (z ∷ [])) v.typed ∙ a.0) v.range) (le-leb (depth_said v.value) 64 (omega (arith, v.deep)))) g.sound;
      is = after_byte_is 32 text s.0 s.1 ∙ ap (λ (z : Text). 32 ∷ z) (v.is ∙ ap (λ (z : Text). value_text o v.value ++ z) g.is)
          ∙ sym (append_assoc (32 ∷ value_text o v.value) (flat_map (λ w. 32 ∷ value_text o w) g.values) x.1);
    }

-- ---- the whole text

pub shape_found : (text : Text) (bytes : List ℕ) → read_message text ≡ Some bytes → (s : SaidMessage) × InShape s × (text_of s ≡ text)
unfolding read_message
shape_found text bytes e =
    let h = bound (read_head text) (λ x. read_rest x.0.0 x.0.1 x.1) bytes e in
    let o = h.0.0.0 in
    let head = head_found text h.0 h.1 in
    let fs = bound (read_fields o (suc (length h.0.1)) None h.0.0.1 h.0.1) (λ x. read_body o (or_none x.0) (with_gap 8 (with_len o 12 16 x.1.0)) x.1.1) bytes h.2 in
    let f = fields_found (suc (length h.0.1)) o None h.0.0.1 h.0.1 fs.0 fs.1 in
    let ts = body_types f.fields in
    let start = with_gap 8 (with_len o 12 16 fs.0.1.0) in
    let types : or_none fs.0.0 ≡ spelled_types ts = ap or_none f.types_is ∙ types_same f.fields in
    let b = bound (read_values o (suc (length (or_none fs.0.0))) (or_none fs.0.0) start fs.0.1.1) (λ x. after_byte 10 x.1 >>= λ end. when (is_empty end) (with_len o 4 (length start) x.0)) bytes fs.2 in
    let end = bound (after_byte 10 b.0.1) (λ end. when (is_empty end) (with_len o 4 (length start) b.0.0)) bytes b.2 in
    let w = when_is (is_empty end.0) (with_len o 4 (length start) b.0.0) bytes end.2 in
    let v = values_found (suc (length (or_none fs.0.0))) o ts start fs.0.1.1 b.0 (signature_alone ts (body_sound f.fields)) (sym (ap (λ (t : List ℕ). read_values o (suc (length (or_none fs.0.0))) t start fs.0.1.1) types) ∙ b.1) in
    let last : b.0.1 ≡ 10 ∷ [] = after_byte_is 10 b.0.1 end.0 end.1 ∙ ap (λ (t : Text). 10 ∷ t) (empty_is end.0 w.0) in
    let s : SaidMessage = record { order = o; kind = head.kind; flags = head.flags; serial = head.serial; fields = f.fields; body = v.values } in (
      s,
      record { numbers = head.low; fields = f.sound; body = v.sound; types = ap spelled_types v.typed },
      text_parts s
          ∙ line_text (order_byte o ∷ 32 ∷ []) (decimal head.kind) (decimal head.flags) (decimal head.serial) (flat_map (field_line o) f.fields ++ (codes "body" ++ (flat_map (λ w. 32 ∷ value_text o w) v.values ++ 10 ∷ [])))
          ∙ ap (λ (t : Text). order_byte o ∷ 32 ∷ (decimal head.kind ++ 32 ∷ (decimal head.flags ++ 32 ∷ (decimal head.serial ++ 10 ∷ t))))
          (ap (λ (t : Text). flat_map (field_line o) f.fields ++ (codes "body" ++ t)) (ap (λ (t : Text). flat_map (λ w. 32 ∷ value_text o w) v.values ++ t) (sym last) ∙ sym v.is) ∙ sym f.is)
          ∙ sym head.is,
    )
  where
    line_text : (o k f n rest : List ℕ) → (o ++ k ++ 32 ∷ f ++ 32 ∷ n ++ 10 ∷ []) ++ rest ≡ o ++ (k ++ 32 ∷ (f ++ 32 ∷ (n ++ 10 ∷ rest)))
    line_text o k f n rest = simp append_assoc
