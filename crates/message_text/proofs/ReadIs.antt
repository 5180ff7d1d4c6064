-- What is read as a value of a type is a value that the text says there.
use Rattle.std.proofs.Common.{◌≡◌, ℕ, zero, suc, ◌-◌, ◌<◌, ◌≤◌, Bool, true, false, cond, List, [], ◌∷◌, ◌++◌, length, take, drop, Option, Some, None, refl, sym, ap, ap₂, subst, ◌∙◌, append_assoc, arith, codes, max}
use Rattle.std.specs.Prelude.{◌&&◌, ◌==◌, nat_lt, nat_le, bytes_eq, is_none}
use Rattle.std.specs.List.{list_all, flat_map}
use Rattle.std.specs.Int.{w64}
use Rattle.std.proofs.lemmas.List.{append-nil, take-append-drop, length-append}
use Rattle.std.proofs.lemmas.Bool.{and_parts, and_from, eqb-true}
use Rattle.std.proofs.lemmas.Option.{same_Some}
use Rattle.byte_lists.specs.Bytes.{is_empty}
use Rattle.byte_lists.proofs.Bytes.{bytes_eq-refl, empty_is}
use Rattle.byte_lists.proofs.Options.{some}
use Rattle.dbus_types.specs.Signature.{Number, byte, boolean, int16, uint16, int32, uint32, int64, uint64, double, handle, Basic, number, string, path, signature, Complete, basic, variant, array, struct, entry, Completes, no_types, and, code, number_code, spelled_type, spelled_members, spelled_types, is_signature, is_complete, is_shallow, is_element_type, are_complete, is_basic, signature_fault, signature_of, types_of, fault_of_types}
use Rattle.dbus_types.specs.declared.BadSignature.TheVariants.{TooLong as too_long}
use Rattle.dbus_types.specs.Behind.{behind}
use Rattle.dbus_types.proofs.BehindLaws.{type_in_front}
use Rattle.dbus_types.proofs.SignatureRead.{signature_of-is}
use Rattle.dbus_values.specs.Values.{number_bytes}
use Rattle.dbus_values.specs.Reading.{◌>>=◌, when, number_of}
use Rattle.dbus_values.specs.Walk.{alignment_by, front_code}
use Rattle.dbus_values.proofs.ValueAgain.{basic_complete}
use Rattle.dbus_values.proofs.ValueRead.{bound, when_is}
use Rattle.dbus_values.proofs.WalkNumbers.{type_len}
use Rattle.dbus_values.specs.declared.Order.{Order}
use Rattle.message_text.specs.MessageText.{Text, Said, says_number, says_string, says_path, says_signature, says_variant, says_array, says_struct, says_entry, Saids, no_more, more, type_said, types_said, value_text, others_text, number_text, quoted, hex_byte, is_typed, are_typed, in_range, all_in_range, depth_said, depths_said}
use Rattle.message_text.specs.Reading.{Number as NumberAt, Bytes, Value, Read, after, after_byte, number_at, hex_bytes, quoted_at, with_len, with_short_len, with_gap, no_len, number_part, read_text, read_signature, read_basic, read_items, read_elements, read_entry, read_element, before_elements, read_array, read_members, read_struct, word_len, signature_bytes, read_typed, read_variant, of_types, read_within}
use Rattle.message_text.specs.Printing.{width_of}
use Rattle.message_text.proofs.PrintLaws.{struct_regrouped, entry_regrouped, type_front}
use Rattle.message_text.proofs.ReadLaws.{is_double, number_coded, plain, basic_coded, variant_coded, array_coded, struct_coded}
use Rattle.message_text.proofs.WordsRead.{after_is, after_byte_is, number_is, hex_bytes_is, quoted_is, double_is}

-- a value of the type, within fewer than this many containers, in front of the rest
pub record Found (o : Order) (k : ℕ) (t : Complete) (text rest : Text) : Type 0 where
  pub value : Said
  pub typed : type_said value ≡ t
  pub range : in_range value ≡ true
  pub deep : depth_said value < k
  pub is : text ≡ value_text o value ++ rest

abbrev pub Finds : Order → ℕ → Read → Type 0
Finds o k inner = (t : Complete) (r out : List ℕ) (text : Text) (x : Value) → is_complete t ≡ true → inner (spelled_type t ++ r) out text ≡ Some x → (x.0 ≡ r) × Found o k t text x.2

-- ---- basic values

-- a value of a basic type lies in no container
record Basic_is (o : Order) (b : Basic) (text rest : Text) : Type 0 where
  pub value : Said
  typed : type_said value ≡ basic b
  pub range : in_range value ≡ true
  flat : depth_said value ≡ 0
  is : text ≡ value_text o value ++ rest

plain_is : (n : Number) (o : Order) (out text : List ℕ) (x : Bytes) → is_double n ≡ false → read_basic o (number_code n) out text ≡ Some x → Basic_is o (number n) text x.1
plain_is n o out text x d e =
    let go : NumberAt → Option Bytes = λ y. some {A = Bytes} (with_gap (width_of (number_code n)) out ++ number_part o (width_of (number_code n)) y.0, y.1) in
    let s = bound (number_at (number_code n) text) go x (sym (number_coded n o out text d) ∙ e) in
    let w = number_is n o text s.0 d s.1 in
    let here : Bytes = (with_gap (width_of (number_code n)) out ++ number_part o (width_of (number_code n)) s.0.0, s.0.1) in
    record {
      value = says_number n s.0.0;
      typed = refl;
      range = w.0;
      flat = refl;
      is = w.1 ∙ ap (λ (y : Bytes). number_text o n s.0.0 ++ y.1) (same_Some here x s.2);
    }

double_found : (o : Order) (out text : List ℕ) (x : Bytes) → read_basic o (number_code double) out text ≡ Some x → Basic_is o (number double) text x.1
double_found o out text x e =
    let s = bound (after (codes "0x") text) (λ digits. hex_bytes 8 (with_gap 8 out) digits) x e in
    let h = hex_bytes_is 8 (with_gap 8 out) s.0 x s.2 in
    let d = double_is o h.bytes h.len h.low in
    record {
      value = says_number double (number_of o w64 h.bytes);
      typed = refl;
      range = d.0;
      flat = refl;
      is = after_is (codes "0x") text s.0 s.1 ∙ ap (λ (u : List ℕ). codes "0x" ++ u) (h.is ∙ ap (λ (bs : List ℕ). flat_map hex_byte bs ++ x.1) (sym d.1))
          ∙ sym (append_assoc (codes "0x") (flat_map hex_byte (number_bytes o w64 (number_of o w64 h.bytes))) x.1);
    }

number_found : (n : Number) (o : Order) (out text : List ℕ) (x : Bytes) → read_basic o (number_code n) out text ≡ Some x → Basic_is o (number n) text x.1
number_found byte o out text x e = plain_is byte o out text x refl e
number_found boolean o out text x e = plain_is boolean o out text x refl e
number_found int16 o out text x e = plain_is int16 o out text x refl e
number_found uint16 o out text x e = plain_is uint16 o out text x refl e
number_found int32 o out text x e = plain_is int32 o out text x refl e
number_found uint32 o out text x e = plain_is uint32 o out text x refl e
number_found int64 o out text x e = plain_is int64 o out text x refl e
number_found uint64 o out text x e = plain_is uint64 o out text x refl e
number_found double o out text x e = double_found o out text x e
number_found handle o out text x e = plain_is handle o out text x refl e

text_found : (o : Order) (out text : List ℕ) (x : Bytes) → read_text o out text ≡ Some x → (t : Text) × (in_range (says_string t) ≡ true) × (text ≡ quoted t ++ x.1)
text_found o out text x e =
    let start = with_gap 4 out in
    let go : Bytes → Option Bytes = λ y. some {A = Bytes} (with_len o (length start) (length (start ++ no_len)) y.0 ++ 0 ∷ [], y.1) in
    let s = bound (quoted_at (start ++ no_len) text) go x e in
    let q = quoted_is (start ++ no_len) text s.0 s.1 in
    let here : Bytes = (with_len o (length start) (length (start ++ no_len)) s.0.0 ++ 0 ∷ [], s.0.1) in
    (q.text, q.sound, q.is ∙ ap (λ (y : Bytes). quoted q.text ++ y.1) (same_Some here x s.2))

signature_found : (out text : List ℕ) (x : Bytes) → read_signature out text ≡ Some x → (t : Text) × (in_range (says_signature t) ≡ true) × (text ≡ quoted t ++ x.1)
signature_found out text x e =
    let go : Bytes → Option Bytes = λ y. some {A = Bytes} (with_short_len (length out) y.0 ++ 0 ∷ [], y.1) in
    let s = bound (quoted_at (out ++ 0 ∷ []) text) go x e in
    let q = quoted_is (out ++ 0 ∷ []) text s.0 s.1 in
    let here : Bytes = (with_short_len (length out) s.0.0 ++ 0 ∷ [], s.0.1) in
    (q.text, q.sound, q.is ∙ ap (λ (y : Bytes). quoted q.text ++ y.1) (same_Some here x s.2))

basic_found : (b : Basic) (o : Order) (out text : List ℕ) (x : Bytes) → read_basic o (code b) out text ≡ Some x → Basic_is o b text x.1
basic_found (number n) o out text x e = number_found n o out text x e
basic_found string o out text x e = let s = text_found o out text x e in record { value = says_string s.0; typed = refl; range = s.1; flat = refl; is = s.2 }
basic_found path o out text x e = let s = text_found o out text x e in record { value = says_path s.0; typed = refl; range = s.1; flat = refl; is = s.2 }
basic_found signature o out text x e = let s = signature_found out text x e in record { value = says_signature s.0; typed = refl; range = s.1; flat = refl; is = s.2 }

of_types_is : (r : List ℕ) (y : Option Bytes) (x : Value) → of_types r y ≡ Some x → (b : Bytes) × (y ≡ Some b) × (x.0 ≡ r) × (x.2 ≡ b.1)
of_types_is r None x e = absurd cc
of_types_is r (Some b) x e =
    let here : Value = (r, b.0, b.1) in
    let same : here ≡ x = same_Some here x e in
    (b, refl, ap (λ (v : Value). v.0) (sym same), ap (λ (v : Value). v.2) (sym same))

-- ---- a type before a value

pub record Typed_is (o : Order) (k : ℕ) (text rest : Text) : Type 0 where
  pub value : Said
  pub sound : is_signature (type_said value ∷ []) ≡ true
  pub range : in_range value ≡ true
  pub deep : depth_said value < k
  pub is : text ≡ spelled_type (type_said value) ++ 32 ∷ (value_text o value ++ rest)

pub fault_sound : (types : List ℕ) → is_none (signature_fault types) ≡ true → (ts : List Complete) × (signature_of types ≡ Some ts)
fault_sound types e = go (nat_lt 255 (length types)) refl (types_of types) refl (sym (ap (λ (b : Bool). cond b (types_of types) None) e))
  where
    go : (b : Bool) → nat_lt 255 (length types) ≡ b → (found : Option (List Complete)) → types_of types ≡ found → types_of types ≡ signature_of types → (ts : List Complete) × (signature_of types ≡ Some ts)
    go true h found f same = absurd (never (sym (ap (λ (b : Bool). is_none (cond b (some too_long) (fault_of_types (types_of types)))) h) ∙ e))
      where
        never : false ≡ true → ⊥
        never q = absurd cc
    go false h None f same = absurd (never (sym (ap (λ (b : Bool). is_none (cond b (some too_long) (fault_of_types (types_of types)))) h ∙ ap (λ (o : Option (List Complete)). is_none (fault_of_types o)) f) ∙ e))
      where
        never : false ≡ true → ⊥
        never q = absurd cc
    go false h (Some ts) f same = (ts, sym same ∙ f)

one_type_left : (t : Complete) (ts : List Complete) → is_empty (spelled_types ts) ≡ true → t ∷ ts ≡ t ∷ []
one_type_left t [] e = refl
one_type_left t (u ∷ us) e = absurd (omega (arith, type_len u, length-append (spelled_type u) (spelled_types us), ap length (empty_is (spelled_types (u ∷ us)) e)))

module _ (o : Order) (k : ℕ) (inner : Read) (finds : Finds o k inner) (no_type : (out : List ℕ) (text : Text) → inner [] out text ≡ None) where
  pub typed_is : (out : List ℕ) (text : Text) (x : Bytes) → read_typed inner out text ≡ Some x → Typed_is o k text x.1
  typed_is out text x e = go (is_none (signature_fault types)) refl e
    where
      types : List ℕ
      types = take (word_len text) text

      tail : Text
      tail = drop (word_len text) text

      value_in : (ts : List Complete) → signature_of types ≡ Some ts → (next : Text) → tail ≡ 32 ∷ next → (y : Value) → inner types (out ++ signature_bytes types) next ≡ Some y → is_empty y.0 ≡ true → Typed_is o k text y.2
      value_in [] s next space y read empty =
          let none : types ≡ [] = sym (signature_of-is types [] s).0 in
          absurd (never (sym (no_type (out ++ signature_bytes types) next) ∙ sym (ap (λ (ts : List ℕ). inner ts (out ++ signature_bytes types) next) none) ∙ read))
        where
          never : None ≡ some y → ⊥
          never q = absurd cc
      value_in (t ∷ ts) s next space y read empty =
          let is = signature_of-is types (t ∷ ts) s in
          let a = and_parts (list_all is_complete (t ∷ ts) && list_all is_shallow (t ∷ ts)) (nat_le (length (spelled_types (t ∷ ts))) 255) is.1 in
          let b = and_parts (list_all is_complete (t ∷ ts)) (list_all is_shallow (t ∷ ts)) a.0 in
          let complete : is_complete t ≡ true = (and_parts (is_complete t) (list_all is_complete ts) b.0).0 in
          let f = finds t (spelled_types ts) (out ++ signature_bytes types) next y complete (ap (λ (b : List ℕ). inner b (out ++ signature_bytes types) next) is.0 ∙ read) in
          let only : t ∷ ts ≡ t ∷ [] = one_type_left t ts (ap is_empty (sym f.0) ∙ empty) in
          let v = f.1 in
          record {
            value = v.value;
            sound = ap (λ (u : Complete). is_signature (u ∷ [])) v.typed ∙ ap is_signature (sym only) ∙ is.1;
            range = v.range;
            deep = v.deep;
            is = sym (take-append-drop (word_len text) text)
                ∙ ap₂ (λ (a b : List ℕ). a ++ b) (sym is.0 ∙ ap spelled_types only ∙ append-nil (spelled_type t) ∙ ap spelled_type (sym v.typed)) (space ∙ ap (λ (u : List ℕ). 32 ∷ u) v.is);
          }

      go : (b : Bool) → is_none (signature_fault types) ≡ b → cond b (after_byte 32 tail >>= λ next. inner types (out ++ signature_bytes types) next >>= λ y. when (is_empty y.0) (y.1, y.2)) None ≡ Some x → Typed_is o k text x.1
      go false h q = absurd cc
      go true h q =
          let s = bound (after_byte 32 tail) (λ next. inner types (out ++ signature_bytes types) next >>= λ y. when (is_empty y.0) (y.1, y.2)) x q in
          let r = bound (inner types (out ++ signature_bytes types) s.0) (λ y. when (is_empty y.0) (y.1, y.2)) x s.2 in
          let w = when_is (is_empty r.0.0) (r.0.1, r.0.2) x r.2 in
          let ts = fault_sound types h in
          let here : Bytes = (r.0.1, r.0.2) in
          subst (λ (y : Bytes). Typed_is o k text y.1) w.1 (value_in ts.0 ts.1 s.0 (after_byte_is 32 tail s.0 s.1) r.0 r.1 w.0)

-- ---- elements and members

record Others_is (o : Order) (k : ℕ) (t : Complete) (close : ℕ) (text rest : Text) : Type 0 where
  values : Saids
  typed : are_typed t values ≡ true
  range : all_in_range values ≡ true
  deep : depths_said values ≤ k - 1
  is : text ≡ others_text o values ++ close ∷ rest

record Members_is (o : Order) (k : ℕ) (ts : Completes) (text rest : Text) : Type 0 where
  values : Saids
  typed : types_said values ≡ ts
  range : all_in_range values ≡ true
  deep : depths_said values ≤ k - 1
  is : text ≡ others_text o values ++ 41 ∷ rest

front_is : (t : Text) (c : ℕ) → (front_code t == suc c) ≡ true → t ≡ suc c ∷ drop 1 t
front_is [] c e = absurd (omega (arith, eqb-true 0 (suc c) e))
front_is (d ∷ t) c e = ap (λ (y : ℕ). y ∷ t) (eqb-true d (suc c) e)

same_typed : (t : Complete) (v : Said) → type_said v ≡ t → is_typed t v ≡ true
same_typed t v e = ap (λ (u : Complete). bytes_eq (spelled_type t) (spelled_type u)) e ∙ bytes_eq-refl (spelled_type t)

max_below : (a b k : ℕ) → a < k → b ≤ k - 1 → max a b ≤ k - 1
max_below a b k p q = omega arith

next_text : (a b rest : List ℕ) → 32 ∷ (a ++ (b ++ rest)) ≡ (32 ∷ a ++ b) ++ rest
next_text a b rest = simp append_assoc

list_text : (c d : ℕ) (a b rest : List ℕ) → c ∷ (a ++ (b ++ d ∷ rest)) ≡ (c ∷ a ++ b ++ d ∷ []) ++ rest
list_text c d a b rest = simp append_assoc

entry_text : (a b rest : List ℕ) → 123 ∷ (a ++ 32 ∷ (b ++ 125 ∷ rest)) ≡ (123 ∷ a ++ 32 ∷ b ++ 125 ∷ []) ++ rest
entry_text a b rest = simp append_assoc

variant_text : (s a rest : List ℕ) → 60 ∷ (s ++ 32 ∷ (a ++ 62 ∷ rest)) ≡ (60 ∷ s ++ 32 ∷ a ++ 62 ∷ []) ++ rest
variant_text s a rest = simp append_assoc

module _ (o : Order) (k : ℕ) (inner : Read) (finds : Finds o k inner) where
  entry_found : (a t : Complete) (r out : List ℕ) (text : Text) (x : Value) → (is_basic a && is_complete t) ≡ true → read_entry inner (spelled_type a ++ (spelled_type t ++ 125 ∷ r)) out text ≡ Some x → (x.0 ≡ r) × Found o k (entry a t) text x.2
  entry_found a t r out text x c e =
      let u = and_parts (is_basic a) (is_complete t) c in
      let s = bound (after_byte 123 text) (λ start. inner (spelled_type a ++ (spelled_type t ++ 125 ∷ r)) (with_gap 8 out) start >>= λ key. after_byte 32 key.2 >>= λ next. inner key.0 key.1 next >>= λ y. after_byte 125 y.2 >>= λ rest. some {A = Value} (drop 1 y.0, y.1, rest)) x e in
      let key = bound (inner (spelled_type a ++ (spelled_type t ++ 125 ∷ r)) (with_gap 8 out) s.0) (λ key. after_byte 32 key.2 >>= λ next. inner key.0 key.1 next >>= λ y. after_byte 125 y.2 >>= λ rest. some {A = Value} (drop 1 y.0, y.1, rest)) x s.2 in
      let next = bound (after_byte 32 key.0.2) (λ next. inner key.0.0 key.0.1 next >>= λ y. after_byte 125 y.2 >>= λ rest. some {A = Value} (drop 1 y.0, y.1, rest)) x key.2 in
      let y = bound (inner key.0.0 key.0.1 next.0) (λ y. after_byte 125 y.2 >>= λ rest. some {A = Value} (drop 1 y.0, y.1, rest)) x next.2 in
      let rest = bound (after_byte 125 y.0.2) (λ rest. some {A = Value} (drop 1 y.0.0, y.0.1, rest)) x y.2 in
      let here : Value = (drop 1 y.0.0, y.0.1, rest.0) in
      let same : here ≡ x = same_Some here x rest.2 in
      let f = finds a (spelled_type t ++ 125 ∷ r) (with_gap 8 out) s.0 key.0 (basic_complete a u.0) key.1 in
      let g = finds t (125 ∷ r) key.0.1 next.0 y.0 u.1 (ap (λ (ts : List ℕ). inner ts key.0.1 next.0) (sym f.0) ∙ y.1) in (
        ap (λ (v : Value). v.0) (sym same) ∙ ap (drop 1) g.0,
        record {
          value = says_entry f.1.value g.1.value;
          typed = ap₂ entry f.1.typed g.1.typed;
          range = and_from _ _ f.1.range g.1.range;
          deep = omega (arith, f.1.deep, g.1.deep);
          is = after_byte_is 123 text s.0 s.1
              ∙ ap (λ (w : List ℕ). 123 ∷ w) (f.1.is ∙ ap (λ (w : List ℕ). value_text o f.1.value ++ w) (after_byte_is 32 key.0.2 next.0 next.1 ∙ ap (λ (w : List ℕ). 32 ∷ w) (g.1.is ∙ ap (λ (w : List ℕ). value_text o g.1.value ++ w) (after_byte_is 125 y.0.2 rest.0 rest.1))))
              ∙ entry_text (value_text o f.1.value) (value_text o g.1.value) rest.0
              ∙ ap (λ (v : Value). value_text o (says_entry f.1.value g.1.value) ++ v.2) same;
        },
      )

  element_found : (t : Complete) (r out : List ℕ) (text : Text) (x : Value) → is_element_type t ≡ true → read_element inner (spelled_type t ++ r) out text ≡ Some x → (x.0 ≡ r) × Found o k t text x.2
  element_found (basic b) r out text x c e = finds (basic b) r out text x refl (plain (basic b) inner out r text refl ∙ e)
  element_found variant r out text x c e = finds variant r out text x refl (plain variant inner out r text refl ∙ e)
  element_found (array t) r out text x c e = finds (array t) r out text x c (plain (array t) inner out r text c ∙ e)
  element_found (struct t ts) r out text x c e = finds (struct t ts) r out text x c (plain (struct t ts) inner out r text c ∙ e)
  element_found (entry a t) r out text x c e = entry_found a t r out text x c (sym (ap (λ (ts : List ℕ). read_element inner ts out text) (entry_regrouped a t r)) ∙ e)

  items_found : (fuel : ℕ) (t : Complete) (r out : List ℕ) (text : Text) (x : Bytes) → is_element_type t ≡ true → read_items (λ bytes tail. read_element inner (spelled_type t ++ r) bytes tail) fuel out text ≡ Some x → Others_is o k t 93 text x.1
  items_found zero t r out text x c e = absurd cc
  items_found (suc fuel) t r out text x c e = go (λ p u y q. items_found fuel t r p u y c q) (front_code text == 93) refl e
    where
      go : ((p : List ℕ) (u : Text) (y : Bytes) → read_items (λ bytes tail. read_element inner (spelled_type t ++ r) bytes tail) fuel p u ≡ Some y → Others_is o k t 93 u y.1) → (b : Bool) → (front_code text == 93) ≡ b → cond b (some {A = Bytes} (out, drop 1 text)) (after_byte 32 text >>= λ next. read_element inner (spelled_type t ++ r) out next >>= λ y. read_items (λ bytes tail. read_element inner (spelled_type t ++ r) bytes tail) fuel y.1 y.2) ≡ Some x → Others_is o k t 93 text x.1
      go later true h q =
          let here : Bytes = (out, drop 1 text) in
          subst (λ (y : Bytes). Others_is o k t 93 text y.1) (same_Some here x q) (record { values = no_more; typed = refl; range = refl; deep = omega arith; is = front_is text 92 h })
      go later false h q =
          let s = bound (after_byte 32 text) (λ next. read_element inner (spelled_type t ++ r) out next >>= λ y. read_items (λ bytes tail. read_element inner (spelled_type t ++ r) bytes tail) fuel y.1 y.2) x q in
          let y = bound (read_element inner (spelled_type t ++ r) out s.0) (λ y. read_items (λ bytes tail. read_element inner (spelled_type t ++ r) bytes tail) fuel y.1 y.2) x s.2 in
          let f = (element_found t r out s.0 y.0 c y.1).1 in
          let g = later y.0.1 y.0.2 x y.2 in
          record {
            values = more f.value g.values;
            typed = and_from _ _ (same_typed t f.value f.typed) g.typed;
            range = and_from _ _ f.range g.range;
            deep = max_below (depth_said f.value) (depths_said g.values) k f.deep g.deep;
            is = after_byte_is 32 text s.0 s.1 ∙ ap (λ (w : List ℕ). 32 ∷ w) (f.is ∙ ap (λ (w : List ℕ). value_text o f.value ++ w) g.is) ∙ next_text (value_text o f.value) (others_text o g.values) (93 ∷ x.1);
          }

  array_found : (t : Complete) (r out : List ℕ) (text : Text) (x : Value) → is_element_type t ≡ true → read_array o inner (spelled_type t ++ r) out text ≡ Some x → (x.0 ≡ r) × Found o (suc k) (array t) text x.2
  array_found t r out text x c e =
      let types = spelled_type t ++ r in
      let n = alignment_by (front_code types) in
      let front = before_elements n out in
      let item : List ℕ → Text → Option Value = λ bytes tail. read_element inner types bytes tail in
      let done : Bytes → Option Value = λ y. some {A = Value} (behind 0 types, with_len o (length (with_gap 4 out)) (length front) y.0, y.1) in
      let s = bound (after_byte 91 text) (λ start. read_elements item front start >>= done) x e in
      let y = bound (read_elements item front s.0) done x s.2 in
      let here : Value = (behind 0 types, with_len o (length (with_gap 4 out)) (length front) y.0.0, y.0.1) in
      let same : here ≡ x = same_Some here x y.2 in
      let f = go s.0 y.0 item refl (front_code s.0 == 93) refl y.1 in (
        ap (λ (v : Value). v.0) (sym same) ∙ type_in_front types t r refl,
        record {
          value = f.value;
          typed = f.typed;
          range = f.range;
          deep = f.deep;
          is = after_byte_is 91 text s.0 s.1 ∙ f.is ∙ ap (λ (v : Value). value_text o f.value ++ v.2) same;
        },
      )
    where
      go : (start : Text) (y : Bytes) (item : List ℕ → Text → Option Value) → item ≡ (λ bytes tail. read_element inner (spelled_type t ++ r) bytes tail) → (b : Bool) → (front_code start == 93) ≡ b
          → (let front = before_elements (alignment_by (front_code (spelled_type t ++ r))) out in cond b (some {A = Bytes} (front, drop 1 start)) (item front start >>= λ v. read_items item (suc (length v.2)) v.1 v.2) ≡ Some y)
          → Found o (suc k) (array t) (91 ∷ start) y.1
      go start y item same true h q =
          let here : Bytes = (before_elements (alignment_by (front_code (spelled_type t ++ r))) out, drop 1 start) in
          subst (λ (v : Bytes). Found o (suc k) (array t) (91 ∷ start) v.1) (same_Some here y q) (record { value = says_array t no_more; typed = refl; range = refl; deep = omega arith; is = ap (λ (w : List ℕ). 91 ∷ w) (front_is start 92 h) })
      go start y item same false h q =
          let front = before_elements (alignment_by (front_code (spelled_type t ++ r))) out in
          let own : List ℕ → Text → Option Value = λ bytes tail. read_element inner (spelled_type t ++ r) bytes tail in
          let q' = subst (λ (i : List ℕ → Text → Option Value). (i front start >>= λ v. read_items i (suc (length v.2)) v.1 v.2) ≡ Some y) same q in
          let v = bound (own front start) (λ v. read_items own (suc (length v.2)) v.1 v.2) y q' in
          let f = (element_found t r front start v.0 c v.1).1 in
          let g = items_found (suc (length v.0.2)) t r v.0.1 v.0.2 y c v.2 in
          record {
            value = says_array t (more f.value g.values);
            typed = refl;
            range = and_from _ _ (and_from _ _ (same_typed t f.value f.typed) g.typed) (and_from _ _ f.range g.range);
            deep = omega (arith, max_below (depth_said f.value) (depths_said g.values) k f.deep g.deep, f.deep);
            is = ap (λ (w : List ℕ). 91 ∷ w) (f.is ∙ ap (λ (w : List ℕ). value_text o f.value ++ w) g.is) ∙ list_text 91 93 (value_text o f.value) (others_text o g.values) y.1;
          }

  members_found : (fuel : ℕ) (ts : Completes) (r out : List ℕ) (text : Text) (x : Value) → are_complete ts ≡ true → read_members inner fuel (spelled_members ts ++ 41 ∷ r) out text ≡ Some x → (x.0 ≡ r) × Members_is o k ts text x.2
  members_found zero ts r out text x c e = absurd cc
  members_found (suc fuel) no_types r out text x c e =
      let s = bound (after_byte 41 text) (λ rest. some {A = Value} (r, out, rest)) x e in
      let here : Value = (r, out, s.0) in
      let same : here ≡ x = same_Some here x s.2 in (
        ap (λ (v : Value). v.0) (sym same),
        record { values = no_more; typed = refl; range = refl; deep = omega arith; is = after_byte_is 41 text s.0 s.1 ∙ ap (λ (v : Value). 41 ∷ v.2) same },
      )
  members_found (suc fuel) (and t ts) r out text x c e =
      let u = and_parts (is_complete t) (are_complete ts) c in
      let members = spelled_members ts ++ 41 ∷ r in
      let types = spelled_type t ++ members in
      let on : Value → Option Value = λ y. read_members inner fuel y.0 y.1 y.2 in
      let e' = sym (ap (λ (q : Bool). cond q (after_byte 41 text >>= λ rest. some {A = Value} (drop 1 types, out, rest)) (after_byte 32 text >>= λ next. inner types out next >>= on)) (type_front t members).1)
      ∙ sym (ap (λ (b : List ℕ). read_members inner (suc fuel) b out text) (append_assoc (spelled_type t) (spelled_members ts) (41 ∷ r))) ∙ e in
      let s = bound (after_byte 32 text) (λ next. inner types out next >>= on) x e' in
      let y = bound (inner types out s.0) on x s.2 in
      let f = finds t members out s.0 y.0 u.0 y.1 in
      let g = members_found fuel ts r y.0.1 y.0.2 x u.1 (ap (λ (b : List ℕ). read_members inner fuel b y.0.1 y.0.2) (sym f.0) ∙ y.2) in (
        g.0,
        record {
          values = more f.1.value g.1.values;
          typed = ap₂ and f.1.typed g.1.typed;
          range = and_from _ _ f.1.range g.1.range;
          deep = max_below (depth_said f.1.value) (depths_said g.1.values) k f.1.deep g.1.deep;
          is = after_byte_is 32 text s.0 s.1 ∙ ap (λ (w : List ℕ). 32 ∷ w) (f.1.is ∙ ap (λ (w : List ℕ). value_text o f.1.value ++ w) g.1.is) ∙ next_text (value_text o f.1.value) (others_text o g.1.values) (41 ∷ x.2);
        },
      )

  struct_found : (t : Complete) (ts : Completes) (r out : List ℕ) (text : Text) (x : Value) → (is_complete t && are_complete ts) ≡ true → read_struct inner (spelled_type t ++ (spelled_members ts ++ 41 ∷ r)) out text ≡ Some x → (x.0 ≡ r) × Found o (suc k) (struct t ts) text x.2
  struct_found t ts r out text x c e =
      let u = and_parts (is_complete t) (are_complete ts) c in
      let members = spelled_members ts ++ 41 ∷ r in
      let types = spelled_type t ++ members in
      let on : Value → Option Value = λ y. read_members inner (suc (length y.0)) y.0 y.1 y.2 in
      let s = bound (after_byte 40 text) (λ start. inner types (with_gap 8 out) start >>= on) x e in
      let y = bound (inner types (with_gap 8 out) s.0) on x s.2 in
      let f = finds t members (with_gap 8 out) s.0 y.0 u.0 y.1 in
      let g = members_found (suc (length y.0.0)) ts r y.0.1 y.0.2 x u.1 (ap (λ (b : List ℕ). read_members inner (suc (length y.0.0)) b y.0.1 y.0.2) (sym f.0) ∙ y.2) in (
        g.0,
        record {
          value = says_struct f.1.value g.1.values;
          typed = ap₂ struct f.1.typed g.1.typed;
          range = and_from _ _ f.1.range g.1.range;
          deep = omega (arith, max_below (depth_said f.1.value) (depths_said g.1.values) k f.1.deep g.1.deep, f.1.deep);
          is = after_byte_is 40 text s.0 s.1 ∙ ap (λ (w : List ℕ). 40 ∷ w) (f.1.is ∙ ap (λ (w : List ℕ). value_text o f.1.value ++ w) g.1.is) ∙ list_text 40 41 (value_text o f.1.value) (others_text o g.1.values) x.2;
        },
      )

  variant_found : (no_type : (out : List ℕ) (text : Text) → inner [] out text ≡ None) (out : List ℕ) (text : Text) (x : Bytes) → read_variant inner out text ≡ Some x → Found o (suc k) variant text x.1
  variant_found no_type out text x e =
      let s = bound (after_byte 60 text) (λ start. read_typed inner out start >>= λ y. after_byte 62 y.1 >>= λ rest. some {A = Bytes} (y.0, rest)) x e in
      let y = bound (read_typed inner out s.0) (λ y. after_byte 62 y.1 >>= λ rest. some {A = Bytes} (y.0, rest)) x s.2 in
      let rest = bound (after_byte 62 y.0.1) (λ rest. some {A = Bytes} (y.0.0, rest)) x y.2 in
      let here : Bytes = (y.0.0, rest.0) in
      let same : here ≡ x = same_Some here x rest.2 in
      let f = typed_is o k inner finds no_type out s.0 y.0 y.1 in
      let spelling = spelled_type (type_said f.value) in
      record {
        value = says_variant f.value;
        typed = refl;
        range = and_from _ _ f.sound f.range;
        deep = omega (arith, f.deep);
        is = after_byte_is 60 text s.0 s.1
            ∙ ap (λ (w : List ℕ). 60 ∷ w) (f.is ∙ ap (λ (w : List ℕ). spelling ++ 32 ∷ (value_text o f.value ++ w)) (after_byte_is 62 y.0.1 rest.0 rest.1))
            ∙ variant_text spelling (value_text o f.value) rest.0
            ∙ ap (λ (b : Bytes). value_text o (says_variant f.value) ++ b.1) same;
      }

-- ---- all values

pub no_type_read : (k : ℕ) (o : Order) (out : List ℕ) (text : Text) → read_within k o [] out text ≡ None
unfolding read_within
no_type_read zero o out text = refl
no_type_read (suc k) o out text = refl

nothing_read : (o : Order) (types out : List ℕ) (text : Text) → read_within 0 o types out text ≡ None
unfolding read_within
nothing_read o types out text = refl

nothing_is : {A : Type 0} (x : Value) → None ≡ some x → A
nothing_is x e = absurd cc

pub finds : (k : ℕ) (o : Order) → Finds o k (read_within k o)
finds zero o t r out text x c e = nothing_is x (sym (nothing_read o (spelled_type t ++ r) out text) ∙ e)
finds (suc k) o (basic b) r out text x c e =
    let s = of_types_is r (read_basic o (code b) out text) x (sym (basic_coded b o k out r text) ∙ sym (plain (basic b) (read_within (suc k) o) out r text refl) ∙ e) in
    let f = basic_found b o out text s.0 s.1 in
    (s.2, record { value = f.value; typed = f.typed; range = f.range; deep = omega (arith, f.flat); is = f.is ∙ ap (λ (w : List ℕ). value_text o f.value ++ w) (sym s.3) })
finds (suc k) o variant r out text x c e =
    let s = of_types_is r (read_variant (read_within k o) out text) x (sym (variant_coded o k out r text) ∙ sym (plain variant (read_within (suc k) o) out r text refl) ∙ e) in
    let f = variant_found o k (read_within k o) (finds k o) (no_type_read k o) out text s.0 s.1 in
    (s.2, record { value = f.value; typed = f.typed; range = f.range; deep = f.deep; is = f.is ∙ ap (λ (w : List ℕ). value_text o f.value ++ w) (sym s.3) })
finds (suc k) o (array t) r out text x c e =
    array_found o k (read_within k o) (finds k o) t r out text x c (sym (array_coded o k out (spelled_type t ++ r) text) ∙ sym (plain (array t) (read_within (suc k) o) out r text c) ∙ e)
finds (suc k) o (struct t ts) r out text x c e =
    struct_found o k (read_within k o) (finds k o) t ts r out text x c (sym (struct_coded o k out (spelled_type t ++ (spelled_members ts ++ 41 ∷ r)) text) ∙ sym (ap (λ (b : List ℕ). read_element (read_within (suc k) o) b out text) (struct_regrouped t ts r)) ∙ sym (plain (struct t ts) (read_within (suc k) o) out r text c) ∙ e)
finds (suc k) o (entry a t) r out text x c e = absurd cc
