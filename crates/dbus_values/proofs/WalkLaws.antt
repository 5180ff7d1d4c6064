-- Values end where passing over them ends, by the codes of their types.
use Rattle.std.proofs.Common.{◌≡◌, ℕ, zero, suc, ◌+◌, ◌<◌, ◌≤◌, ◌^◌, Bool, true, false, cond, List, [], ◌∷◌, ◌++◌, length, drop, Option, Some, None, refl, sym, ap, subst, ◌∙◌, append_assoc, arith}
use Rattle.std.specs.Prelude.{◌==◌, ◌&&◌, nat_lt, nat_le, is_some, not, Result, Ok, Err}
use Rattle.std.specs.Int.{w32, byte_len}
use Rattle.std.specs.List.{list_all}
use Rattle.std.proofs.lemmas.List.{length-append, length-replicate}
use Rattle.std.proofs.lemmas.Bool.{and_parts, eq-eqb, ne_eqb, eqb-true, eqb-false}
use Rattle.byte_lists.proofs.Bytes.{AreBytes-drop, not_empty}
use Rattle.byte_lists.specs.Bytes.{AreBytes}
use Rattle.byte_lists.proofs.Options.{some}
use Rattle.dbus_names.specs.Names.{is_empty}
use Rattle.dbus_types.specs.Signature.{Number, byte, boolean, int16, uint16, int32, uint32, int64, uint64, double, handle, number, string, path, signature, Complete, basic, variant, array, struct, entry, Completes, no_types, and, spelled_type, spelled_members, spelled_types, is_complete, is_element_type, are_complete, is_basic, is_signature, is_shallow, signature_fault, fault_of_types}
use Rattle.dbus_types.specs.declared.BadSignature.TheVariants.{TooLong, Form, Depth}
use Rattle.dbus_types.proofs.SignatureLaws.{types_of-spelled_types}
use Rattle.dbus_types.specs.Behind.{behind}
use Rattle.dbus_types.proofs.BehindLaws.{type_in_front}
use Rattle.dbus_values.specs.Values.{Value, a_variant, an_array, a_struct, an_entry, Values, no_values, value, width, alignment, padding}
use Rattle.dbus_values.specs.Reading.{At, ◌>>=◌, when, some_bytes, aligned, a_width, signature_at, to_the_end, each_of, one_type, element_at, value_by, value_within, value_at, values_at, and_then_all}
use Rattle.dbus_values.specs.Ends.{end_of, values_end}
use Rattle.dbus_values.specs.Walk.{Walk, alignment_by, front_code, behind_entry, walk_text, walk_entry, walk_element, has_more, walk_to_end, numbers_fill, elements_fill, walk_array, walk_members, walk_struct, walk_variant, with_types, walk_by, walk_within, walk_types, walked, end_at}
use Rattle.dbus_values.proofs.ValueRead.{some_bytes-takes, aligned-takes, width-takes, signature-takes, read_32}
use Rattle.dbus_values.proofs.ValueIs.{elem_is, within-is}
use Rattle.dbus_values.proofs.ValueAgain.{basic_complete}
use Rattle.dbus_values.proofs.WalkBasic.{ends, ended, with_ended, IsFree, number_ended, boolean_ended, text_ended, path_ended, signature_ended, respelled, signature_respelled}
use Rattle.dbus_values.specs.declared.Order.{Order}
use Rattle.dbus_values.specs.declared.BadValue.{BadValue}
use Rattle.dbus_values.proofs.WalkNumbers.{type_front, type_len, struct_regrouped, entry_regrouped, aligned_place, Walks, walk_nothing, numbers_filled}

module _ (o : Order) (k : ℕ) (walks : Walks k o) where
  abbrev inner : Complete → At → Option (Value × At)
  inner = value_within k o

  abbrev walk : Walk
  walk = walk_within k o

  are_behind : (t : Complete) (a : At) (x : Value × At) → is_complete t ≡ true → AreBytes a.bytes → inner t a ≡ Some x → AreBytes x.1.bytes
  are_behind t a x c h e = (within-is k o t a x c h e).takes.are

  -- ---- entries and elements

  abbrev keyed : Complete → Value × At → Option (Value × At)
  keyed t y = inner t y.1 >>= λ z. Some (an_entry y.0 z.0, z.1)

  entry_ends : (kt t : Complete) (rest : List ℕ) (a : At) → is_complete kt ≡ true → is_complete t ≡ true → AreBytes a.bytes → walk_entry walk (spelled_type kt ++ (spelled_type t ++ 125 ∷ rest)) a ≡ ends rest (element_at inner (entry kt t) a)
  entry_ends kt t rest a ck ct are = start (aligned 8 a) refl
    where
      last : (y : Value × At) (z : Option (Value × At)) → behind_entry (ends (125 ∷ rest) z) ≡ ends rest (z >>= λ w. Some (an_entry y.0 w.0, w.1))
      last y None = refl
      last y (Some z) = refl

      key : (s : At) → AreBytes s.bytes → (y : Option (Value × At)) → inner kt s ≡ y → (ends (spelled_type t ++ 125 ∷ rest) y >>= λ x. behind_entry (walk x.0 x.1)) ≡ ends rest (y >>= keyed t)
      key s h None e = refl
      key s h (Some y) e = ap behind_entry (walks t (125 ∷ rest) y.1 ct (are_behind kt s y ck h e)) ∙ last y (inner t y.1)

      start : (s : Option At) → aligned 8 a ≡ s → (s >>= λ b. walk (spelled_type kt ++ (spelled_type t ++ 125 ∷ rest)) b >>= λ x. behind_entry (walk x.0 x.1)) ≡ ends rest (s >>= λ b. inner kt b >>= keyed t)
      start None e = refl
      start (Some b) e =
          let h = (aligned-takes 8 a b are e).are in
          ap (λ (x : Option (List ℕ × At)). x >>= λ y. behind_entry (walk y.0 y.1)) (walks kt (spelled_type t ++ 125 ∷ rest) b ck h) ∙ key b h (inner kt b) refl

  element_ends : (t : Complete) (rest : List ℕ) (a : At) → is_element_type t ≡ true → AreBytes a.bytes → walk_element walk (spelled_type t ++ rest) a ≡ ends rest (element_at inner t a)
  element_ends (basic (number byte)) rest a c h = walks (basic (number byte)) rest a refl h
  element_ends (basic (number boolean)) rest a c h = walks (basic (number boolean)) rest a refl h
  element_ends (basic (number int16)) rest a c h = walks (basic (number int16)) rest a refl h
  element_ends (basic (number uint16)) rest a c h = walks (basic (number uint16)) rest a refl h
  element_ends (basic (number int32)) rest a c h = walks (basic (number int32)) rest a refl h
  element_ends (basic (number uint32)) rest a c h = walks (basic (number uint32)) rest a refl h
  element_ends (basic (number int64)) rest a c h = walks (basic (number int64)) rest a refl h
  element_ends (basic (number uint64)) rest a c h = walks (basic (number uint64)) rest a refl h
  element_ends (basic (number double)) rest a c h = walks (basic (number double)) rest a refl h
  element_ends (basic (number handle)) rest a c h = walks (basic (number handle)) rest a refl h
  element_ends (basic string) rest a c h = walks (basic string) rest a refl h
  element_ends (basic path) rest a c h = walks (basic path) rest a refl h
  element_ends (basic signature) rest a c h = walks (basic signature) rest a refl h
  element_ends variant rest a c h = walks variant rest a refl h
  element_ends (array t) rest a c h = walks (array t) rest a c h
  element_ends (struct t ts) rest a c h = walks (struct t ts) rest a c h
  element_ends (entry kt t) rest a c h =
      let u = and_parts (is_basic kt) (is_complete t) c in
      ap (λ (x : List ℕ). walk_element walk x a) (entry_regrouped kt t rest) ∙ entry_ends kt t rest a (basic_complete kt u.0) u.1 h

  -- ---- up to the end

  element_are : (t : Complete) (a : At) (x : Value × At) → is_element_type t ≡ true → AreBytes a.bytes → element_at inner t a ≡ Some x → AreBytes x.1.bytes
  element_are t a x c h e = (elem_is o k inner (within-is k o) t a x c h e).takes.are

  abbrev others_of : Complete → ℕ → Value × At → Option Values
  others_of t fuel x = to_the_end (element_at inner t) fuel x.1 >>= λ xs. Some (value x.0 xs)

  to_end : (t : Complete) (rest : List ℕ) (fuel : ℕ) (a : At) → is_element_type t ≡ true → AreBytes a.bytes → walk_to_end (walk_element walk (spelled_type t ++ rest)) fuel a ≡ is_some (to_the_end (element_at inner t) fuel a)
  to_end t rest zero a c h = refl
  to_end t rest (suc fuel) a c h = go (is_empty a.bytes) (to_end t rest fuel) (element_at inner t a) refl
    where
      valued : (v : Value) (xs : Option Values) → is_some xs ≡ is_some (xs >>= λ ys. Some (value v ys))
      valued v None = refl
      valued v (Some xs) = refl

      next : ((b : At) → is_element_type t ≡ true → AreBytes b.bytes → walk_to_end (walk_element walk (spelled_type t ++ rest)) fuel b ≡ is_some (to_the_end (element_at inner t) fuel b)) → (x : Option (Value × At)) → element_at inner t a ≡ x
          → has_more (ends rest x) (walk_to_end (walk_element walk (spelled_type t ++ rest)) fuel) ≡ is_some (x >>= others_of t fuel)
      next ih None e = refl
      next ih (Some x) e = ih x.1 c (element_are t a x c h e) ∙ valued x.0 (to_the_end (element_at inner t) fuel x.1)

      go : (b : Bool) → ((b : At) → is_element_type t ≡ true → AreBytes b.bytes → walk_to_end (walk_element walk (spelled_type t ++ rest)) fuel b ≡ is_some (to_the_end (element_at inner t) fuel b)) → (x : Option (Value × At)) → element_at inner t a ≡ x
          → cond b true (has_more (walk_element walk (spelled_type t ++ rest) a) (walk_to_end (walk_element walk (spelled_type t ++ rest)) fuel)) ≡ is_some (cond b (Some no_values) (element_at inner t a >>= others_of t fuel))
      go true ih x e = refl
      go false ih x e = ap (λ (y : Option (List ℕ × At)). has_more y (walk_to_end (walk_element walk (spelled_type t ++ rest)) fuel)) (element_ends t rest a c h)
          ∙ next ih (element_at inner t a) refl

  -- ---- structs

  abbrev members_end : List ℕ → Option (Values × At) → Option (List ℕ × At)
  members_end rest None = None
  members_end rest (Some x) = Some (rest, x.1)

  abbrev with_first : Value × At → Values × At → Option (Values × At)
  with_first y ys = Some (value y.0 ys.0, ys.1)

  members_ends : (ts : Completes) (rest : List ℕ) (fuel : ℕ) (a : At) → length (spelled_members ts ++ 41 ∷ rest) ≤ fuel → are_complete ts ≡ true → AreBytes a.bytes → walk_members walk fuel (spelled_members ts ++ 41 ∷ rest) a ≡ members_end rest (each_of inner ts a)
  members_ends no_types rest zero a f c h = absurd (omega (arith, f))
  members_ends no_types rest (suc fuel) a f c h = refl
  members_ends (and t ts) rest zero a f c h = absurd (omega (arith, f, type_len t, length-append (spelled_type t) (spelled_members ts), length-append (spelled_type t ++ spelled_members ts) (41 ∷ rest)))
  members_ends (and t ts) rest (suc fuel) a f c h = go (members_ends ts rest fuel)
    where
      more : List ℕ
      more = spelled_members ts ++ 41 ∷ rest

      joined : (y : Value × At) (ys : Option (Values × At)) → members_end rest ys ≡ members_end rest (ys >>= with_first y)
      joined y None = refl
      joined y (Some ys) = refl

      next : ((b : At) → length (spelled_members ts ++ 41 ∷ rest) ≤ fuel → are_complete ts ≡ true → AreBytes b.bytes → walk_members walk fuel (spelled_members ts ++ 41 ∷ rest) b ≡ members_end rest (each_of inner ts b)) → (y : Option (Value × At)) → inner t a ≡ y
          → (ends (spelled_members ts ++ 41 ∷ rest) y >>= λ x. walk_members walk fuel x.0 x.1) ≡ members_end rest (y >>= λ z. each_of inner ts z.1 >>= with_first z)
      next ih None e = refl
      next ih (Some y) e =
          let u = and_parts (is_complete t) (are_complete ts) c in
          ih y.1 (omega (arith, f, type_len t, length-append (spelled_type t) (spelled_members ts), length-append (spelled_type t ++ spelled_members ts) (41 ∷ rest), length-append (spelled_members ts) (41 ∷ rest))) u.1 (are_behind t a y u.0 h e) ∙ joined y (each_of inner ts y.1)

      go : ((b : At) → length (spelled_members ts ++ 41 ∷ rest) ≤ fuel → are_complete ts ≡ true → AreBytes b.bytes → walk_members walk fuel (spelled_members ts ++ 41 ∷ rest) b ≡ members_end rest (each_of inner ts b))
          → walk_members walk (suc fuel) (spelled_members (and t ts) ++ 41 ∷ rest) a ≡ members_end rest (each_of inner (and t ts) a)
      go ih =
          let u = and_parts (is_complete t) (are_complete ts) c in
          ap (λ (x : List ℕ). walk_members walk (suc fuel) x a) (append_assoc (spelled_type t) (spelled_members ts) (41 ∷ rest))
          ∙ ap (λ (b : Bool). cond b (some (drop 1 (spelled_type t ++ (spelled_members ts ++ 41 ∷ rest)), a)) (walk (spelled_type t ++ (spelled_members ts ++ 41 ∷ rest)) a >>= λ x. walk_members walk fuel x.0 x.1)) (type_front t (spelled_members ts ++ 41 ∷ rest)).1
          ∙ ap (λ (x : Option (List ℕ × At)). x >>= λ y. walk_members walk fuel y.0 y.1) (walks t (spelled_members ts ++ 41 ∷ rest) a u.0 h)
          ∙ next ih (inner t a) refl

  abbrev struct_with : Value × At → Values × At → Option (Value × At)
  struct_with y ys = Some (a_struct y.0 ys.0, ys.1)

  struct_ends : (t : Complete) (ts : Completes) (rest : List ℕ) (a : At) → is_complete (struct t ts) ≡ true → AreBytes a.bytes → walk_struct walk (spelled_type t ++ (spelled_members ts ++ 41 ∷ rest)) a ≡ ends rest (value_by o inner (struct t ts) a)
  struct_ends t ts rest a c h = start (aligned 8 a) refl
    where
      u : (is_complete t ≡ true) × (are_complete ts ≡ true)
      u = and_parts (is_complete t) (are_complete ts) c

      joined : (y : Value × At) (ys : Option (Values × At)) → members_end rest ys ≡ ends rest (ys >>= struct_with y)
      joined y None = refl
      joined y (Some ys) = refl

      first : (s : At) → AreBytes s.bytes → (y : Option (Value × At)) → inner t s ≡ y
          → (ends (spelled_members ts ++ 41 ∷ rest) y >>= λ x. walk_members walk (suc (length x.0)) x.0 x.1) ≡ ends rest (y >>= λ z. each_of inner ts z.1 >>= struct_with z)
      first s hs None e = refl
      first s hs (Some y) e = members_ends ts rest (suc (length (spelled_members ts ++ 41 ∷ rest))) y.1 (omega arith) u.1 (are_behind t s y u.0 hs e) ∙ joined y (each_of inner ts y.1)

      start : (s : Option At) → aligned 8 a ≡ s
          → (s >>= λ b. walk (spelled_type t ++ (spelled_members ts ++ 41 ∷ rest)) b >>= λ x. walk_members walk (suc (length x.0)) x.0 x.1) ≡ ends rest (s >>= λ b. inner t b >>= λ z. each_of inner ts z.1 >>= struct_with z)
      start None e = refl
      start (Some b) e =
          let hb = (aligned-takes 8 a b h e).are in
          ap (λ (x : Option (List ℕ × At)). x >>= λ y. walk_members walk (suc (length y.0)) y.0 y.1) (walks t (spelled_members ts ++ 41 ∷ rest) b u.0 hb) ∙ first b hb (inner t b) refl

  -- ---- variants

  abbrev valued_of : At → Complete → Option (Value × At)
  valued_of b t = inner t b >>= λ y. Some (a_variant y.0, y.1)

  first_complete : (t : Complete) (ts : List Complete) → is_signature (t ∷ ts) ≡ true → is_complete t ≡ true
  first_complete t ts s =
      let a = and_parts (list_all is_complete (t ∷ ts) && list_all is_shallow (t ∷ ts)) (nat_le (length (spelled_types (t ∷ ts))) 255) s in
      let b = and_parts (list_all is_complete (t ∷ ts)) (list_all is_shallow (t ∷ ts)) a.0 in
      (and_parts (is_complete t) (list_all is_complete ts) b.0).0

  abbrev if_alone : List ℕ × At → Option At
  if_alone x = when (is_empty x.0) x.1

  one_of : (ts : List Complete) (b : At) → is_signature ts ≡ true → AreBytes b.bytes → (walk (spelled_types ts) b >>= if_alone) ≡ ended (one_type ts >>= valued_of b)
  one_of [] b s h = ap (λ (x : Option (List ℕ × At)). x >>= if_alone) (walk_nothing k o b)
  one_of (t ∷ []) b s h = ap (λ (x : Option (List ℕ × At)). x >>= if_alone) (walks t [] b (first_complete t [] s) h) ∙ alone (inner t b)
    where
      alone : (y : Option (Value × At)) → (ends [] y >>= if_alone) ≡ ended (y >>= λ z. Some (a_variant z.0, z.1))
      alone None = refl
      alone (Some y) = refl
  one_of (t ∷ u ∷ ts) b s h = ap (λ (x : Option (List ℕ × At)). x >>= if_alone) (walks t (spelled_types (u ∷ ts)) b (first_complete t (u ∷ ts) s) h) ∙ more (inner t b)
    where
      left : is_empty (spelled_types (u ∷ ts)) ≡ false
      left = not_empty (spelled_types (u ∷ ts)) (omega (arith, length-append (spelled_type u) (spelled_types ts), type_len u))

      more : (y : Option (Value × At)) → (ends (spelled_types (u ∷ ts)) y >>= if_alone) ≡ None
      more None = refl
      more (Some y) = ap (λ (b : Bool). when b y.1) left

  variant_ends : (a : At) → AreBytes a.bytes → walk_variant walk a ≡ ended (value_by o inner variant a)
  variant_ends a h = ap (λ (x : Option (List ℕ × At)). x >>= λ y. walk y.0 y.1 >>= if_alone) (signature_respelled a) ∙ go (signature_at a) refl
    where
      go : (ts : Option (List Complete × At)) → signature_at a ≡ ts → (respelled ts >>= λ y. walk y.0 y.1 >>= if_alone) ≡ ended (ts >>= λ y. one_type y.0 >>= valued_of y.1)
      go None e = refl
      go (Some ts) e = let s = signature-takes a ts h e in one_of ts.0 ts.1 s.1 s.0.are

  -- ---- arrays

  -- whether there are elements up to the end of the bytes
  abbrev are_elements : Complete → At → Bool
  are_elements t a = is_some (to_the_end (element_at inner t) (suc (length a.bytes)) a)

  numbers_end : (n : Number) → IsFree n → (a : At) → AreBytes a.bytes → padding (byte_len (width n)) a.place ≡ 0 → numbers_fill k (byte_len (width n)) a.bytes ≡ are_elements (basic (number n)) a
  numbers_end n free a h p = by_containers k refl
    where
      by_containers : (j : ℕ) → k ≡ j → numbers_fill k (byte_len (width n)) a.bytes ≡ are_elements (basic (number n)) a
      by_containers j e = subst (λ (i : ℕ). numbers_fill i (byte_len (width n)) a.bytes ≡ is_some (to_the_end (element_at (value_within i o) (basic (number n))) (suc (length a.bytes)) a)) (sym e) (numbers_filled o j n free a h p)

  elements_end : (t : Complete) (rest : List ℕ) (a : At) → is_element_type t ≡ true → AreBytes a.bytes → padding (alignment t) a.place ≡ 0 → elements_fill k walk (spelled_type t ++ rest) a ≡ are_elements t a
  elements_end (basic (number byte)) rest a c h p = numbers_end byte refl a h p
  elements_end (basic (number boolean)) rest a c h p = to_end (basic (number boolean)) rest (suc (length a.bytes)) a c h
  elements_end (basic (number int16)) rest a c h p = numbers_end int16 refl a h p
  elements_end (basic (number uint16)) rest a c h p = numbers_end uint16 refl a h p
  elements_end (basic (number int32)) rest a c h p = numbers_end int32 refl a h p
  elements_end (basic (number uint32)) rest a c h p = numbers_end uint32 refl a h p
  elements_end (basic (number int64)) rest a c h p = numbers_end int64 refl a h p
  elements_end (basic (number uint64)) rest a c h p = numbers_end uint64 refl a h p
  elements_end (basic (number double)) rest a c h p = numbers_end double refl a h p
  elements_end (basic (number handle)) rest a c h p = numbers_end handle refl a h p
  elements_end (basic string) rest a c h p = to_end (basic string) rest (suc (length a.bytes)) a c h
  elements_end (basic path) rest a c h p = to_end (basic path) rest (suc (length a.bytes)) a c h
  elements_end (basic signature) rest a c h p = to_end (basic signature) rest (suc (length a.bytes)) a c h
  elements_end variant rest a c h p = to_end variant rest (suc (length a.bytes)) a c h
  elements_end (array t) rest a c h p = to_end (array t) rest (suc (length a.bytes)) a c h
  elements_end (struct t ts) rest a c h p = to_end (struct t ts) rest (suc (length a.bytes)) a c h
  elements_end (entry kt t) rest a c h p = to_end (entry kt t) rest (suc (length a.bytes)) a c h

  abbrev array_of : Complete → ℕ → At → Values → Option (Value × At)
  array_of t n b vs = when (nat_le n (2 ^ 26)) (an_array t vs, b)

  array_ends : (t : Complete) (rest : List ℕ) (a : At) → is_element_type t ≡ true → AreBytes a.bytes → walk_array o k walk (spelled_type t ++ rest) a ≡ ends rest (value_by o inner (array t) a)
  array_ends t rest a c are = start (aligned 4 a) refl
    where
      types : List ℕ
      types = spelled_type t ++ rest

      follows : behind 0 (spelled_type t ++ rest) ≡ rest
      follows = type_in_front (spelled_type t ++ rest) t rest refl

      joined : (b : Bool) (vs : Option Values) (x : At) → when (b && is_some vs) (rest, x) ≡ ends rest (vs >>= λ ws. when b (an_array t ws, x))
      joined true None x = refl
      joined true (Some vs) x = refl
      joined false None x = refl
      joined false (Some vs) x = refl

      items : (n : ℕ) (f : At) → AreBytes f.bytes → padding (alignment t) f.place ≡ 0 → (x : Option (List ℕ × At)) → some_bytes n f ≡ x
          → (x >>= λ y. when (nat_le n (2 ^ 26) && elements_fill k walk (spelled_type t ++ rest) (record { place = f.place; bytes = y.0 })) (behind 0 (spelled_type t ++ rest), y.1))
          ≡ ends rest (x >>= λ y. to_the_end (element_at inner t) (suc n) (record { place = f.place; bytes = y.0 }) >>= array_of t n y.1)
      items n f h p None e = refl
      items n f h p (Some x) e =
          let body = some_bytes-takes n f x h e in
          let there : At = record { place = f.place; bytes = x.0 } in
          ap (λ (r : List ℕ). when (nat_le n (2 ^ 26) && elements_fill k walk (spelled_type t ++ rest) there) (r, x.1)) follows
          ∙ ap (λ (b : Bool). when (nat_le n (2 ^ 26) && b) (rest, x.1)) (elements_end t rest there c body.2 p ∙ ap (λ (m : ℕ). is_some (to_the_end (element_at inner t) (suc m) there)) body.1)
          ∙ joined (nat_le n (2 ^ 26)) (to_the_end (element_at inner t) (suc n) there) x.1

      first : (n : ℕ × At) → AreBytes n.1.bytes → (f : Option At) → aligned (alignment t) n.1 ≡ f
          → (f >>= λ g. some_bytes n.0 g >>= λ y. when (nat_le n.0 (2 ^ 26) && elements_fill k walk (spelled_type t ++ rest) (record { place = g.place; bytes = y.0 })) (behind 0 (spelled_type t ++ rest), y.1))
          ≡ ends rest (f >>= λ g. some_bytes n.0 g >>= λ y. to_the_end (element_at inner t) (suc n.0) (record { place = g.place; bytes = y.0 }) >>= array_of t n.0 y.1)
      first n h None e = refl
      first n h (Some f) e =
          let pad = aligned-takes (alignment t) n.1 f h e in
          items n.0 f pad.are (ap (padding (alignment t)) (pad.place ∙ ap (λ (m : ℕ). n.1.place + m) (length-replicate {A = ℕ} (padding (alignment t) n.1.place) 0)) ∙ aligned_place t n.1.place) (some_bytes n.0 f) refl

      len : (s : At) → AreBytes s.bytes → (n : Option (ℕ × At)) → a_width o w32 s ≡ n
          → (n >>= λ m. aligned (alignment_by (front_code (spelled_type t ++ rest))) m.1 >>= λ g. some_bytes m.0 g >>= λ y. when (nat_le m.0 (2 ^ 26) && elements_fill k walk (spelled_type t ++ rest) (record { place = g.place; bytes = y.0 })) (behind 0 (spelled_type t ++ rest), y.1))
          ≡ ends rest (n >>= λ m. aligned (alignment t) m.1 >>= λ g. some_bytes m.0 g >>= λ y. to_the_end (element_at inner t) (suc m.0) (record { place = g.place; bytes = y.0 }) >>= array_of t m.0 y.1)
      len s h None e = refl
      len s h (Some n) e =
          ap (λ (d : ℕ). aligned d n.1 >>= λ g. some_bytes n.0 g >>= λ y. when (nat_le n.0 (2 ^ 26) && elements_fill k walk (spelled_type t ++ rest) (record { place = g.place; bytes = y.0 })) (behind 0 (spelled_type t ++ rest), y.1)) (type_front t rest).0
          ∙ first n (width-takes o w32 s n read_32 h e).are (aligned (alignment t) n.1) refl

      start : (s : Option At) → aligned 4 a ≡ s
          → (s >>= λ b. a_width o w32 b >>= λ m. aligned (alignment_by (front_code (spelled_type t ++ rest))) m.1 >>= λ g. some_bytes m.0 g >>= λ y. when (nat_le m.0 (2 ^ 26) && elements_fill k walk (spelled_type t ++ rest) (record { place = g.place; bytes = y.0 })) (behind 0 (spelled_type t ++ rest), y.1))
          ≡ ends rest (s >>= λ b. a_width o w32 b >>= λ m. aligned (alignment t) m.1 >>= λ g. some_bytes m.0 g >>= λ y. to_the_end (element_at inner t) (suc m.0) (record { place = g.place; bytes = y.0 }) >>= array_of t m.0 y.1)
      start None e = refl
      start (Some b) e = len b (aligned-takes 4 a b are e).are (a_width o w32 b) refl

  -- ---- all values

  value_walks : (t : Complete) (rest : List ℕ) (a : At) → is_complete t ≡ true → AreBytes a.bytes → walk_by o k walk (spelled_type t ++ rest) a ≡ ends rest (value_by o inner t a)
  value_walks (basic (number byte)) rest a c h = ap (with_types rest) (number_ended o inner byte refl a h) ∙ with_ended rest (value_by o inner (basic (number byte)) a)
  value_walks (basic (number boolean)) rest a c h = ap (with_types rest) (boolean_ended o inner a) ∙ with_ended rest (value_by o inner (basic (number boolean)) a)
  value_walks (basic (number int16)) rest a c h = ap (with_types rest) (number_ended o inner int16 refl a h) ∙ with_ended rest (value_by o inner (basic (number int16)) a)
  value_walks (basic (number uint16)) rest a c h = ap (with_types rest) (number_ended o inner uint16 refl a h) ∙ with_ended rest (value_by o inner (basic (number uint16)) a)
  value_walks (basic (number int32)) rest a c h = ap (with_types rest) (number_ended o inner int32 refl a h) ∙ with_ended rest (value_by o inner (basic (number int32)) a)
  value_walks (basic (number uint32)) rest a c h = ap (with_types rest) (number_ended o inner uint32 refl a h) ∙ with_ended rest (value_by o inner (basic (number uint32)) a)
  value_walks (basic (number int64)) rest a c h = ap (with_types rest) (number_ended o inner int64 refl a h) ∙ with_ended rest (value_by o inner (basic (number int64)) a)
  value_walks (basic (number uint64)) rest a c h = ap (with_types rest) (number_ended o inner uint64 refl a h) ∙ with_ended rest (value_by o inner (basic (number uint64)) a)
  value_walks (basic (number double)) rest a c h = ap (with_types rest) (number_ended o inner double refl a h) ∙ with_ended rest (value_by o inner (basic (number double)) a)
  value_walks (basic (number handle)) rest a c h = ap (with_types rest) (number_ended o inner handle refl a h) ∙ with_ended rest (value_by o inner (basic (number handle)) a)
  value_walks (basic string) rest a c h = ap (with_types rest) (text_ended o inner a) ∙ with_ended rest (value_by o inner (basic string) a)
  value_walks (basic path) rest a c h = ap (with_types rest) (path_ended o inner a) ∙ with_ended rest (value_by o inner (basic path) a)
  value_walks (basic signature) rest a c h = ap (with_types rest) (signature_ended o inner a) ∙ with_ended rest (value_by o inner (basic signature) a)
  value_walks variant rest a c h = ap (with_types rest) (variant_ends a h) ∙ with_ended rest (value_by o inner variant a)
  value_walks (array t) rest a c h = array_ends t rest a c h
  value_walks (struct t ts) rest a c h = ap (λ (x : List ℕ). walk_by o k walk x a) (struct_regrouped t ts rest) ∙ struct_ends t ts rest a c h
  value_walks (entry kt t) rest a c h = absurd cc

-- a value ends where passing over it ends
pub value_walked : (k : ℕ) (o : Order) → Walks k o
unfolding walk_within
value_walked zero o t rest a c h = refl
value_walked (suc k) o t rest a c h = value_walks o k (value_walked k o) t rest a c h

-- ---- values one after the other

same_sucs : (a b : ℕ) → (suc a == suc b) ≡ (a == b)
same_sucs a b = go (a == b) refl
  where
    go : (t : Bool) → (a == b) ≡ t → (suc a == suc b) ≡ t
    go true e = eq-eqb (suc a) (suc b) (ap suc (eqb-true a b e))
    go false e = ne_eqb (suc a) (suc b) (λ s. eqb-false a b e (omega (arith, s)))

abbrev result_if : Bool → At → Result ℕ BadValue
result_if b x = cond b (Ok x.place) (Err (record { at = x.place }))

pub types_walked : (o : Order) (ts : List Complete) (fuel : ℕ) (a : At) → list_all is_complete ts ≡ true → length (spelled_types ts) < fuel → AreBytes a.bytes → end_at (walk_types (walk_within 65 o) fuel (spelled_types ts) a) ≡ end_of ts (values_at o ts a)
types_walked o ts zero a c f h = absurd (omega (arith, f))
types_walked o [] (suc fuel) a c f h = refl
types_walked o (t ∷ ts) (suc fuel) a c f h = go (types_walked o ts fuel)
  where
    u : (is_complete t ≡ true) × (list_all is_complete ts ≡ true)
    u = and_parts (is_complete t) (list_all is_complete ts) c

    there : is_empty (spelled_type t ++ spelled_types ts) ≡ false
    there = not_empty (spelled_type t ++ spelled_types ts) (omega (arith, type_len t, length-append (spelled_type t) (spelled_types ts)))

    step : ((b : At) → list_all is_complete ts ≡ true → length (spelled_types ts) < fuel → AreBytes b.bytes → end_at (walk_types (walk_within 65 o) fuel (spelled_types ts) b) ≡ end_of ts (values_at o ts b)) → (x : Option (Value × At)) → value_at o t a ≡ x
        → end_at (walked (ends (spelled_types ts) x) (spelled_type t ++ spelled_types ts, a) (walk_types (walk_within 65 o) fuel)) ≡ end_of (t ∷ ts) (and_then_all x a (λ v rest. values_at o ts rest))
    step ih None e =
        ap (λ (b : Bool). result_if b a) there
        ∙ ap (λ (b : Bool). result_if b a) (sym (ne_eqb 0 (suc (length ts)) (λ s. omega (arith, s))))
    step ih (Some x) e =
        ih x.1 u.1 (omega (arith, f, type_len t, length-append (spelled_type t) (spelled_types ts))) (within-is 65 o t a x u.0 h e).takes.are
        ∙ ap (λ (b : Bool). result_if b (values_at o ts x.1).1) (sym (same_sucs (length (values_at o ts x.1).0) (length ts)))

    go : ((b : At) → list_all is_complete ts ≡ true → length (spelled_types ts) < fuel → AreBytes b.bytes → end_at (walk_types (walk_within 65 o) fuel (spelled_types ts) b) ≡ end_of ts (values_at o ts b))
        → end_at (walk_types (walk_within 65 o) (suc fuel) (spelled_types (t ∷ ts)) a) ≡ end_of (t ∷ ts) (values_at o (t ∷ ts) a)
    go ih =
        ap (λ (b : Bool). end_at (cond b (spelled_type t ++ spelled_types ts, a) (walked (walk_within 65 o (spelled_type t ++ spelled_types ts) a) (spelled_type t ++ spelled_types ts, a) (walk_types (walk_within 65 o) fuel)))) there
        ∙ ap (λ (x : Option (List ℕ × At)). end_at (walked x (spelled_type t ++ spelled_types ts, a) (walk_types (walk_within 65 o) fuel))) (value_walked 65 o t (spelled_types ts) a u.0 h)
        ∙ step ih (value_at o t a) refl

-- ---- valid signatures

pub all_complete : (ts : List Complete) → signature_fault (spelled_types ts) ≡ None → list_all is_complete ts ≡ true
all_complete ts e = go (nat_lt 255 (length (spelled_types ts))) (list_all is_complete ts) refl (ap (λ (o : Option (List Complete)). cond (nat_lt 255 (length (spelled_types ts))) (Some TooLong) (fault_of_types o)) (sym (types_of-spelled_types ts)) ∙ e)
  where
    go : (long all : Bool) → list_all is_complete ts ≡ all → cond long (Some TooLong) (cond (not all) (Some Form) (cond (list_all is_shallow ts) None (Some Depth))) ≡ None → list_all is_complete ts ≡ true
    go true all a e = absurd cc
    go false true a e = a
    go false false a e = absurd cc

pub values_walked : (o : Order) (ts : List Complete) (types : List ℕ) (at : ℕ) (bytes rest : List ℕ) → signature_fault types ≡ None → types ≡ spelled_types ts → rest ≡ drop at bytes → AreBytes bytes
    → end_at (walk_types (walk_within 65 o) (suc (length types)) types (record { place = at; bytes = rest })) ≡ values_end o ts at bytes
values_walked o ts types at bytes rest valid is from h =
    ap (λ (s : List ℕ). end_at (walk_types (walk_within 65 o) (suc (length s)) s (record { place = at; bytes = rest }))) is
    ∙ ap (λ (r : List ℕ). end_at (walk_types (walk_within 65 o) (suc (length (spelled_types ts))) (spelled_types ts) (record { place = at; bytes = r }))) from
    ∙ types_walked o ts (suc (length (spelled_types ts))) (record { place = at; bytes = drop at bytes }) (all_complete ts (ap signature_fault (sym is) ∙ valid)) (omega arith) (AreBytes-drop at bytes h)

-- a body without values ends where it begins
pub nothing_walked : (o : Order) (types : List ℕ) (a : At) → length types ≡ 0 → end_at (walk_types (walk_within 65 o) (suc (length types)) types a) ≡ Ok a.place
nothing_walked o [] a none = refl
nothing_walked o (c ∷ types) a none = absurd (omega (arith, none))

-- a body that is one string ends where the string does
abbrev pub text_end : At → Option At → Result ℕ BadValue
text_end a None = Err (record { at = a.place })
text_end a (Some b) = Ok b.place

pub text_walked : (o : Order) (a : At) → text_end a (walk_text o a) ≡ end_at (walk_types (walk_within 65 o) 2 (115 ∷ []) a)
unfolding walk_within
text_walked o a = go (walk_text o a)
  where
    go : (x : Option At) → text_end a x ≡ end_at (walked (with_types [] x) (115 ∷ [], a) (walk_types (walk_within 65 o) 1))
    go None = refl
    go (Some b) = refl

pub one_type_walked : (types : List ℕ) → length types ≡ 1 → front_code types ≡ 115 → types ≡ 115 ∷ []
one_type_walked [] one code = absurd (omega (arith, one))
one_type_walked (c ∷ d ∷ types) one code = absurd (omega (arith, one))
one_type_walked (c ∷ []) one code = ap (λ (d : ℕ). d ∷ []) code
