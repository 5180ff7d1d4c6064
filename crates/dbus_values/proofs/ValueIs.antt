-- Each value that is read is of the type, is within the limits, and is spelled by what was taken.
use Rattle.std.proofs.Common.{◌≡◌, ℕ, zero, suc, ◌+◌, ◌^◌, ◌<◌, ◌≤◌, Bool, true, false, cond, List, [], ◌∷◌, ◌++◌, length, Option, Some, refl, sym, ap, subst, ◌∙◌, append_assoc, arith}
use Rattle.std.specs.Prelude.{◌&&◌, nat_lt, nat_le, bytes_eq}
use Rattle.std.specs.Int.{w32, byte_len}
use Rattle.std.proofs.lemmas.List.{length-replicate}
use Rattle.std.proofs.lemmas.Bool.{and_parts, and_from, le-leb, leb-true}
use Rattle.std.proofs.lemmas.Option.{same_Some}
use Rattle.byte_lists.proofs.Bytes.{bytes_eq-refl, empty_is}
use Rattle.byte_lists.specs.Bytes.{AreBytes}
use Rattle.dbus_names.specs.Names.{is_path, is_empty}
use Rattle.dbus_types.specs.Signature.{Number, number, string, path, signature, Complete, basic, variant, array, struct, entry, Completes, no_types, and, spelled_type, is_signature, is_complete, is_element_type, are_complete, is_basic}
use Rattle.dbus_values.specs.Values.{Value, a_number, a_string, a_path, a_signature, a_variant, an_array, a_struct, an_entry, Values, no_values, value, type_of, types_of, width, alignment, padding, zeros, number_bytes, spelled, spelled_all, spelled_signature, elements_place, depth, depths, limit, has_type, have_type, is_value, are_values}
use Rattle.dbus_values.specs.Reading.{At, ◌>>=◌, when, some_bytes, aligned, a_width, text_at, signature_at, to_the_end, each_of, one_type, element_at, value_by, value_within}
use Rattle.dbus_values.proofs.ValueRead.{Takes, takes_then, takes_as, bind_case, when_is, some_bytes-takes, aligned-takes, read_32, read_width, width-takes, text-takes, signature-takes, nothing_taken}
use Rattle.dbus_values.proofs.ValueLaws.{wide_32}
use Rattle.dbus_values.proofs.ValueAgain.{basic_complete, one_complete}
use Rattle.dbus_values.specs.declared.Order.{Order}

-- what was read from a up to b
pub record Spelt (o : Order) (k : ℕ) (t : Complete) (a : At) (x : Value × At) : Type 0 where
  pub type : type_of x.0 ≡ t
  pub deep : depth x.0 < k
  pub sound : is_value o a.place x.0 ≡ true
  pub takes : Takes a (spelled o a.place x.0) x.1

-- a reader that reads so
abbrev pub Reads : Order → ℕ → (Complete → At → Option (Value × At)) → Type 0
Reads o k inner = (t : Complete) (a : At) (x : Value × At) → is_complete t ≡ true → AreBytes a.bytes → inner t a ≡ Some x → Spelt o k t a x

pub one_type_is : (ts : List Complete) (t : Complete) → one_type ts ≡ Some t → ts ≡ t ∷ []
one_type_is [] t e = absurd cc
one_type_is (u ∷ []) t e = ap (λ (w : Complete). w ∷ []) (same_Some u t e)
one_type_is (u ∷ w ∷ ts) t e = absurd cc

place_is : (p n q : ℕ) (zs : List ℕ) → q ≡ p + length zs → length zs ≡ n → q ≡ p + n
place_is p n q zs e f = omega arith

module _ (o : Order) (k : ℕ) (inner : Complete → At → Option (Value × At)) (reads : Reads o k inner) where
  number_is : (n : Number) (a : At) (x : Value × At) → AreBytes a.bytes → value_by o inner (basic (number n)) a ≡ Some x → Spelt o (suc k) (basic (number n)) a x
  number_is n a x h e =
      bind_case (aligned (byte_len (width n)) a) _ x e (λ s es e1.
      bind_case (a_width o (width n) s) (λ y. when (nat_lt y.0 (limit n)) (a_number n y.0, y.1)) x e1 (λ y ey e2.
      let pad = aligned-takes (byte_len (width n)) a s h es in
      let num = width-takes o (width n) s y (read_width n) pad.are ey in
      let w = when_is (nat_lt y.0 (limit n)) (a_number n y.0, y.1) x e2 in
      subst (λ (z : Value × At). Spelt o (suc k) (basic (number n)) a z) w.1
      (record { type = refl; deep = omega arith; sound = w.0; takes = takes_then a s y.1 (zeros (byte_len (width n)) a.place) (number_bytes o (width n) y.0) pad num })))

  string_is : (a : At) (x : Value × At) → AreBytes a.bytes → value_by o inner (basic string) a ≡ Some x → Spelt o (suc k) (basic string) a x
  string_is a x h e =
      bind_case (text_at o a) (λ y. Some (a_string y.0, y.1)) x e (λ y ey e1.
      let t = text-takes o a y h ey in
      subst (λ (z : Value × At). Spelt o (suc k) (basic string) a z) (same_Some (a_string y.0, y.1) x e1)
      (record { type = refl; deep = omega arith; sound = t.1; takes = t.0 }))

  path_is : (a : At) (x : Value × At) → AreBytes a.bytes → value_by o inner (basic path) a ≡ Some x → Spelt o (suc k) (basic path) a x
  path_is a x h e =
      bind_case (text_at o a) (λ y. when (is_path y.0) (a_path y.0, y.1)) x e (λ y ey e1.
      let t = text-takes o a y h ey in
      let w = when_is (is_path y.0) (a_path y.0, y.1) x e1 in
      subst (λ (z : Value × At). Spelt o (suc k) (basic path) a z) w.1
      (record { type = refl; deep = omega arith; sound = and_from _ _ t.1 w.0; takes = t.0 }))

  signature_is : (a : At) (x : Value × At) → AreBytes a.bytes → value_by o inner (basic signature) a ≡ Some x → Spelt o (suc k) (basic signature) a x
  signature_is a x h e =
      bind_case (signature_at a) (λ y. Some (a_signature y.0, y.1)) x e (λ y ey e1.
      let t = signature-takes a y h ey in
      subst (λ (z : Value × At). Spelt o (suc k) (basic signature) a z) (same_Some (a_signature y.0, y.1) x e1)
      (record { type = refl; deep = omega arith; sound = t.1; takes = t.0 }))

  variant_joined : (a : At) (b : At) (y : Value × At) → Takes a (spelled_signature (type_of y.0 ∷ [])) b → is_signature (type_of y.0 ∷ []) ≡ true → Spelt o k (type_of y.0) b y → Spelt o (suc k) variant a (a_variant y.0, y.1)
  variant_joined a b y head ok s =
      let sound : is_value o (a.place + length (spelled_signature (type_of y.0 ∷ []))) y.0 ≡ true = subst (λ (p : ℕ). is_value o p y.0 ≡ true) head.place s.sound in
      let body : Takes b (spelled o (a.place + length (spelled_signature (type_of y.0 ∷ []))) y.0) y.1 = subst (λ (p : ℕ). Takes b (spelled o p y.0) y.1) head.place s.takes in
      record { type = refl; deep = omega (arith, s.deep); sound = and_from _ _ ok sound; takes = takes_then a b y.1 (spelled_signature (type_of y.0 ∷ [])) _ head body }

  variant_is : (a : At) (x : Value × At) → AreBytes a.bytes → value_by o inner variant a ≡ Some x → Spelt o (suc k) variant a x
  variant_is a x h e =
      bind_case (signature_at a) (λ ts. one_type ts.0 >>= λ t. inner t ts.1 >>= λ y. Some (a_variant y.0, y.1)) x e (λ ts ets e1.
      bind_case (one_type ts.0) (λ t. inner t ts.1 >>= λ y. Some (a_variant y.0, y.1)) x e1 (λ t et e2.
      bind_case (inner t ts.1) (λ y. Some (a_variant y.0, y.1)) x e2 (λ y ey e3.
      let head = signature-takes a ts h ets in
      let one = one_type_is ts.0 t et in
      let complete : is_complete t ≡ true = one_complete t (ap is_signature (sym one) ∙ head.1) in
      let s = reads t ts.1 y complete head.0.are ey in
      let same : ts.0 ≡ type_of y.0 ∷ [] = one ∙ ap (λ (w : Complete). w ∷ []) (sym s.type) in
      subst (λ (z : Value × At). Spelt o (suc k) variant a z) (same_Some (a_variant y.0, y.1) x e3)
      (variant_joined a ts.1 y (takes_as a ts.1 _ _ (ap spelled_signature same) head.0) (ap is_signature (sym same) ∙ head.1) (record { type = refl; deep = s.deep; sound = s.sound; takes = s.takes })))))

  -- ---- members one after the other

  abbrev EachSpelt : Completes → At → Values × At → Type 0
  EachSpelt ts a x = (types_of x.0 ≡ ts) × (depths x.0 < k) × (are_values o a.place x.0 ≡ true) × Takes a (spelled_all o a.place x.0) x.1

  both_joined : (a b c : At) (v : Value) (vs : Values) → is_value o a.place v ≡ true → Takes a (spelled o a.place v) b → are_values o b.place vs ≡ true → Takes b (spelled_all o b.place vs) c
      → (are_values o a.place (value v vs) ≡ true) × Takes a (spelled_all o a.place (value v vs)) c
  both_joined a b c v vs i p j q =
      let next = a.place + length (spelled o a.place v) in
      let sound : are_values o next vs ≡ true = subst (λ (n : ℕ). are_values o n vs ≡ true) p.place j in
      let more : Takes b (spelled_all o next vs) c = subst (λ (n : ℕ). Takes b (spelled_all o n vs) c) p.place q in
      (and_from _ _ i sound, takes_then a b c (spelled o a.place v) (spelled_all o next vs) p more)

  each_is : (ts : Completes) (a : At) (x : Values × At) → 0 < k → are_complete ts ≡ true → AreBytes a.bytes → each_of inner ts a ≡ Some x → EachSpelt ts a x
  each_is no_types a x pos c h e = subst (EachSpelt no_types a) (same_Some (no_values, a) x e) (refl, pos, refl, nothing_taken a h)
  each_is (and t ts) a x pos c h e = go (each_is ts)
    where
      go : ((b : At) (y : Values × At) → 0 < k → are_complete ts ≡ true → AreBytes b.bytes → each_of inner ts b ≡ Some y → EachSpelt ts b y) → EachSpelt (and t ts) a x
      go ih =
          let u = and_parts (is_complete t) (are_complete ts) c in
          bind_case (inner t a) (λ y. each_of inner ts y.1 >>= λ ys. Some (value y.0 ys.0, ys.1)) x e (λ y ey e1.
          bind_case (each_of inner ts y.1) (λ ys. Some (value y.0 ys.0, ys.1)) x e1 (λ ys eys e2.
          let s = reads t a y u.0 h ey in
          let r = ih y.1 ys pos u.1 s.takes.are eys in
          let j = both_joined a y.1 ys.1 y.0 ys.0 s.sound s.takes r.2 r.3 in
          let types : types_of (value y.0 ys.0) ≡ and t ts = ap (λ (w : Complete). and w (types_of ys.0)) s.type ∙ ap (and t) r.0 in
          let deep : depths (value y.0 ys.0) < k = omega (arith, s.deep, r.1) in
          subst (EachSpelt (and t ts) a) (same_Some (value y.0 ys.0, ys.1) x e2) (types, deep, j.0, j.1)))

  struct_is : (t : Complete) (ts : Completes) (a : At) (x : Value × At) → is_complete (struct t ts) ≡ true → AreBytes a.bytes → value_by o inner (struct t ts) a ≡ Some x → Spelt o (suc k) (struct t ts) a x
  struct_is t ts a x c h e =
      let u = and_parts (is_complete t) (are_complete ts) c in
      bind_case (aligned 8 a) (λ s. inner t s >>= λ y. each_of inner ts y.1 >>= λ ys. Some (a_struct y.0 ys.0, ys.1)) x e (λ s es e1.
      bind_case (inner t s) (λ y. each_of inner ts y.1 >>= λ ys. Some (a_struct y.0 ys.0, ys.1)) x e1 (λ y ey e2.
      bind_case (each_of inner ts y.1) (λ ys. Some (a_struct y.0 ys.0, ys.1)) x e2 (λ ys eys e3.
      let pad = aligned-takes 8 a s h es in
      let first = reads t s y u.0 pad.are ey in
      let others = each_is ts y.1 ys (omega (arith, first.deep)) u.1 first.takes.are eys in
      subst (λ (z : Value × At). Spelt o (suc k) (struct t ts) a z) (same_Some (a_struct y.0 ys.0, ys.1) x e3)
      (struct_joined t ts a s y ys pad first others))))
    where
      struct_joined : (t : Complete) (ts : Completes) (a s : At) (y : Value × At) (ys : Values × At) → Takes a (zeros 8 a.place) s → Spelt o k t s y → EachSpelt ts y.1 ys → Spelt o (suc k) (struct t ts) a (a_struct y.0 ys.0, ys.1)
      struct_joined t ts a s y ys pad first others =
          let j = both_joined s y.1 ys.1 y.0 ys.0 first.sound first.takes others.2 others.3 in
          let at_start : s.place ≡ a.place + padding 8 a.place = place_is a.place (padding 8 a.place) s.place (zeros 8 a.place) pad.place (length-replicate (padding 8 a.place) 0) in
          let start = a.place + padding 8 a.place in
          let sound : are_values o start (value y.0 ys.0) ≡ true = subst (λ (p : ℕ). are_values o p (value y.0 ys.0) ≡ true) at_start j.0 in
          let rest : Takes s (spelled_all o start (value y.0 ys.0)) ys.1 = subst (λ (p : ℕ). Takes s (spelled_all o p (value y.0 ys.0)) ys.1) at_start j.1 in
          let first_bytes = spelled o start y.0 in
          let more = spelled_all o (start + length first_bytes) ys.0 in
          record {
            type = ap (λ (w : Complete). struct w (types_of ys.0)) first.type ∙ ap (struct t) others.0;
            deep = omega (arith, first.deep, others.1);
            sound = sound;
            takes = takes_as a ys.1 (zeros 8 a.place ++ (first_bytes ++ more)) (zeros 8 a.place ++ first_bytes ++ more) (sym (append_assoc (zeros 8 a.place) first_bytes more)) (takes_then a s ys.1 (zeros 8 a.place) (first_bytes ++ more) pad rest);
          }

  -- ---- elements up to the end

  pub elem_is : (t : Complete) (a : At) (x : Value × At) → is_element_type t ≡ true → AreBytes a.bytes → element_at inner t a ≡ Some x → Spelt o k t a x
  elem_is (basic b) a x c h e = reads (basic b) a x refl h e
  elem_is variant a x c h e = reads variant a x refl h e
  elem_is (array t) a x c h e = reads (array t) a x c h e
  elem_is (struct t ts) a x c h e = reads (struct t ts) a x c h e
  elem_is (entry t u) a x c h e =
      let cs = and_parts (is_basic t) (is_complete u) c in
      bind_case (aligned 8 a) (λ s. inner t s >>= λ y. inner u y.1 >>= λ z. Some (an_entry y.0 z.0, z.1)) x e (λ s es e1.
      bind_case (inner t s) (λ y. inner u y.1 >>= λ z. Some (an_entry y.0 z.0, z.1)) x e1 (λ y ey e2.
      bind_case (inner u y.1) (λ z. Some (an_entry y.0 z.0, z.1)) x e2 (λ z ez e3.
      let pad = aligned-takes 8 a s h es in
      let first = reads t s y (basic_complete t cs.0) pad.are ey in
      let second = reads u y.1 z cs.1 first.takes.are ez in
      subst (λ (w : Value × At). Spelt o k (entry t u) a w) (same_Some (an_entry y.0 z.0, z.1) x e3) (joined s y z pad first second))))
    where
      joined : (s : At) (y z : Value × At) → Takes a (zeros 8 a.place) s → Spelt o k t s y → Spelt o k u y.1 z → Spelt o k (entry t u) a (an_entry y.0 z.0, z.1)
      joined s y z pad first second =
          let at_start : s.place ≡ a.place + padding 8 a.place = place_is a.place (padding 8 a.place) s.place (zeros 8 a.place) pad.place (length-replicate (padding 8 a.place) 0) in
          let start = a.place + padding 8 a.place in
          let two : (are_values o s.place (value y.0 (value z.0 no_values)) ≡ true) × Takes s (spelled o s.place y.0 ++ spelled o (s.place + length (spelled o s.place y.0)) z.0) z.1 = (
            and_from _ _ first.sound (and_from _ true (subst (λ (p : ℕ). is_value o p z.0 ≡ true) first.takes.place second.sound) refl),
            takes_then s y.1 z.1 (spelled o s.place y.0) (spelled o (s.place + length (spelled o s.place y.0)) z.0) first.takes (subst (λ (p : ℕ). Takes y.1 (spelled o p z.0) z.1) first.takes.place second.takes),
          ) in
          let sound = and_parts (is_value o start y.0) (is_value o (start + length (spelled o start y.0)) z.0 && true) (subst (λ (p : ℕ). are_values o p (value y.0 (value z.0 no_values)) ≡ true) at_start two.0) in
          let last = and_parts (is_value o (start + length (spelled o start y.0)) z.0) true sound.1 in
          let rest : Takes s (spelled o start y.0 ++ spelled o (start + length (spelled o start y.0)) z.0) z.1 = subst (λ (p : ℕ). Takes s (spelled o p y.0 ++ spelled o (p + length (spelled o p y.0)) z.0) z.1) at_start two.1 in
          record {
            type = ap (λ (w : Complete). entry w (type_of z.0)) first.type ∙ ap (entry t) second.type;
            deep = omega (arith, first.deep, second.deep);
            sound = and_from _ _ sound.0 last.0;
            takes = takes_as a z.1 (zeros 8 a.place ++ (spelled o start y.0 ++ spelled o (start + length (spelled o start y.0)) z.0)) (zeros 8 a.place ++ spelled o start y.0 ++ spelled o (start + length (spelled o start y.0)) z.0) (sym (append_assoc (zeros 8 a.place) (spelled o start y.0) (spelled o (start + length (spelled o start y.0)) z.0)))
                (takes_then a s z.1 (zeros 8 a.place) (spelled o start y.0 ++ spelled o (start + length (spelled o start y.0)) z.0) pad rest);
          }

  -- the depth of an array of these
  abbrev array_depth : Complete → Values → ℕ
  array_depth t vs = depth (an_array t vs)

  abbrev AllSpelt : Complete → At → Values → Type 0
  AllSpelt t a vs = (have_type t vs ≡ true) × (array_depth t vs < suc k) × (are_values o a.place vs ≡ true) × (a.bytes ≡ spelled_all o a.place vs)

  has_type-is : (t : Complete) (v : Value) → type_of v ≡ t → has_type t v ≡ true
  has_type-is t v e = ap (λ (u : Complete). bytes_eq (spelled_type t) (spelled_type u)) e ∙ bytes_eq-refl (spelled_type t)

  deeper : (t : Complete) (v : Value) (vs : Values) → depth v < k → array_depth t vs < suc k → array_depth t (value v vs) < suc k
  deeper t v no_values p q = omega (arith, p)
  deeper t v (value w vs) p q = omega (arith, p, q)

  all_is : (fuel : ℕ) (t : Complete) (a : At) (vs : Values) → is_element_type t ≡ true → AreBytes a.bytes → to_the_end (element_at inner t) fuel a ≡ Some vs → AllSpelt t a vs
  all_is zero t a vs c h e = absurd cc
  all_is (suc fuel) t a vs c h e = go (all_is fuel t) (is_empty a.bytes) refl e
    where
      go : ((b : At) (ws : Values) → is_element_type t ≡ true → AreBytes b.bytes → to_the_end (element_at inner t) fuel b ≡ Some ws → AllSpelt t b ws) → (d : Bool) → is_empty a.bytes ≡ d → cond d (Some no_values) (element_at inner t a >>= λ x. to_the_end (element_at inner t) fuel x.1 >>= λ xs. Some (value x.0 xs)) ≡ Some vs → AllSpelt t a vs
      go ih true d e = subst (AllSpelt t a) (same_Some no_values vs e) (refl, omega arith, refl, empty_is a.bytes d)
      go ih false d e =
          bind_case (element_at inner t a) (λ x. to_the_end (element_at inner t) fuel x.1 >>= λ xs. Some (value x.0 xs)) vs e (λ x ex e1.
          bind_case (to_the_end (element_at inner t) fuel x.1) (λ xs. Some (value x.0 xs)) vs e1 (λ xs exs e2.
          let s = elem_is t a x c h ex in
          let r = ih x.1 xs c s.takes.are exs in
          let next = a.place + length (spelled o a.place x.0) in
          let sound : are_values o next xs ≡ true = subst (λ (p : ℕ). are_values o p xs ≡ true) s.takes.place r.2 in
          let bytes : x.1.bytes ≡ spelled_all o next xs = subst (λ (p : ℕ). x.1.bytes ≡ spelled_all o p xs) s.takes.place r.3 in
          subst (AllSpelt t a) (same_Some (value x.0 xs) vs e2) (and_from _ _ (has_type-is t x.0 s.type) r.0, deeper t x.0 xs s.deep r.1, and_from _ _ s.sound sound, s.takes.bytes ∙ ap (λ (z : List ℕ). spelled o a.place x.0 ++ z) bytes)))

  array_joined : (t : Complete) (a s f : At) (n : ℕ × At) (b : List ℕ × At) (vs : Values) → Takes a (zeros 4 a.place) s → Takes s (number_bytes o w32 n.0) n.1 → Takes n.1 (zeros (alignment t) n.1.place) f → Takes f b.0 b.1 → length b.0 ≡ n.0 → AllSpelt t (record { place = f.place; bytes = b.0 }) vs → n.0 ≤ 2 ^ 26 → is_element_type t ≡ true → Spelt o (suc k) (array t) a (an_array t vs, b.1)
  array_joined t a s f n b vs pad num gap body len all short c =
      let q = a.place + padding 4 a.place + 4 in
      let q_is : n.1.place ≡ q = omega (arith, pad.place, num.place, length-replicate {A = ℕ} (padding 4 a.place) 0, wide_32.len o n.0) in
      let gap_at : Takes n.1 (zeros (alignment t) q) f = subst (λ (p : ℕ). Takes n.1 (zeros (alignment t) p) f) q_is gap in
      let f_is : f.place ≡ elements_place t a.place = gap_at.place ∙ sums n.1.place q (length (zeros (alignment t) q)) (padding (alignment t) q) q_is (length-replicate {A = ℕ} (padding (alignment t) q) 0) in
      let e = spelled_all o (elements_place t a.place) vs in
      let b_is : b.0 ≡ e = all.3 ∙ ap (λ (p : ℕ). spelled_all o p vs) f_is in
      let n_is : n.0 ≡ length e = sym len ∙ ap length b_is in
      let number : Takes s (number_bytes o w32 (length e)) n.1 = takes_as s n.1 _ _ (ap (λ (m : ℕ). number_bytes o w32 m) n_is) num in
      let elements : Takes f e b.1 = takes_as f b.1 b.0 e b_is body in
      let sound : are_values o (elements_place t a.place) vs ≡ true = subst (λ (p : ℕ). are_values o p vs ≡ true) f_is all.2 in
      record {
        type = refl;
        deep = all.1;
        sound = and_from _ _ (and_from _ _ (and_from _ _ c all.0) sound) (le-leb (length e) (2 ^ 26) (subst (λ (m : ℕ). m ≤ 2 ^ 26) n_is short));
        takes = takes_then a f b.1 (zeros 4 a.place ++ number_bytes o w32 (length e) ++ zeros (alignment t) q) e (takes_then a n.1 f (zeros 4 a.place ++ number_bytes o w32 (length e)) (zeros (alignment t) q) (takes_then a s n.1 (zeros 4 a.place) (number_bytes o w32 (length e)) pad number) gap_at) elements;
      }
    where
      sums : (a b c d : ℕ) → a ≡ b → c ≡ d → a + c ≡ b + d
      sums a b c d e f = omega arith

  array_is : (t : Complete) (a : At) (x : Value × At) → is_element_type t ≡ true → AreBytes a.bytes → value_by o inner (array t) a ≡ Some x → Spelt o (suc k) (array t) a x
  array_is t a x c h e =
      bind_case (aligned 4 a) (λ s. a_width o w32 s >>= λ n. aligned (alignment t) n.1 >>= λ f. some_bytes n.0 f >>= λ b. to_the_end (element_at inner t) (suc n.0) (record { place = f.place; bytes = b.0 }) >>= λ vs. when (nat_le n.0 (2 ^ 26)) (an_array t vs, b.1)) x e (λ s es e1.
      bind_case (a_width o w32 s) (λ n. aligned (alignment t) n.1 >>= λ f. some_bytes n.0 f >>= λ b. to_the_end (element_at inner t) (suc n.0) (record { place = f.place; bytes = b.0 }) >>= λ vs. when (nat_le n.0 (2 ^ 26)) (an_array t vs, b.1)) x e1 (λ n en e2.
      bind_case (aligned (alignment t) n.1) (λ f. some_bytes n.0 f >>= λ b. to_the_end (element_at inner t) (suc n.0) (record { place = f.place; bytes = b.0 }) >>= λ vs. when (nat_le n.0 (2 ^ 26)) (an_array t vs, b.1)) x e2 (λ f ef e3.
      bind_case (some_bytes n.0 f) (λ b. to_the_end (element_at inner t) (suc n.0) (record { place = f.place; bytes = b.0 }) >>= λ vs. when (nat_le n.0 (2 ^ 26)) (an_array t vs, b.1)) x e3 (λ b eb e4.
      bind_case (to_the_end (element_at inner t) (suc n.0) (record { place = f.place; bytes = b.0 })) (λ vs. when (nat_le n.0 (2 ^ 26)) (an_array t vs, b.1)) x e4 (λ vs evs e5.
      let pad = aligned-takes 4 a s h es in
      let num = width-takes o w32 s n read_32 pad.are en in
      let gap = aligned-takes (alignment t) n.1 f num.are ef in
      let body = some_bytes-takes n.0 f b gap.are eb in
      let w = when_is (nat_le n.0 (2 ^ 26)) (an_array t vs, b.1) x e5 in
      let all = all_is (suc n.0) t (record { place = f.place; bytes = b.0 }) vs c body.2 evs in
      subst (λ (z : Value × At). Spelt o (suc k) (array t) a z) w.1 (array_joined t a s f n b vs pad num gap body.0 body.1 all (leb-true n.0 (2 ^ 26) w.0) c))))))

  value_is : (t : Complete) (a : At) (x : Value × At) → is_complete t ≡ true → AreBytes a.bytes → value_by o inner t a ≡ Some x → Spelt o (suc k) t a x
  value_is (basic (number n)) a x c h e = number_is n a x h e
  value_is (basic string) a x c h e = string_is a x h e
  value_is (basic path) a x c h e = path_is a x h e
  value_is (basic signature) a x c h e = signature_is a x h e
  value_is variant a x c h e = variant_is a x h e
  value_is (array t) a x c h e = array_is t a x c h e
  value_is (struct t ts) a x c h e = struct_is t ts a x c h e
  value_is (entry t u) a x c h e = absurd cc

-- what is read as a value of a type is spelled so
pub within-is : (k : ℕ) (o : Order) → Reads o k (value_within k o)
within-is zero o t a x c h e = absurd cc
within-is (suc k) o t a x c h e = value_is o k (value_within k o) (within-is k o) t a x c h e
