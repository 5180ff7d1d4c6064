-- A message whose list of names is cut stays valid.
use Rattle.std.proofs.Common.{◌≡◌, ℕ, ◌+◌, ◌^◌, ◌≤◌, Bool, true, false, cond, List, [], ◌∷◌, ◌++◌, length, map, filter, max, Some, refl, sym, ap, subst, ◌∙◌, arith}
use Rattle.std.specs.Prelude.{◌&&◌, nat_le}
use Rattle.std.specs.Int.{w32}
use Rattle.std.specs.List.{list_all}
use Rattle.std.proofs.lemmas.List.{length-append, length-replicate}
use Rattle.std.proofs.lemmas.Bool.{and_parts, and_from, leb-true, le-leb}
use Rattle.dbus_types.specs.Signature.{string, basic, spelled_types}
use Rattle.dbus_values.specs.Bodies.{list_in, strings}
use Rattle.dbus_values.specs.declared.Order.{Order}
use Rattle.dbus_values.specs.Values.{Value, a_number, a_string, a_path, a_signature, a_variant, an_array, a_struct, an_entry, Values, no_values, value, values_of, type_of, padding, zeros, number_bytes, elements_place, spelled, spelled_all, depths, is_text, have_type, is_value, are_values, is_within}
use Rattle.dbus_header.specs.Message.{Message, Valid, spell, order_byte, spelled_list, spelled_fields, body_place, text_list, string_values, with_names, are_valid}
use Rattle.dbus_names.specs.Texts.{Text}
use Rattle.policy_args.specs.declared.Level.{Level}
use Rattle.policy_view.specs.Shown.{cut, cut_names, is_seen}
use Rattle.dbus_values.proofs.ValueLaws.{wide_32, text_len_is}

-- ---- texts

text_and : (t : List ℕ) (ts : List (List ℕ)) → is_text t ≡ true → list_all is_text ts ≡ true → list_all is_text (t ∷ ts) ≡ true
text_and t ts p q = and_from (is_text t) (list_all is_text ts) p q

-- the strings of valid values are texts
strings_text : (o : Order) (p : ℕ) (vs : Values) → are_values o p vs ≡ true → list_all is_text (strings vs) ≡ true
strings_text o p no_values e = refl
strings_text o p (value v vs) e = let a = and_parts (is_value o p v) (are_values o (p + length (spelled o p v)) vs) e in go v a.0 (strings_text o (p + length (spelled o p v)) vs a.1)
  where
    go : (w : Value) → is_value o p w ≡ true → list_all is_text (strings vs) ≡ true → list_all is_text (strings (value w vs)) ≡ true
    go (a_string t) k rest = text_and t (strings vs) k rest
    go (a_number n x) k rest = rest
    go (a_path t) k rest = rest
    go (a_signature ts) k rest = rest
    go (a_variant w) k rest = rest
    go (an_array t ws) k rest = rest
    go (a_struct w ws) k rest = rest
    go (an_entry w x) k rest = rest

filter_text : (test : List ℕ → Bool) (ts : List (List ℕ)) → list_all is_text ts ≡ true → list_all is_text (filter test ts) ≡ true
filter_text test [] e = refl
filter_text test (t ∷ ts) e = let a = and_parts (is_text t) (list_all is_text ts) e in go (test t) a.0 (filter_text test ts a.1)
  where
    go : (b : Bool) → is_text t ≡ true → list_all is_text (filter test ts) ≡ true → list_all is_text (cond b (t ∷ filter test ts) (filter test ts)) ≡ true
    go true p q = text_and t (filter test ts) p q
    go false p q = q

abbrev strings_of : List (List ℕ) → Values
strings_of ts = values_of (string_values ts)

are_texts : (o : Order) (p : ℕ) (ts : List (List ℕ)) → list_all is_text ts ≡ true → are_values o p (strings_of ts) ≡ true
are_texts o p [] e = refl
are_texts o p (t ∷ ts) e = let a = and_parts (is_text t) (list_all is_text ts) e in and_from _ _ a.0 (are_texts o (p + length (spelled o p (a_string t))) ts a.1)

all_strings : (ts : List (List ℕ)) → have_type (basic string) (strings_of ts) ≡ true
all_strings [] = refl
all_strings (t ∷ ts) = all_strings ts

no_depth : (ts : List (List ℕ)) → depths (strings_of ts) ≡ 0
no_depth [] = refl
no_depth (t ∷ ts) = ap (max 0) (no_depth ts)

shallow : (ts : List (List ℕ)) → is_within 64 (an_array (basic string) (strings_of ts)) ≡ true
shallow [] = refl
shallow (t ∷ ts) = ap (λ (k : ℕ). nat_le (1 + max 0 k) 64) (no_depth ts)

-- ---- a shorter list is no longer

-- the next multiple of four comes no later at an earlier place
aligned_le : (p q : ℕ) → p ≤ q → p + padding 4 p ≤ q + padding 4 q
aligned_le p q h = omega (arith, h)

string_end : (o : Order) (p : ℕ) (t : List ℕ) → p + length (spelled o p (a_string t)) ≡ p + padding 4 p + 5 + length t
string_end o p t = omega (arith, text_len_is o p t)

-- from an earlier place the picked strings end no later than the values
abbrev EndsLe : Order → (List ℕ → Bool) → Values → Type 0
EndsLe o test vs = (p q : ℕ) → p ≤ q → p + length (spelled_all o p (strings_of (filter test (strings vs)))) ≤ q + length (spelled_all o q vs)

ends_le : (o : Order) (test : List ℕ → Bool) (vs : Values) → EndsLe o test vs
ends_le o test no_values p q h = omega (arith, h)
ends_le o test (value v vs) p q h = go v (ends_le o test vs)
  where
    grouped : (w : Value) → q + length (spelled_all o q (value w vs)) ≡ (q + length (spelled o q w)) + length (spelled_all o (q + length (spelled o q w)) vs)
    grouped w = omega (arith, length-append (spelled o q w) (spelled_all o (q + length (spelled o q w)) vs))

    skipped : (w : Value) → EndsLe o test vs → p + length (spelled_all o p (strings_of (filter test (strings vs)))) ≤ q + length (spelled_all o q (value w vs))
    skipped w ih = rw (grouped w) (ih p (q + length (spelled o q w)) (omega (arith, h)))

    taken : (t : List ℕ) (b : Bool) → EndsLe o test vs → p + length (spelled_all o p (strings_of (cond b (t ∷ filter test (strings vs)) (filter test (strings vs))))) ≤ q + length (spelled_all o q (value (a_string t) vs))
    taken t false ih = skipped (a_string t) ih
    taken t true ih =
        let first = spelled o p (a_string t) in
        let next : p + length first ≤ q + length (spelled o q (a_string t)) = omega (arith, string_end o p t, string_end o q t, aligned_le p q h) in
        let rest = ih (p + length first) (q + length (spelled o q (a_string t))) next in
        omega (arith, rest, grouped (a_string t), length-append first (spelled_all o (p + length first) (strings_of (filter test (strings vs)))))

    go : (w : Value) → EndsLe o test vs → p + length (spelled_all o p (strings_of (filter test (strings (value w vs))))) ≤ q + length (spelled_all o q (value w vs))
    go (a_string t) ih = taken t (test t) ih
    go (a_number n x) ih = skipped (a_number n x) ih
    go (a_path t) ih = skipped (a_path t) ih
    go (a_signature ts) ih = skipped (a_signature ts) ih
    go (a_variant w) ih = skipped (a_variant w) ih
    go (an_array t ws) ih = skipped (an_array t ws) ih
    go (a_struct w ws) ih = skipped (a_struct w ws) ih
    go (an_entry w x) ih = skipped (an_entry w x) ih

-- ---- the message

-- the body of a list of names
names_body : (vs : List Value) (names : List (List ℕ)) → list_in vs ≡ Some names → (ws : Values) × (vs ≡ an_array (basic string) ws ∷ []) × (strings ws ≡ names)
names_body (an_array (basic string) ws ∷ []) names e = (ws, refl, some_is (strings ws) names e)
  where
    some_is : (x y : List (List ℕ)) → Some x ≡ Some y → x ≡ y
    some_is x y e = cc
names_body _ names e = absurd cc

abbrev body_at : Order → ℕ → Values → List ℕ
body_at o p ws = spelled_list o p (an_array (basic string) ws ∷ [])

body_len : (o : Order) (p : ℕ) (ws : Values) → length (body_at o p ws) ≡ padding 4 p + 4 + padding 4 (p + padding 4 p + 4) + length (spelled_all o (elements_place (basic string) p) ws)
body_len o p ws =
    let elements = spelled_all o (elements_place (basic string) p) ws in
    let number = number_bytes o w32 (length elements) in
    let gap = zeros 4 (p + padding 4 p + 4) in
    omega (arith, length-append (zeros 4 p ++ number ++ gap ++ elements) [], length-append (zeros 4 p ++ number ++ gap) elements, length-append (zeros 4 p ++ number) gap, length-append (zeros 4 p) number, wide_32.len o (length elements), zeros_len 4 p, zeros_len 4 (p + padding 4 p + 4))
  where
    zeros_len : (n p : ℕ) → length (zeros n p) ≡ padding n p
    zeros_len n p = length-replicate {A = ℕ} (padding n p) 0

six_len : (a b c d e f : List ℕ) → length (((((a ++ b) ++ c) ++ d) ++ e) ++ f) ≡ length a + length b + length c + length d + length e + length f
six_len a b c d e f = omega (arith, length-append ((((a ++ b) ++ c) ++ d) ++ e) f, length-append (((a ++ b) ++ c) ++ d) e, length-append ((a ++ b) ++ c) d, length-append (a ++ b) c, length-append a b)

-- the length of a message, without that of its body
abbrev before_body : Order → ℕ → List ℕ → ℕ
before_body o serial fields = 16 + length fields + length (zeros 8 (16 + length fields))

spell_len : (m : Message) → length (spell m) ≡ before_body m.order m.serial (spelled_fields m.order m.fields) + length (spelled_list m.order (body_place (length (spelled_fields m.order m.fields))) m.body)
unfolding spell
spell_len m =
    let o = m.order in
    let fields = spelled_fields o m.fields in
    let body = spelled_list o (body_place (length fields)) m.body in
    let number = number_bytes o w32 (length body) in
    omega (
      arith,
      six_len (order_byte o ∷ m.kind ∷ m.flags ∷ 1 ∷ number) (number_bytes o w32 m.serial) (number_bytes o w32 (length fields)) fields (zeros 8 (16 + length fields)) body,
      wide_32.len o (length body),
      wide_32.len o m.serial,
      wide_32.len o (length fields),
    )

-- a cut list of names leaves a valid message valid
pub Valid-with_names : (test : List ℕ → Bool) (names : List (List ℕ)) (m : Message) → text_list m ≡ Some names → Valid m → Valid (with_names (filter test names) m)
Valid-with_names test names m e v =
    let o = m.order in
    let p = body_place (length (spelled_fields o m.fields)) in
    let place = elements_place (basic string) p in
    let b = names_body m.body names e in
    let ws = b.0 in
    let ns = filter test names in
    let ns_is : filter test (strings ws) ≡ ns = ap (filter test) b.2 in
    let was : are_valid o p (an_array (basic string) ws ∷ []) ≡ true = ap (are_valid o p) (sym b.1) ∙ v.body_values in
    let t = and_parts (is_within 64 (an_array (basic string) ws) && is_value o p (an_array (basic string) ws)) true was in
    let is = and_parts (is_within 64 (an_array (basic string) ws)) (is_value o p (an_array (basic string) ws)) t.0 in
    let u = and_parts (have_type (basic string) ws && are_values o place ws) (nat_le (length (spelled_all o place ws)) (2 ^ 26)) is.1 in
    let w = and_parts (have_type (basic string) ws) (are_values o place ws) u.0 in
    let texts : list_all is_text ns ≡ true = ap (list_all is_text) (sym ns_is) ∙ filter_text test (strings ws) (strings_text o place ws w.1) in
    let less : length (spelled_all o place (strings_of ns)) ≤ length (spelled_all o place ws) =
    rw (sym ns_is) (no_longer place (length (spelled_all o place (strings_of (filter test (strings ws))))) (length (spelled_all o place ws)) (ends_le o test ws place place (omega arith))) in
    let short : nat_le (length (spelled_all o place (strings_of ns))) (2 ^ 26) ≡ true = le-leb _ _ (omega (arith, less, leb-true _ _ u.1)) in
    let old_len : length (spell m) ≡ before_body o m.serial (spelled_fields o m.fields) + length (body_at o p ws) =
    spell_len m ∙ ap (λ (vs : List Value). before_body o m.serial (spelled_fields o m.fields) + length (spelled_list o p vs)) b.1 in
    record {
      kind = v.kind;
      flags = v.flags;
      serial = v.serial;
      field_values = v.field_values;
      field_list = v.field_list;
      fields_len = v.fields_len;
      required = v.required;
      descriptors = v.descriptors;
      body_values = and_from _ _ (and_from _ _ (shallow ns) (and_from _ _ (and_from _ _ (all_strings ns) (are_texts o place ns texts)) short)) refl;
      agreement = v.agreement ∙ ap (λ (vs : List Value). spelled_types (map type_of vs)) b.1;
      len = omega (arith, spell_len (with_names ns m), body_len o p (strings_of ns), body_len o p ws, old_len, less, v.len);
    }
  where
    no_longer : (p a b : ℕ) → p + a ≤ p + b → a ≤ b
    no_longer p a b h = omega (arith, h)

-- and so does one that is cut to the names that are seen
pub cut_valid : (level : Text → Level) (m : Message) (names : List (List ℕ)) → text_list m ≡ Some names → Valid m → Valid (cut level m)
unfolding cut
cut_valid level m names e v = subst (λ (ns : List (List ℕ)). Valid (with_names ns m)) (sym (ap (cut_names level) e)) (Valid-with_names (is_seen level) names m e v)
