-- The elements that begin with `z`, and the first word that is none of them.
use Rattle.std.proofs.Common.{◌≡◌, ℕ, zero, suc, ◌+◌, ◌^◌, ◌<◌, ◌≤◌, Bool, true, false, cond, List, [], ◌∷◌, ◌++◌, length, map, filter, fold, codes, String, string_bytes, refl, ap, sym, subst, ◌∙◌, arith, inl, inr, if◌then◌else◌}
use Rattle.std.specs.Prelude.{◌||◌, not, bytes_eq, decimal}
use Rattle.std.specs.List.{list_any}
use Rattle.std.specs.String.{string_eq}
use Rattle.std.proofs.lemmas.Bool.{both_ways, cases_lt, false_from_ne_true, or_left}
use Rattle.std.proofs.lemmas.Fmt.{decimal_injective}
use Rattle.std.proofs.lemmas.List.{append_cancel_left, map-append}
use Rattle.std.proofs.lemmas.List.Folds.{list_any-append}
use Rattle.byte_lists.proofs.Bytes.{bytes_eq-true}
use Rattle.indexmap.specs.IndexSet.{insert_key}
use Rattle.dbus_names.specs.Texts.{Text, begins_with}
use Rattle.policy_within.specs.Elements.{IsFirstFree, elements, fresh, fresh_from, is_among, z_word}
use Rattle.policy_within.specs.Steps.{with_text, with_z}
use Rattle.policy_args.specs.declared.entry.Entry.{Entry}

-- ---- one element more

pub any-map : {A B : Type 0} (test : B → Bool) (f : A → B) (xs : List A) → list_any test (map f xs) ≡ list_any (λ x. test (f x)) xs
any-map test f [] = refl
any-map test f (x ∷ xs) = ap (λ b. test (f x) || b) (any-map test f xs)

pub text-inserted : {Z : Type 0} (keys : List (String Z)) (key : String Z) (text : List ℕ) → string_bytes key ≡ text →
    map (λ k. string_bytes k) (insert_key string_eq keys key) ≡ with_text (map (λ k. string_bytes k) keys) text
text-inserted keys key text is =
    by (list_any (string_eq key) keys)
    ∙ ap (λ b. if b then map (λ k. string_bytes k) keys else map (λ k. string_bytes k) keys ++ string_bytes key ∷ []) (sym (any-map (bytes_eq (string_bytes key)) (λ k. string_bytes k) keys))
    ∙ ap (with_text (map (λ k. string_bytes k) keys)) is
  where
    by : (b : Bool) → map (λ k. string_bytes k) (if b then keys else keys ++ key ∷ []) ≡ (if b then map (λ k. string_bytes k) keys else map (λ k. string_bytes k) keys ++ string_bytes key ∷ [])
    by true = refl
    by false = map-append (λ k. string_bytes k) keys (key ∷ [])

-- what is there afterwards
among-with_text : (words : List Text) (text word : Text) → is_among (with_text words text) word ≡ (is_among words word || bytes_eq word text)
among-with_text words text word = by (is_among words text) refl
  where
    or_false : (b : Bool) → (b || false) ≡ b
    or_false true = refl
    or_false false = refl

    same : is_among words text ≡ true → (b : Bool) → bytes_eq word text ≡ b → is_among words word ≡ (is_among words word || b)
    same there true e =
        let here : is_among words word ≡ true = ap (is_among words) (bytes_eq-true word text e) ∙ there in
        here ∙ sym (or_left (is_among words word) true here)
    same there false e = sym (or_false (is_among words word))

    by : (b : Bool) → is_among words text ≡ b → is_among (if b then words else words ++ text ∷ []) word ≡ (is_among words word || bytes_eq word text)
    by true there = same there (bytes_eq word text) refl
    by false there = list_any-append (bytes_eq word) words (text ∷ []) ∙ ap (λ b. is_among words word || b) (or_false (bytes_eq word text))

among-with_z : (words : List Text) (text g : Text) → is_among (with_z words text) (122 ∷ g) ≡ (is_among words (122 ∷ g) || bytes_eq (122 ∷ g) text)
among-with_z words text g = by (begins_with (codes "z") text) refl
  where
    other : (text : Text) → begins_with (codes "z") text ≡ false → bytes_eq (122 ∷ g) text ≡ false
    other text e = false_from_ne_true _ (λ same. both_ways (begins_with (codes "z") text) e (ap (begins_with (codes "z")) (sym (bytes_eq-true (122 ∷ g) text same))))

    or_false : (b : Bool) → (b || false) ≡ b
    or_false true = refl
    or_false false = refl

    by : (b : Bool) → begins_with (codes "z") text ≡ b → is_among (if b then with_text words text else words) (122 ∷ g) ≡ (is_among words (122 ∷ g) || bytes_eq (122 ∷ g) text)
    by true e = among-with_text words text (122 ∷ g)
    by false e = sym (ap (λ b. is_among words (122 ∷ g) || b) (other text e) ∙ or_false (is_among words (122 ∷ g)))

or_assoc : (a b c : Bool) → ((a || b) || c) ≡ (a || (b || c))
or_assoc true b c = refl
or_assoc false b c = refl

among-fold : (words parts : List Text) (g : Text) → is_among (fold with_z words parts) (122 ∷ g) ≡ (is_among words (122 ∷ g) || is_among parts (122 ∷ g))
among-fold words [] g = by (is_among words (122 ∷ g))
  where
    by : (b : Bool) → b ≡ (b || false)
    by true = refl
    by false = refl
among-fold words (part ∷ parts) g =
    among-fold (with_z words part) parts g
    ∙ ap (λ b. b || is_among parts (122 ∷ g)) (among-with_z words part g)
    ∙ or_assoc (is_among words (122 ∷ g)) (bytes_eq (122 ∷ g) part) (is_among parts (122 ∷ g))

-- ---- of more words than there are elements, one is none of them

abbrev without : Text → List Text → List Text
without t texts = filter (λ u. not (bytes_eq t u)) texts

no_longer : (t : Text) (texts : List Text) → length (without t texts) ≤ length texts
no_longer t [] = omega arith
no_longer t (u ∷ texts) = go (not (bytes_eq t u)) (no_longer t texts)
  where
    go : (b : Bool) → length (without t texts) ≤ length texts → length (cond b (u ∷ without t texts) (without t texts)) ≤ suc (length texts)
    go true h = omega (arith, h)
    go false h = omega (arith, h)

shorter : (t : Text) (texts : List Text) → is_among texts t ≡ true → length (without t texts) < length texts
shorter t [] e = absurd cc
shorter t (u ∷ texts) e = go (bytes_eq t u) e (shorter t texts)
  where
    go : (b : Bool) → (b || is_among texts t) ≡ true → (is_among texts t ≡ true → length (without t texts) < length texts) → length (cond (not b) (u ∷ without t texts) (without t texts)) < suc (length texts)
    go true e h = omega (arith, no_longer t texts)
    go false e h = omega (arith, h e)

-- another text is there as before
kept : (s t : Text) (texts : List Text) → (s ≡ t → ⊥) → is_among (without t texts) s ≡ is_among texts s
kept s t [] n = refl
kept s t (u ∷ texts) n = go (bytes_eq t u) refl (kept s t texts n)
  where
    other : (b : Bool) → bytes_eq s u ≡ b → t ≡ u → b ≡ false
    other false e k = refl
    other true e k = absurd (n (bytes_eq-true s u e ∙ sym k))

    go : (b : Bool) → bytes_eq t u ≡ b → is_among (without t texts) s ≡ is_among texts s → is_among (cond (not b) (u ∷ without t texts) (without t texts)) s ≡ (bytes_eq s u || is_among texts s)
    go true e h = h ∙ sym (ap (λ (b : Bool). b || is_among texts s) (other (bytes_eq s u) refl (bytes_eq-true t u e)))
    go false e h = ap (λ (b : Bool). bytes_eq s u || b) h

z_differ : (j k : ℕ) → j < 2 ^ 64 → k < 2 ^ 64 → j < k → z_word j ≡ z_word k → ⊥
z_differ j k a b lt e = let same : j ≡ k = decimal_injective j k a b (append_cancel_left (codes "z") (decimal j) (decimal k) e) in absurd (omega (arith, same, lt))

-- words that are all there are no more than there are texts
pub no-more : (n : ℕ) (texts : List Text) → n < 2 ^ 64 → ((j : ℕ) → j < n → is_among texts (z_word j) ≡ true) → n ≤ length texts
no-more zero texts small all = omega arith
no-more (suc n) texts small all =
    let last : is_among texts (z_word n) ≡ true = all n (omega arith) in
    let fewer = shorter (z_word n) texts last in
    let rest : n ≤ length (without (z_word n) texts) = no-more n (without (z_word n) texts) (omega (arith, small))
    (λ j lt. kept (z_word j) (z_word n) texts (z_differ j n (omega (arith, small, lt)) (omega (arith, small)) lt) ∙ all j (omega (arith, lt))) in
    omega (arith, fewer, rest)

-- ---- the first that is free

pub fresh_from-is : (more k number : ℕ) (taken : List Text) → k ≤ number → number ≤ k + more → ((j : ℕ) → j < number → is_among taken (z_word j) ≡ true) → is_among taken (z_word number) ≡ false →
    fresh_from more k taken ≡ z_word number
fresh_from-is zero k number taken low high all free = ap z_word (omega arith)
fresh_from-is (suc more) k number taken low high all free = elim (cases_lt k number) [
  | inl lt ↦
      ap (λ b. if b then fresh_from more (k + 1) taken else z_word k) (all k lt)
      ∙ fresh_from-is more (k + 1) number taken (omega (arith, lt)) (omega (arith, high)) all free
  | inr le ↦
      let same : k ≡ number = omega (arith, low, le) in
      ap (λ b. if b then fresh_from more (k + 1) taken else z_word k) (ap (λ j. is_among taken (z_word j)) same ∙ free)
      ∙ ap z_word same
]

-- ---- the words that begin with `z` among all elements

same-words : (entries : List Entry) (words : List Text) (j : ℕ) → words ≡ fold with_z [] (elements entries) → is_among (elements entries) (z_word j) ≡ is_among words (z_word j)
same-words entries words j are = sym (among-fold [] (elements entries) (decimal j)) ∙ ap (λ ws. is_among ws (z_word j)) (sym are)

free-of-elements : (entries : List Entry) (words : List Text) (word : Text) → words ≡ fold with_z [] (elements entries) → IsFirstFree words word → IsFirstFree (elements entries) word
free-of-elements entries words word are first = record {
  number = first.number;
  small = first.small;
  is = first.is;
  free = ap (is_among (elements entries)) first.is ∙ same-words entries words first.number are ∙ ap (is_among words) (sym first.is) ∙ first.free;
  below = λ j lt. same-words entries words j are ∙ first.below j lt;
}

free-is-fresh : (entries : List Entry) (word : Text) → IsFirstFree (elements entries) word → word ≡ fresh entries
unfolding fresh
free-is-fresh entries word first =
    let few = no-more first.number (elements entries) first.small first.below in
    first.is
    ∙ sym (fresh_from-is (length (elements entries)) 0 first.number (elements entries) (omega arith) (omega (arith, few)) first.below (ap (is_among (elements entries)) (sym first.is) ∙ first.free))

pub found-is-fresh : (entries : List Entry) (words : List Text) (word : Text) → words ≡ fold with_z [] (elements entries) → IsFirstFree words word → word ≡ fresh entries
found-is-fresh entries words word are first = free-is-fresh entries word (free-of-elements entries words word are first)

pub fresh-first : (entries : List Entry) (words : List Text) (word : Text) → words ≡ fold with_z [] (elements entries) → IsFirstFree words word → IsFirstFree (elements entries) (fresh entries)
fresh-first entries words word are first = subst (λ w. IsFirstFree (elements entries) w) (found-is-fresh entries words word are first) (free-of-elements entries words word are first)
