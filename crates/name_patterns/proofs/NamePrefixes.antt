-- The prefixes of a text before its dots, and the patterns for all names below those.
use Rattle.std.proofs.Common.{◌≡◌, ℕ, ◌==◌, Bool, true, false, not, ◌&&◌, ◌||◌, nat_eq, List, [], ◌∷◌, ◌++◌, map, if◌then◌else◌, refl, ap, ap₂, sym, ◌∙◌, subst, arith}
use Rattle.std.specs.List.{list_any}
use Rattle.std.specs.Prelude.{IsPermutation}
use Rattle.std.specs.Str.{bytes_eq}
use Rattle.std.specs.Cmp.Lexicographic.{bytes_decides, nat_list_eq_equiv}
use Rattle.std.proofs.Math.Bool.{and-false}
use Rattle.std.proofs.lemmas.Bool.{ne_eqb}
use Rattle.std.proofs.lemmas.Bool.Decides.{nat_tests}
use Rattle.std.proofs.lemmas.List.Sorted.{IsPermutation-append_right, IsPermutation-refl, IsPermutation-trans}
use Rattle.dbus_names.specs.Texts.{begins_with}
use Rattle.name_patterns.specs.Patterns.{covers}
use Rattle.name_patterns.specs.PatternIndex.{Indexes, kept_at, places_below, prefixes}
use Rattle.name_patterns.specs.Ranks.{AreCovering, Ranked, is_exact_for, is_subtree_of, places_where}
use Rattle.name_patterns.specs.declared.index.PatternIndex.{PatternIndex}
use Rattle.name_patterns.proofs.PatternFronts.{HasNoDot, IsBeforeLastDot, behind-first, covers-parts}
use Rattle.name_patterns.proofs.Places.{places-none, places-or, places-same}

abbrev after : ℕ → List (List ℕ) → List (List ℕ)
after c texts = map (λ front. c ∷ front) texts

abbrev ended : ℕ → List (List ℕ)
ended c = if c == 46 then [] ∷ [] else []

-- ---- by the last dot

pub prefixes-none : (text : List ℕ) → HasNoDot text → prefixes text ≡ []
prefixes-none [] none = refl
prefixes-none (c ∷ text) none = ap₂ (λ ts b. after c ts ++ (if b then [] ∷ [] else [])) (prefixes-none text (behind-first c text none)) (ne_eqb c 46 (λ same. none.at 0 (omega arith) same))

cut-at : (front rest : List ℕ) → HasNoDot rest → prefixes (front ++ 46 ∷ rest) ≡ front ∷ prefixes front
cut-at [] rest none = ap (λ ts. after 46 ts ++ [] ∷ []) (prefixes-none rest none)
cut-at (c ∷ front) rest none = ap (λ ts. after c ts ++ ended c) (cut-at front rest none)

pub prefixes-cut : (text front : List ℕ) → IsBeforeLastDot text front → prefixes text ≡ front ∷ prefixes front
prefixes-cut text front cut = ap prefixes cut.whole ∙ cut-at front cut.rest cut.none

-- ---- each once

abbrev AreApart : List (List ℕ) → Type 0
AreApart [] = Unit {0}
AreApart (t ∷ ts) = (list_any (bytes_eq t) ts ≡ false) × AreApart ts

equal-self : (c : ℕ) → nat_eq c c ≡ true
equal-self c = grind (arith, nat_tests)

among-after : (c : ℕ) (t : List ℕ) (ts : List (List ℕ)) → list_any (bytes_eq (c ∷ t)) (after c ts ++ ended c) ≡ list_any (bytes_eq t) ts
among-after c t [] = by (c == 46)
  where
    by : (b : Bool) → list_any (bytes_eq (c ∷ t)) (if b then [] ∷ [] else []) ≡ false
    by true = refl
    by false = refl
among-after c t (u ∷ ts) = ap₂ (λ a b. (a && bytes_eq t u) || b) (equal-self c) (among-after c t ts)

apart-after : (c : ℕ) (ts : List (List ℕ)) → AreApart ts → AreApart (after c ts ++ ended c)
apart-after c [] are = by (c == 46)
  where
    by : (b : Bool) → AreApart (if b then [] ∷ [] else [])
    by true = (refl, tt)
    by false = tt
apart-after c (t ∷ ts) are = (among-after c t ts ∙ are.0, apart-after c ts are.1)

apart-prefixes : (text : List ℕ) → AreApart (prefixes text)
apart-prefixes [] = tt
apart-prefixes (c ∷ text) = apart-after c (prefixes text) (apart-prefixes text)

-- ---- what begins with a text and a dot

among-first : (c x : ℕ) (n : List ℕ) (ts : List (List ℕ)) → list_any (bytes_eq (x ∷ n)) (after c ts ++ ended c) ≡ (nat_eq x c && list_any (bytes_eq n) ts)
among-first c x n [] = by (c == 46) ∙ sym (and-false (nat_eq x c))
  where
    by : (b : Bool) → list_any (bytes_eq (x ∷ n)) (if b then [] ∷ [] else []) ≡ false
    by true = refl
    by false = refl
among-first c x n (t ∷ ts) = ap (λ b. (nat_eq x c && bytes_eq n t) || b) (among-first c x n ts) ∙ shared (nat_eq x c) (bytes_eq n t) (list_any (bytes_eq n) ts)
  where
    shared : (b u v : Bool) → ((b && u) || (b && v)) ≡ (b && (u || v))
    shared true u v = refl
    shared false u v = refl

among-none : (c : ℕ) (ts : List (List ℕ)) → list_any (bytes_eq []) (after c ts ++ ended c) ≡ nat_eq 46 c
among-none c [] = by (c == 46) ∙ turned
  where
    by : (b : Bool) → list_any (bytes_eq []) (if b then [] ∷ [] else []) ≡ b
    by true = refl
    by false = refl

    turned : (c == 46) ≡ nat_eq 46 c
    turned = grind (arith, nat_tests)
among-none c (t ∷ ts) = among-none c ts

begins-among : (n text : List ℕ) → begins_with (n ++ 46 ∷ []) text ≡ list_any (bytes_eq n) (prefixes text)
begins-among [] [] = refl
begins-among (x ∷ n) [] = refl
begins-among [] (c ∷ text) = by (nat_eq 46 c) ∙ sym (among-none c (prefixes text))
  where
    by : (b : Bool) → (b && true) ≡ b
    by true = refl
    by false = refl
begins-among (x ∷ n) (c ∷ text) = ap (λ b. nat_eq x c && b) (begins-among n text) ∙ sym (among-first c x n (prefixes text))

-- no text begins with itself and a dot
begins-itself : (n : List ℕ) → begins_with (n ++ 46 ∷ []) n ≡ false
begins-itself [] = refl
begins-itself (c ∷ n) = ap (λ b. nat_eq c c && b) (begins-itself n) ∙ and-false (nat_eq c c)

-- ---- patterns

-- the pattern is for all names below one of the texts
abbrev is_under : List (List ℕ) → Ranked → Bool
is_under texts r = not r.0.exact && list_any (bytes_eq r.0.name) texts

under-first : (t : List ℕ) (ts : List (List ℕ)) (r : Ranked) → is_under (t ∷ ts) r ≡ (is_subtree_of t r || is_under ts r)
under-first t ts r = ap (λ b. not r.0.exact && (b || list_any (bytes_eq r.0.name) ts)) (nat_list_eq_equiv.symm r.0.name t) ∙ by (not r.0.exact) (bytes_eq t r.0.name) (list_any (bytes_eq r.0.name) ts)
  where
    by : (b u v : Bool) → (b && (u || v)) ≡ ((b && u) || (b && v))
    by true u v = refl
    by false u v = refl

both-false : (b u v : Bool) → (u ≡ true → v ≡ false) → (b && u) ≡ true → (b && v) ≡ false
both-false true u v h both = h both
both-false false u v h both = refl

apart-first : (t : List ℕ) (ts : List (List ℕ)) → list_any (bytes_eq t) ts ≡ false → (r : Ranked) → is_subtree_of t r ≡ true → is_under ts r ≡ false
apart-first t ts other r = both-false (not r.0.exact) (bytes_eq t r.0.name) (list_any (bytes_eq r.0.name) ts) (λ same. ap (λ n. list_any (bytes_eq n) ts) (sym ((bytes_decides t r.0.name).0 same)) ∙ other)

module _ (rs : List Ranked) (index : PatternIndex) (is : Indexes rs index) where
  under-found : (texts : List (List ℕ)) → AreApart texts → IsPermutation (places_where (is_under texts) 1 rs) (places_below index texts)
  under-found [] are = subst (λ ks. IsPermutation ks []) (sym (places-none (is_under []) 1 rs (λ r. and-false (not r.0.exact)))) (IsPermutation-refl [])
  under-found (t ∷ ts) are =
      subst (λ ks. IsPermutation (places_where (is_under (t ∷ ts)) 1 rs) (ks ++ places_below index ts)) (sym (ap (λ k. k.subtree) (is.says t)))
      (subst (λ ks. IsPermutation ks (places_where (is_subtree_of t) 1 rs ++ places_below index ts)) (sym (places-same (is_under (t ∷ ts)) (λ r. is_subtree_of t r || is_under ts r) 1 rs (under-first t ts)))
      (IsPermutation-trans _ _ _ (places-or (is_subtree_of t) (is_under ts) 1 rs (apart-first t ts are.0))
      (IsPermutation-append_right (places_where (is_subtree_of t) 1 rs) _ _ (under-found ts are.1))))

  apart-name : (name : List ℕ) → AreApart (name ∷ prefixes name)
  apart-name name = (sym (begins-among name name) ∙ begins-itself name, apart-prefixes name)

  name-parts : (name : List ℕ) (r : Ranked) → covers r.0 name ≡ (is_exact_for name r || is_under (name ∷ prefixes name) r)
  name-parts name r =
      covers-parts name r
      ∙ ap (λ b. (is_exact_for name r || is_subtree_of name r) || (not r.0.exact && b)) (begins-among r.0.name name)
      ∙ joined (is_exact_for name r) (is_subtree_of name r) (is_under (prefixes name) r)
      ∙ ap (λ b. is_exact_for name r || b) (sym (under-first name (prefixes name) r))
    where
      joined : (a b c : Bool) → ((a || b) || c) ≡ (a || (b || c))
      joined true b c = refl
      joined false b c = refl

  exact-apart : (name : List ℕ) (texts : List (List ℕ)) (r : Ranked) → is_exact_for name r ≡ true → is_under texts r ≡ false
  exact-apart name texts r = by r.0.exact (bytes_eq name r.0.name) (list_any (bytes_eq r.0.name) texts)
    where
      by : (exact same under : Bool) → (exact && same) ≡ true → (not exact && under) ≡ false
      by true same under h = refl
      by false same under h = absurd cc

  -- what the look-ups for the name find
  pub covering-found : (name : List ℕ) → AreCovering rs name ((kept_at index name).exact ++ places_below index (name ∷ prefixes name))
  covering-found name =
      subst (λ ks. IsPermutation (places_where (λ r. covers r.0 name) 1 rs) (ks ++ places_below index (name ∷ prefixes name))) (sym (ap (λ k. k.exact) (is.says name)))
      (subst (λ ks. IsPermutation ks (places_where (is_exact_for name) 1 rs ++ places_below index (name ∷ prefixes name))) (sym (places-same (λ r. covers r.0 name) (λ r. is_exact_for name r || is_under (name ∷ prefixes name) r) 1 rs (name-parts name)))
      (IsPermutation-trans _ _ _ (places-or (is_exact_for name) (is_under (name ∷ prefixes name)) 1 rs (exact-apart name (name ∷ prefixes name)))
      (IsPermutation-append_right (places_where (is_exact_for name) 1 rs) _ _ (under-found (name ∷ prefixes name) (apart-name name)))))
