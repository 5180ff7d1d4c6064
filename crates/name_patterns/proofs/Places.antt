-- The places of the values that pass a test.
use Rattle.std.proofs.Common.{◌≡◌, ℕ, ◌+◌, ◌==◌, Bool, true, false, not, ◌||◌, List, [], ◌∷◌, ◌++◌, length, map, if◌then◌else◌, refl, ap, ap₂, sym, ◌∙◌, arith}
use Rattle.std.specs.List.{list_any}
use Rattle.std.specs.Prelude.{IsPermutation}
use Rattle.std.proofs.lemmas.Bool.Decides.{nat_tests}
use Rattle.std.proofs.lemmas.List.Sorted.{IsPermutation-refl, IsPermutation-cons, IsPermutation-middle, IsPermutation-sym, IsPermutation-trans}
use Rattle.name_patterns.specs.Ranks.{places_where}

-- one more value
pub places-last : {A : Type 0} (test : A → Bool) (n : ℕ) (rs : List A) (r : A) →
    places_where test n (rs ++ r ∷ []) ≡ (if test r then places_where test n rs ++ (n + length rs) ∷ [] else places_where test n rs)
places-last test n [] r = ap (λ k. if test r then k ∷ [] else []) (omega arith)
places-last test n (x ∷ rs) r =
    ap (λ ks. if test x then n ∷ ks else ks) (places-last test (n + 1) rs r) ∙ by (test x) (test r)
    ∙ ap (λ k. if test r then (if test x then n ∷ places_where test (n + 1) rs else places_where test (n + 1) rs) ++ k ∷ [] else (if test x then n ∷ places_where test (n + 1) rs else places_where test (n + 1) rs)) next
  where
    next : n + 1 + length rs ≡ n + length (x ∷ rs)
    next = omega arith

    by : (a b : Bool) →
        (if a then n ∷ (if b then places_where test (n + 1) rs ++ (n + 1 + length rs) ∷ [] else places_where test (n + 1) rs) else (if b then places_where test (n + 1) rs ++ (n + 1 + length rs) ∷ [] else places_where test (n + 1) rs))
        ≡ (if b then (if a then n ∷ places_where test (n + 1) rs else places_where test (n + 1) rs) ++ (n + 1 + length rs) ∷ [] else (if a then n ∷ places_where test (n + 1) rs else places_where test (n + 1) rs))
    by true true = refl
    by true false = refl
    by false true = refl
    by false false = refl

-- a test of what is made of each value
pub places-map : {A B : Type 0} (test : B → Bool) (f : A → B) (n : ℕ) (xs : List A) → places_where test n (map f xs) ≡ places_where (λ x. test (f x)) n xs
places-map test f n [] = refl
places-map test f n (x ∷ xs) = ap (λ ks. if test (f x) then n ∷ ks else ks) (places-map test f (n + 1) xs)

-- a test with the same results
pub places-same : {A : Type 0} (p q : A → Bool) (n : ℕ) (rs : List A) → ((r : A) → p r ≡ q r) → places_where p n rs ≡ places_where q n rs
places-same p q n [] same = refl
places-same p q n (r ∷ rs) same = ap₂ (λ b ks. if b then n ∷ ks else ks) (same r) (places-same p q (n + 1) rs same)

-- a test that none passes
pub places-none : {A : Type 0} (p : A → Bool) (n : ℕ) (rs : List A) → ((r : A) → p r ≡ false) → places_where p n rs ≡ []
places-none p n [] none = refl
places-none p n (r ∷ rs) none = ap (λ b. if b then n ∷ places_where p (n + 1) rs else places_where p (n + 1) rs) (none r) ∙ places-none p (n + 1) rs none

-- whether one passes it
pub places-any : {A : Type 0} (p : A → Bool) (n : ℕ) (rs : List A) → not (length (places_where p n rs) == 0) ≡ list_any p rs
places-any p n [] = refl
places-any p n (r ∷ rs) = by (p r) (places-any p (n + 1) rs)
  where
    by : (b : Bool) → not (length (places_where p (n + 1) rs) == 0) ≡ list_any p rs → not (length (if b then n ∷ places_where p (n + 1) rs else places_where p (n + 1) rs) == 0) ≡ (b || list_any p rs)
    by true rest = grind (arith, nat_tests)
    by false rest = rest

true-false : true ≡ false → ⊥
true-false is = absurd cc

-- one of two tests that none passes both
pub places-or : {A : Type 0} (p q : A → Bool) (n : ℕ) (rs : List A) → ((r : A) → p r ≡ true → q r ≡ false) →
    IsPermutation (places_where (λ r. p r || q r) n rs) (places_where p n rs ++ places_where q n rs)
places-or p q n [] apart = IsPermutation-refl []
places-or p q n (r ∷ rs) apart = by (p r) (q r) refl refl (places-or p q (n + 1) rs apart)
  where
    by : (a b : Bool) → p r ≡ a → q r ≡ b → IsPermutation (places_where (λ x. p x || q x) (n + 1) rs) (places_where p (n + 1) rs ++ places_where q (n + 1) rs) →
        IsPermutation (if a || b then n ∷ places_where (λ x. p x || q x) (n + 1) rs else places_where (λ x. p x || q x) (n + 1) rs)
        ((if a then n ∷ places_where p (n + 1) rs else places_where p (n + 1) rs) ++ (if b then n ∷ places_where q (n + 1) rs else places_where q (n + 1) rs))
    by true true pe qe rest = absurd (true-false (sym qe ∙ apart r pe))
    by true false pe qe rest = IsPermutation-cons n _ _ rest
    by false true pe qe rest = IsPermutation-trans _ _ _ (IsPermutation-cons n _ _ rest) (IsPermutation-sym _ _ (IsPermutation-middle (places_where p (n + 1) rs) n (places_where q (n + 1) rs)))
    by false false pe qe rest = rest
