-- The greatest rank of patterns, by the tests that they pass.
use Rattle.std.proofs.Common.{◌≡◌, ℕ, max, Bool, true, false, ◌||◌, List, [], ◌∷◌, ◌++◌, if◌then◌else◌, refl, ap₂, ap, sym, ◌∙◌, arith}
use Rattle.name_patterns.specs.Ranks.{Ranked, greatest}

-- ---- numbers

pub max-none : (a : ℕ) → max a 0 ≡ a
max-none a = omega arith

pub max-assoc : (a b c : ℕ) → max (max a b) c ≡ max a (max b c)
max-assoc a b c = omega arith

swapped : (a b c : ℕ) → max a (max b c) ≡ max b (max a c)
swapped a b c = omega arith

both : (a b c : ℕ) → max a (max b c) ≡ max (max a b) (max a c)
both a b c = omega arith

-- ---- patterns

-- one of two tests
pub greatest-or : (p q : Ranked → Bool) (rs : List Ranked) → greatest (λ r. p r || q r) rs ≡ max (greatest p rs) (greatest q rs)
greatest-or p q [] = refl
greatest-or p q (r ∷ rs) = by (p r) (q r) (greatest-or p q rs)
  where
    by : (a b : Bool) → greatest (λ r. p r || q r) rs ≡ max (greatest p rs) (greatest q rs) →
        (if a || b then max r.1 (greatest (λ r. p r || q r) rs) else greatest (λ r. p r || q r) rs)
        ≡ max (if a then max r.1 (greatest p rs) else greatest p rs) (if b then max r.1 (greatest q rs) else greatest q rs)
    by true true is = ap (max r.1) is ∙ both r.1 (greatest p rs) (greatest q rs)
    by true false is = ap (max r.1) is ∙ sym (max-assoc r.1 (greatest p rs) (greatest q rs))
    by false true is = ap (max r.1) is ∙ swapped r.1 (greatest p rs) (greatest q rs)
    by false false is = is

-- a test with the same results
pub greatest-same : (p q : Ranked → Bool) (rs : List Ranked) → ((r : Ranked) → p r ≡ q r) → greatest p rs ≡ greatest q rs
greatest-same p q [] same = refl
greatest-same p q (r ∷ rs) same = ap₂ (λ b n. if b then max r.1 n else n) (same r) (greatest-same p q rs same)

-- a test that none passes
pub greatest-none : (p : Ranked → Bool) (rs : List Ranked) → ((r : Ranked) → p r ≡ false) → greatest p rs ≡ 0
greatest-none p [] none = refl
greatest-none p (r ∷ rs) none = ap (λ b. if b then max r.1 (greatest p rs) else greatest p rs) (none r) ∙ greatest-none p rs none

-- one more pattern
pub greatest-last : (p : Ranked → Bool) (rs : List Ranked) (r : Ranked) → greatest p (rs ++ r ∷ []) ≡ (if p r then max (greatest p rs) r.1 else greatest p rs)
greatest-last p [] r = by (p r)
  where
    by : (b : Bool) → (if b then max r.1 0 else 0) ≡ (if b then max 0 r.1 else 0)
    by true = omega arith
    by false = refl
greatest-last p (x ∷ rs) r = by (p x) (p r) (greatest-last p rs r)
  where
    by : (a b : Bool) → greatest p (rs ++ r ∷ []) ≡ (if b then max (greatest p rs) r.1 else greatest p rs) →
        (if a then max x.1 (greatest p (rs ++ r ∷ [])) else greatest p (rs ++ r ∷ []))
        ≡ (if b then max (if a then max x.1 (greatest p rs) else greatest p rs) r.1
        else (if a then max x.1 (greatest p rs) else greatest p rs))
    by true true is = ap (max x.1) is ∙ sym (max-assoc x.1 (greatest p rs) r.1)
    by true false is = ap (max x.1) is
    by false b is = is
