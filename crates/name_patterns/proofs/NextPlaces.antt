-- The next place of a pattern that passes a test, by binary searches in lists of places.
use Rattle.std.proofs.Common.{◌≡◌, ℕ, zero, suc, ◌+◌, ◌-◌, ◌≤◌, ◌<◌, min, Bool, true, false, ◌||◌, nat_lt, nat_le, List, [], ◌∷◌, length, drop, get_or, Option, Some, None, slice_get, slice_index_or, if◌then◌else◌, refl, ap, sym, ◌∙◌, subst, arith}
use Rattle.std.specs.List.Sorted.{IsPartitionedBy}
use Rattle.std.proofs.lemmas.Bool.Decides.{nat_tests}
use Rattle.name_patterns.specs.PatternIndex.{first_from, lesser}
use Rattle.name_patterns.specs.Ranks.{Ranked, covers_name, is_exact_for, is_subtree_of, next_place, places_where}
use Rattle.name_patterns.proofs.PatternFronts.{HasNoDot, IsBeforeLastDot, below-cut, below-none, covers-parts, is_below}
use Rattle.name_patterns.proofs.Places.{places-none, places-same}

abbrev first : List ℕ → Option ℕ
first ks = slice_get ks 0

-- ---- the lesser of two places

lesser-none : (a : Option ℕ) → lesser a None ≡ a
lesser-none None = refl
lesser-none (Some a) = refl

lesser-assoc : (a b c : Option ℕ) → lesser (lesser a b) c ≡ lesser a (lesser b c)
lesser-assoc None b c = refl
lesser-assoc (Some a) None c = refl
lesser-assoc (Some a) (Some b) None = refl
lesser-assoc (Some a) (Some b) (Some c) = let is : min (min a b) c ≡ min a (min b c) = omega arith in ap (λ (n : ℕ). Some n) is

lesser-turned : (a b : Option ℕ) → lesser a b ≡ lesser b a
lesser-turned None b = sym (lesser-none b)
lesser-turned (Some a) None = refl
lesser-turned (Some a) (Some b) = let is : min a b ≡ min b a = omega arith in ap (λ (n : ℕ). Some n) is

-- ---- by tests

-- no later place is less
stays : (q : Ranked → Bool) (n m : ℕ) (rs : List Ranked) → n ≤ m → lesser (Some n) (first (places_where q m rs)) ≡ Some n
stays q n m [] low = refl
stays q n m (r ∷ rs) low = by (q r) (stays q n (m + 1) rs (omega (arith, low)))
  where
    by : (b : Bool) → lesser (Some n) (first (places_where q (m + 1) rs)) ≡ Some n → lesser (Some n) (first (if b then m ∷ places_where q (m + 1) rs else places_where q (m + 1) rs)) ≡ Some n
    by true later = let is : min n m ≡ n = omega (arith, low) in ap (λ (k : ℕ). Some k) is
    by false later = later

first-or : (p q : Ranked → Bool) (n : ℕ) (rs : List Ranked) → first (places_where (λ r. p r || q r) n rs) ≡ lesser (first (places_where p n rs)) (first (places_where q n rs))
first-or p q n [] = refl
first-or p q n (r ∷ rs) = by (p r) (q r) (first-or p q (n + 1) rs)
  where
    by : (a b : Bool) → first (places_where (λ r. p r || q r) (n + 1) rs) ≡ lesser (first (places_where p (n + 1) rs)) (first (places_where q (n + 1) rs)) →
        first (if a || b then n ∷ places_where (λ r. p r || q r) (n + 1) rs else places_where (λ r. p r || q r) (n + 1) rs)
        ≡ lesser (first (if a then n ∷ places_where p (n + 1) rs else places_where p (n + 1) rs)) (first (if b then n ∷ places_where q (n + 1) rs else places_where q (n + 1) rs))
    by true true later = let is : n ≡ min n n = omega arith in ap (λ (k : ℕ). Some k) is
    by true false later = sym (stays q n (n + 1) rs (omega arith))
    by false true later = sym (lesser-turned (first (places_where p (n + 1) rs)) (Some n) ∙ stays p n (n + 1) rs (omega arith))
    by false false later = later

next-or : (p q : Ranked → Bool) (from : ℕ) (rs : List Ranked) → next_place (λ r. p r || q r) from rs ≡ lesser (next_place p from rs) (next_place q from rs)
next-or p q from rs = first-or p q from (drop (from - 1) rs)

next-same : (p q : Ranked → Bool) (from : ℕ) (rs : List Ranked) → ((r : Ranked) → p r ≡ q r) → next_place p from rs ≡ next_place q from rs
next-same p q from rs same = ap first (places-same p q from (drop (from - 1) rs) same)

-- ---- the look-ups

-- no prefix is left
pub next-all : (rs : List Ranked) (from : ℕ) (text : List ℕ) (next : Option ℕ) → HasNoDot text → lesser next (next_place (is_below text) from rs) ≡ next
next-all rs from text next none = ap (λ ks. lesser next (first ks)) (places-none (is_below text) from (drop (from - 1) rs) (below-none text none)) ∙ lesser-none next

-- the whole name
pub next-whole : (rs : List Ranked) (from : ℕ) (name : List ℕ) →
    lesser (lesser (next_place (is_exact_for name) from rs) (next_place (is_subtree_of name) from rs)) (next_place (is_below name) from rs) ≡ next_place (covers_name name) from rs
next-whole rs from name =
    ap (λ n. lesser n (next_place (is_below name) from rs)) (sym (next-or (is_exact_for name) (is_subtree_of name) from rs))
    ∙ sym (next-or (λ r. is_exact_for name r || is_subtree_of name r) (is_below name) from rs)
    ∙ sym (next-same (covers_name name) (λ r. (is_exact_for name r || is_subtree_of name r) || is_below name r) from rs (covers-parts name))

-- one more prefix
pub next-front : (rs : List Ranked) (from : ℕ) (text front : List ℕ) (next : Option ℕ) → IsBeforeLastDot text front →
    lesser (lesser next (next_place (is_subtree_of front) from rs)) (next_place (is_below front) from rs) ≡ lesser next (next_place (is_below text) from rs)
next-front rs from text front next cut =
    lesser-assoc next (next_place (is_subtree_of front) from rs) (next_place (is_below front) from rs)
    ∙ ap (lesser next) (sym (next-or (is_subtree_of front) (is_below front) from rs)
    ∙ sym (next-same (is_below text) (λ r. is_subtree_of front r || is_below front r) from rs (below-cut text front cut)))

-- ---- the first of ascending places

at-least : (test : Ranked → Bool) (n : ℕ) (rs : List Ranked) (i d : ℕ) → i < length (places_where test n rs) → n ≤ get_or (places_where test n rs) i d
at-least test n [] i d within = absurd (omega (arith, within))
at-least test n (r ∷ rs) i d within = by (test r) i within (at-least test (n + 1) rs)
  where
    by : (b : Bool) (i : ℕ) → i < length (if b then n ∷ places_where test (n + 1) rs else places_where test (n + 1) rs) →
        ((j e : ℕ) → j < length (places_where test (n + 1) rs) → n + 1 ≤ get_or (places_where test (n + 1) rs) j e) →
        n ≤ get_or (if b then n ∷ places_where test (n + 1) rs else places_where test (n + 1) rs) i d
    by true zero within later = omega arith
    by true (suc i) within later = let more = later i d (omega (arith, within)) in omega (arith, more)
    by false i within later = let more = later i d within in omega (arith, more)

ascending : (test : Ranked → Bool) (n : ℕ) (rs : List Ranked) (i j d : ℕ) → i ≤ j → j < length (places_where test n rs) → get_or (places_where test n rs) i d ≤ get_or (places_where test n rs) j d
ascending test n [] i j d le within = absurd (omega (arith, within))
ascending test n (r ∷ rs) i j d le within = by (test r) i j le within (ascending test (n + 1) rs)
  where
    by : (b : Bool) (i j : ℕ) → i ≤ j → j < length (if b then n ∷ places_where test (n + 1) rs else places_where test (n + 1) rs) →
        ((k l e : ℕ) → k ≤ l → l < length (places_where test (n + 1) rs) → get_or (places_where test (n + 1) rs) k e ≤ get_or (places_where test (n + 1) rs) l e) →
        get_or (if b then n ∷ places_where test (n + 1) rs else places_where test (n + 1) rs) i d ≤ get_or (if b then n ∷ places_where test (n + 1) rs else places_where test (n + 1) rs) j d
    by true zero zero le within later = omega arith
    by true zero (suc j) le within later = let more = at-least test (n + 1) rs j d (omega (arith, within)) in omega (arith, more)
    by true (suc i) zero le within later = absurd (omega (arith, le))
    by true (suc i) (suc j) le within later = later i j d (omega (arith, le)) (omega (arith, within))
    by false i j le within later = later i j d le within

-- what a binary search asks for
are-parted : (test : Ranked → Bool) (rs : List Ranked) (from i j d : ℕ) → i ≤ j → j < length (places_where test 1 rs) →
    nat_lt (slice_index_or (places_where test 1 rs) j d) from ≡ true → nat_lt (slice_index_or (places_where test 1 rs) i d) from ≡ true
are-parted test rs from i j d le within below = let more = ascending test 1 rs i j d le within in grind (arith, nat_tests, more, below)

reached : (k from : ℕ) → nat_lt k from ≡ false → nat_le from k ≡ true
reached k from is = grind (arith, nat_tests)

passed : (k from : ℕ) → nat_lt k from ≡ true → nat_le from k ≡ false
passed k from is = grind (arith, nat_tests)

-- and what it finds
pub found-at : (from : ℕ) (ks : List ℕ) (at : ℕ) → ((k d : ℕ) → 0 ≤ k → k < at → nat_lt (slice_index_or ks k d) from ≡ true) →
    ((k d : ℕ) → at ≤ k → k < length ks → nat_lt (slice_index_or ks k d) from ≡ false) → slice_get ks at ≡ first_from from ks
found-at from [] zero less more = refl
found-at from [] (suc at) less more = refl
found-at from (k ∷ ks) zero less more = ap (λ b. if b then Some k else first_from from ks) (sym (reached k from (more 0 0 (omega arith) (omega arith))))
found-at from (k ∷ ks) (suc at) less more =
    found-at from ks at (λ j d low high. less (suc j) d (omega arith) (omega (arith, high))) (λ j d low high. more (suc j) d (omega (arith, low)) (omega (arith, high)))
    ∙ ap (λ b. if b then Some k else first_from from ks) (sym (passed k from (less 0 0 (omega arith) (omega arith))))

-- ---- the first of the places at which a test holds

all-from : (test : Ranked → Bool) (from n : ℕ) (rs : List Ranked) → from ≤ n → first_from from (places_where test n rs) ≡ first (places_where test n rs)
all-from test from n [] low = refl
all-from test from n (r ∷ rs) low = by (test r) (all-from test from (n + 1) rs (omega (arith, low)))
  where
    here : nat_le from n ≡ true
    here = grind (arith, nat_tests, low)

    by : (b : Bool) → first_from from (places_where test (n + 1) rs) ≡ first (places_where test (n + 1) rs) →
        first_from from (if b then n ∷ places_where test (n + 1) rs else places_where test (n + 1) rs) ≡ first (if b then n ∷ places_where test (n + 1) rs else places_where test (n + 1) rs)
    by true later = ap (λ b. if b then Some n else first_from from (places_where test (n + 1) rs)) here
    by false later = later

past-first : (test : Ranked → Bool) (n k from : ℕ) (rs : List Ranked) → from ≡ n + k → first_from from (places_where test n rs) ≡ first (places_where test from (drop k rs))
past-first test n zero from rs is =
    let same : n ≡ from = omega (arith, is) in
    all-from test from n rs (omega (arith, is)) ∙ ap (λ m. first (places_where test m rs)) same
past-first test n (suc k) from [] is = refl
past-first test n (suc k) from (r ∷ rs) is = by (test r) (past-first test (n + 1) k from rs (omega (arith, is)))
  where
    before : nat_le from n ≡ false
    before = grind (arith, nat_tests, is)

    by : (b : Bool) → first_from from (places_where test (n + 1) rs) ≡ first (places_where test from (drop k rs)) →
        first_from from (if b then n ∷ places_where test (n + 1) rs else places_where test (n + 1) rs) ≡ first (places_where test from (drop k rs))
    by true later = ap (λ b. if b then Some n else first_from from (places_where test (n + 1) rs)) before ∙ later
    by false later = later

next-found : (test : Ranked → Bool) (from : ℕ) (rs : List Ranked) → 1 ≤ from → first_from from (places_where test 1 rs) ≡ next_place test from rs
next-found test from rs low = past-first test 1 (from - 1) from rs (omega (arith, low))

-- what a binary search in the places of a name finds
pub searched : (test : Ranked → Bool) (rs : List Ranked) (from : ℕ) (ks : List ℕ) (found : Option ℕ) → 1 ≤ from → ks ≡ places_where test 1 rs →
    (IsPartitionedBy (λ place. nat_lt place from) ks → found ≡ first_from from ks) → found ≡ next_place test from rs
searched test rs from ks found low are search-found =
    search-found (subst (IsPartitionedBy (λ place. nat_lt place from)) (sym are) (are-parted test rs from))
    ∙ ap (first_from from) are ∙ next-found test from rs low
