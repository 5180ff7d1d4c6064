-- The numbers of the entries that pass a test.
use Rattle.std.proofs.Common.{◌≡◌, ℕ, zero, suc, ◌+◌, ◌-◌, ◌≤◌, Bool, true, false, not, ◌&&◌, ◌||◌, nat_le, List, [], ◌∷◌, length, Some, if◌then◌else◌, refl, ap, ap₂, sym, ◌∙◌, arith, slice_get}
use Rattle.std.specs.List.{list_all, list_any}
use Rattle.std.proofs.lemmas.Bool.{and_parts}
use Rattle.std.proofs.lemmas.Bool.Decides.{nat_tests}
use Rattle.std.proofs.lemmas.List.Sorted.{list_any-IsPermutation}
use Rattle.policy_args.specs.Covering.{AreCovering, is_number, passes, passes_at}
use Rattle.policy_args.specs.Levels.{numbers_where}
use Rattle.policy_args.specs.Policy.{entry_at}
use Rattle.policy_args.specs.declared.entry.Entry.{Entry}
use Rattle.name_patterns.specs.Patterns.{covers}

-- ---- tests of the entries by their numbers

module _ (p test : Entry → Bool) (all : List Entry) where
  -- the entries from number n on are those of the list after the first ones
  IsRest : ℕ → List Entry → Type 0
  IsRest n es = (i : ℕ) → slice_get es i ≡ entry_at all (n + i)

  rest-next : (n : ℕ) (e : Entry) (es : List Entry) → IsRest n (e ∷ es) → IsRest (n + 1) es
  unfolding IsRest
  rest-next n e es rest i = rest (suc i) ∙ ap (entry_at all) (omega arith)

  found-from : (n : ℕ) (es : List Entry) → IsRest n es → list_any (passes_at test all) (numbers_where p n es) ≡ list_any (λ e. p e && test e) es
  unfolding IsRest
  found-from n [] rest = refl
  found-from n (e ∷ es) rest = by (p e) (found-from (n + 1) es (rest-next n e es rest))
    where
      here : passes_at test all n ≡ test e
      here = ap (passes test) (ap (entry_at all) (omega arith) ∙ sym (rest 0))

      by : (b : Bool) → list_any (passes_at test all) (numbers_where p (n + 1) es) ≡ list_any (λ x. p x && test x) es →
          list_any (passes_at test all) (if b then n ∷ numbers_where p (n + 1) es else numbers_where p (n + 1) es) ≡ ((b && test e) || list_any (λ x. p x && test x) es)
      by true ih = ap₂ (λ u v. u || v) here ih
      by false ih = ih

  whole : IsRest 1 all
  unfolding IsRest
  whole i = ap (entry_at all) one
    where
      one : suc i ≡ 1 + i
      one = omega arith

  pub found-by-numbers : list_any (passes_at test all) (numbers_where p 1 all) ≡ list_any (λ e. p e && test e) all
  found-by-numbers = found-from 1 all whole

-- .. of a name
pub found-by-covering : (es : List Entry) (name numbers : List ℕ) (test : Entry → Bool) → AreCovering es name numbers →
    list_any (passes_at test es) numbers ≡ list_any (λ e. covers e.pattern name && test e) es
found-by-covering es name numbers test are =
    sym (list_any-IsPermutation (passes_at test es) (numbers_where (λ e. covers e.pattern name) 1 es) numbers are)
    ∙ found-by-numbers (λ e. covers e.pattern name) test es

entry-at-number : (es : List Entry) (n : ℕ) → 1 ≤ n → entry_at es n ≡ slice_get es (n - 1)
entry-at-number es zero low = absurd (omega (arith, low))
entry-at-number es (suc n) low = ap (slice_get es) (omega arith)

-- the first number is one that the test finds
pub found-first : (es : List Entry) (test : Entry → Bool) (n : ℕ) (e : Entry) (rest : List ℕ) → 1 ≤ n → slice_get es (n - 1) ≡ Some e → test e ≡ true →
    true ≡ list_any (passes_at test es) (n ∷ rest)
found-first es test n e rest low there is =
    ap (λ b. b || list_any (passes_at test es) rest) (sym is ∙ ap (passes test) (sym there ∙ sym (entry-at-number es n low)))

-- ---- each is the number of an entry

pub first-positive : (count n : ℕ) (rest : List ℕ) → list_all (is_number count) (n ∷ rest) ≡ true → 1 ≤ n
first-positive count n rest are =
    let first : is_number count n ≡ true = (and_parts (is_number count n) (list_all (is_number count) rest) are).0 in
    let low : nat_le 1 n ≡ true = (and_parts (nat_le 1 n) (nat_le n count) first).0 in
    grind (arith, nat_tests, low)

numbers-within : (test : Entry → Bool) (n count : ℕ) (es : List Entry) → 1 ≤ n → n + length es ≤ count + 1 → list_all (is_number count) (numbers_where test n es) ≡ true
numbers-within test n count [] low high = refl
numbers-within test n count (e ∷ es) low high = by (test e) (numbers-within test (n + 1) count es (omega arith) (omega arith))
  where
    here : is_number count n ≡ true
    here = grind (arith, nat_tests, low, high)

    by : (b : Bool) → list_all (is_number count) (numbers_where test (n + 1) es) ≡ true → list_all (is_number count) (if b then n ∷ numbers_where test (n + 1) es else numbers_where test (n + 1) es) ≡ true
    by true rest = ap₂ (λ u v. u && v) here rest
    by false rest = rest

all-by-any : (p : ℕ → Bool) (ks : List ℕ) → list_all p ks ≡ not (list_any (λ k. not (p k)) ks)
all-by-any p [] = refl
all-by-any p (k ∷ ks) = ap (λ b. p k && b) (all-by-any p ks) ∙ by (p k) (list_any (λ k. not (p k)) ks)
  where
    by : (a b : Bool) → (a && not b) ≡ not (not a || b)
    by true b = refl
    by false b = refl

pub covering-within : (es : List Entry) (name numbers : List ℕ) → AreCovering es name numbers → list_all (is_number (length es)) numbers ≡ true
covering-within es name numbers are =
    all-by-any (is_number (length es)) numbers
    ∙ ap not (sym (list_any-IsPermutation (λ k. not (is_number (length es) k)) (numbers_where (λ e. covers e.pattern name) 1 es) numbers are))
    ∙ sym (all-by-any (is_number (length es)) (numbers_where (λ e. covers e.pattern name) 1 es))
    ∙ numbers-within (λ e. covers e.pattern name) 1 (length es) es (omega arith) (omega arith)
