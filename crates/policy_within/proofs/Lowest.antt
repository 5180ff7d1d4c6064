-- The lowest number that passes a test, whatever the order of the numbers.
use Rattle.std.proofs.Common.{◌≡◌, ℕ, suc, ◌+◌, ◌<◌, ◌≤◌, Bool, true, false, List, [], ◌∷◌, fold, Option, Some, None, refl, ap, ap₂, sym, ◌∙◌, nat_eq, nat_lt, slice_get, arith, inl, inr}
use Rattle.std.specs.Prelude.{◌⊎◌, ◌&&◌, ◌||◌, if◌then◌else◌}
use Rattle.std.specs.List.{list_any}
use Rattle.std.proofs.lemmas.Bool.{and_parts, both_ways, eq-eqb, eqb-true, false_from_ne_true, lt-ltb, ltb-false, ltb-true, or_cases, or_from, or_left, or_parts, or_right}
use Rattle.std.proofs.lemmas.List.Sorted.{list_any-IsPermutation}
use Rattle.byte_lists.proofs.Options.{some}
use Rattle.name_patterns.specs.Patterns.{covers}
use Rattle.policy_args.specs.Covering.{AreCovering, passes, passes_at}
use Rattle.policy_args.specs.Levels.{numbers_where}
use Rattle.policy_args.specs.Policy.{entry_at}
use Rattle.policy_args.specs.Requests.{asked_name, grant_permits}
use Rattle.policy_args.specs.declared.entry.Entry.{Entry}
use Rattle.policy_args.specs.declared.requests.Asked.{Asked}
use Rattle.policy_within.specs.Steps.{is_below, with_lower}
use Rattle.policy_within.specs.Within.{by_itself, lowest}
use Rattle.policy_within.proofs.EntryNumbers.{has}

-- ---- the least of numbers that passes

-- no number that passes is lower, and it is one of them or the one from before
record IsLeast (test : ℕ → Bool) (before : Option ℕ) (numbers : List ℕ) (least : Option ℕ) : Type 0 where
  low : list_any (λ m. is_below m least && test m) numbers ≡ false
  among : (least ≡ before) ⊎ ((n : ℕ) × (least ≡ Some n) × (list_any (λ m. nat_eq n m && test m) numbers ≡ true))
  start : (m : ℕ) → is_below m least ≡ true → is_below m before ≡ true

below_both : (m n : ℕ) (o : Option ℕ) → is_below n o ≡ true → nat_lt m n ≡ true → is_below m o ≡ true
below_both m n None h k = refl
below_both m n (Some least) h k = lt-ltb m least (omega (arith, ltb-true n least h, ltb-true m n k))

not_itself : (m : ℕ) → nat_lt m m ≡ true → ⊥
not_itself m h = let lt = ltb-true m m h in omega (arith, lt)

fold-least : (test : ℕ → Bool) (before : Option ℕ) (numbers : List ℕ) → IsLeast test before numbers (fold (with_lower test) before numbers)
fold-least test before [] = record { low = refl; among = inl refl; start = λ m h. h }
fold-least test before (n ∷ numbers) = by (is_below n before && test n) refl (fold-least test (Some n) numbers) (fold-least test before numbers)
  where
    more : (least : Option ℕ) → (is_below n least && test n) ≡ false → list_any (λ m. is_below m least && test m) numbers ≡ false → list_any (λ m. is_below m least && test m) (n ∷ numbers) ≡ false
    more least h k = or_from _ _ h k

    one : (least : Option ℕ) → test n ≡ true → ((least ≡ Some n) ⊎ ((k : ℕ) × (least ≡ Some k) × (list_any (λ m. nat_eq k m && test m) numbers ≡ true))) →
        (least ≡ before) ⊎ ((k : ℕ) × (least ≡ Some k) × (list_any (λ m. nat_eq k m && test m) (n ∷ numbers) ≡ true))
    one least t (inl e) = inr (n, e, or_left (nat_eq n n && test n) _ (ap (λ b. b && test n) (eq-eqb n n refl) ∙ t))
    one least t (inr k) = inr (k.0, k.1, or_right (nat_eq k.0 n && test n) _ k.2)

    same : (least : Option ℕ) → ((least ≡ before) ⊎ ((k : ℕ) × (least ≡ Some k) × (list_any (λ m. nat_eq k m && test m) numbers ≡ true))) →
        (least ≡ before) ⊎ ((k : ℕ) × (least ≡ Some k) × (list_any (λ m. nat_eq k m && test m) (n ∷ numbers) ≡ true))
    same least (inl e) = inl e
    same least (inr k) = inr (k.0, k.1, or_right (nat_eq k.0 n && test n) _ k.2)

    taken : (least : Option ℕ) → is_below n before ≡ true → test n ≡ true → IsLeast test (Some n) numbers least → IsLeast test before (n ∷ numbers) least
    taken least b t next = record {
      low = more least (false_from_ne_true _ (λ h. not_itself n (next.start n (and_parts (is_below n least) (test n) h).0))) next.low;
      among = one least t next.among;
      start = λ m h. below_both m n before b (next.start m h);
    }

    passed : (least : Option ℕ) → (is_below n before && test n) ≡ false → IsLeast test before numbers least → IsLeast test before (n ∷ numbers) least
    passed least b next = record {
      low = more least (false_from_ne_true _ (λ h.
          let both = and_parts (is_below n least) (test n) h in
          both_ways (is_below n before && test n) b (ap₂ (λ x y. x && y) (next.start n both.0) both.1))) next.low;
      among = same least next.among;
      start = next.start;
    }

    by : (b : Bool) → (is_below n before && test n) ≡ b → IsLeast test (Some n) numbers (fold (with_lower test) (Some n) numbers) → IsLeast test before numbers (fold (with_lower test) before numbers) →
        IsLeast test before (n ∷ numbers) (fold (with_lower test) (if b then some n else before) numbers)
    by true e next other = let both = and_parts (is_below n before) (test n) e in taken (fold (with_lower test) (Some n) numbers) both.0 both.1 next
    by false e next other = passed (fold (with_lower test) before numbers) e other

-- ---- numbers of entries are ascending

low-bound : (test : Entry → Bool) (k : ℕ) (es : List Entry) (m : ℕ) → has (numbers_where test k es) m ≡ true → k ≤ m
low-bound test k [] m h = absurd cc
low-bound test k (e ∷ es) m h = by (test e) (low-bound test (k + 1) es m) h
  where
    by : (b : Bool) → (has (numbers_where test (k + 1) es) m ≡ true → k + 1 ≤ m) → has (if b then k ∷ numbers_where test (k + 1) es else numbers_where test (k + 1) es) m ≡ true → k ≤ m
    by true next h = elim (or_cases (nat_eq m k) (has (numbers_where test (k + 1) es) m) h) [
      | inl e ↦ let same = eqb-true m k e in omega (arith, same)
      | inr more ↦ let later = next more in omega (arith, later)
    ]
    by false next h = let later = next h in omega (arith, later)

ascending : (test : Entry → Bool) (k : ℕ) (es : List Entry) (h : ℕ) (rest : List ℕ) (m : ℕ) → numbers_where test k es ≡ h ∷ rest → has rest m ≡ true → h < m
ascending test k [] h rest m e i = absurd cc
ascending test k (x ∷ es) h rest m e i = by (test x) (ascending test (k + 1) es h rest m) (low-bound test (k + 1) es m) e
  where
    by : (b : Bool) → (numbers_where test (k + 1) es ≡ h ∷ rest → has rest m ≡ true → h < m) → (has (numbers_where test (k + 1) es) m ≡ true → k + 1 ≤ m) →
        (if b then k ∷ numbers_where test (k + 1) es else numbers_where test (k + 1) es) ≡ h ∷ rest → h < m
    by true next bound e =
        let first : k ≡ h = cc in
        let others : numbers_where test (k + 1) es ≡ rest = cc in
        let later = bound (ap (λ ns. has ns m) others ∙ i) in
        omega (arith, first, later)
    by false next bound e = next e i

-- the lowest of ascending numbers is the first
first-is : (test : Entry → Bool) (es : List Entry) (n : ℕ) → has (numbers_where test 1 es) n ≡ true → list_any (λ m. nat_lt m n) (numbers_where test 1 es) ≡ false → slice_get (numbers_where test 1 es) 0 ≡ Some n
first-is test es n here low = by (numbers_where test 1 es) refl here low
  where
    by : (numbers : List ℕ) → numbers_where test 1 es ≡ numbers → has numbers n ≡ true → list_any (λ m. nat_lt m n) numbers ≡ false → slice_get numbers 0 ≡ Some n
    by [] e here low = absurd cc
    by (h ∷ rest) e here low =
        let over = ltb-false h n (or_parts (nat_lt h n) (list_any (λ m. nat_lt m n) rest) low).0 in
        elim (or_cases (nat_eq n h) (has rest n) here) [
          | inl same ↦ ap some (sym (eqb-true n h same))
          | inr more ↦ let under = ascending test 1 es h rest n e more in absurd (omega (arith, over, under))
        ]

-- ---- numbers of those that also pass another test

-- what finds a number among those of the entries that pass both tests
both-tests : (p : Entry → Bool) (test : Entry → Bool) (all : List Entry) (find : ℕ → Bool) (k : ℕ) (es : List Entry) → ((i : ℕ) → slice_get es i ≡ entry_at all (k + i)) →
    list_any (λ m. find m && passes_at test all m) (numbers_where p k es) ≡ list_any find (numbers_where (λ e. p e && test e) k es)
both-tests p test all find k [] at = refl
both-tests p test all find k (e ∷ es) at = by (p e) (test e) here (both-tests p test all find (k + 1) es (λ i. at (suc i) ∙ ap (entry_at all) (omega arith)))
  where
    here : passes_at test all k ≡ test e
    here = ap (passes test) (ap (entry_at all) (omega arith) ∙ sym (at 0))

    or_same : (a b c d : Bool) → b ≡ true → c ≡ d → ((a && b) || c) ≡ (a || d)
    or_same true b c d h k = ap (λ x. x || c) h
    or_same false b c d h k = k

    or_none : (a b c d : Bool) → b ≡ false → c ≡ d → ((a && b) || c) ≡ d
    or_none true b c d h k = ap (λ x. x || c) h ∙ k
    or_none false b c d h k = k

    by : (b t : Bool) → passes_at test all k ≡ t → list_any (λ m. find m && passes_at test all m) (numbers_where p (k + 1) es) ≡ list_any find (numbers_where (λ e. p e && test e) (k + 1) es) →
        list_any (λ m. find m && passes_at test all m) (if b then k ∷ numbers_where p (k + 1) es else numbers_where p (k + 1) es)
        ≡ list_any find (if b && t then k ∷ numbers_where (λ e. p e && test e) (k + 1) es else numbers_where (λ e. p e && test e) (k + 1) es)
    by true true h ih = or_same (find k) (passes_at test all k) _ _ h ih
    by true false h ih = or_none (find k) (passes_at test all k) _ _ h ih
    by false t h ih = ih

-- ---- the lowest entry

none-there : (numbers : List ℕ) → list_any (λ m. true) numbers ≡ false → slice_get numbers 0 ≡ None
none-there [] h = refl
none-there (n ∷ numbers) h = absurd cc

from-one : (es : List Entry) (i : ℕ) → slice_get es i ≡ entry_at es (1 + i)
from-one es i = let same : suc i ≡ 1 + i = omega arith in ap (entry_at es) same

pub lowest-found : (es : List Entry) (asked : Asked) (numbers : List ℕ) → AreCovering es (asked_name asked) numbers →
    fold (with_lower (passes_at (λ (e : Entry). grant_permits e.grant asked) es)) None numbers ≡ lowest es asked
lowest-found es asked numbers are = by (fold (with_lower test) None numbers) (fold-least test None numbers)
  where
    test : ℕ → Bool
    test = passes_at (λ (e : Entry). grant_permits e.grant asked) es

    cover : Entry → Bool
    cover e = covers e.pattern (asked_name asked)

    found : (find : ℕ → Bool) (b : Bool) → list_any (λ m. find m && test m) numbers ≡ b → list_any find (numbers_where (by_itself asked) 1 es) ≡ b
    found find b h =
        sym (both-tests cover (λ (e : Entry). grant_permits e.grant asked) es find 1 es (from-one es))
        ∙ list_any-IsPermutation (λ m. find m && test m) (numbers_where cover 1 es) numbers are ∙ h

    by : (least : Option ℕ) → IsLeast test None numbers least → least ≡ lowest es asked
    by None is = sym (none-there (numbers_where (by_itself asked) 1 es) (found (λ m. true) false is.low))
    by (Some n) is = elim is.among [
      | inl none ↦ absurd cc
      | inr k ↦
          let same : k.0 ≡ n = cc in
          let here : list_any (λ m. nat_eq n m && test m) numbers ≡ true = ap (λ j. list_any (λ m. nat_eq j m && test m) numbers) (sym same) ∙ k.2 in
          sym (first-is (by_itself asked) es n (found (nat_eq n) true here) (found (λ m. nat_lt m n) false is.low))
    ]
