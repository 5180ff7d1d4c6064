-- Ascending numbers, and the insertion of others.
use Rattle.std.proofs.Common.{◌≡◌, ◌≢◌, ℕ, zero, suc, ◌+◌, ◌≤◌, ◌<◌, nat_lt, Bool, true, false, ◌||◌, List, [], ◌∷◌, length, take, get_or, Result, Ok, Err, if◌then◌else◌, refl, ap, ap₂, sym, subst, ◌∙◌, arith, add-one}
use Rattle.std.specs.Prelude.{◌==◌, nat_le, not, is_err, MatchResult}
use Rattle.std.specs.List.{insert}
use Rattle.std.specs.List.Sorted.{IsBinarySearchResult}
use Rattle.std.specs.Ordering.{nat_cmp}
use Rattle.std.proofs.Math.Bool.{or-true}
use Rattle.std.proofs.lemmas.Bool.{and_from, and_parts, eq-eqb, eqb-true, le-leb, leb-true, lt-ltb, ltb-false, ltb-true, ne_eqb}
use Rattle.std.proofs.lemmas.Bool.Decides.{nat_tests}
use Rattle.std.proofs.lemmas.List.Sorted.{searched}
use Rattle.unique_names.specs.Inserted.{ascends_from, below, count_below, is_in, missing_in, place_of, with_number, with_numbers}

-- ---- numbers that ascend

not-less : (a b : ℕ) → b ≤ a → nat_lt a b ≡ false
not-less a b le = grind (arith, nat_tests)

pub ascending-parts : (low n : ℕ) (ns : List ℕ) → ascends_from low (n ∷ ns) ≡ true → (low ≤ n) × (ascends_from (n + 1) ns ≡ true)
ascending-parts low n ns a = let p = and_parts (nat_le low n) (ascends_from (n + 1) ns) a in (leb-true low n p.0, p.1)

pub ascending-of : (low n : ℕ) (ns : List ℕ) → low ≤ n → ascends_from (n + 1) ns ≡ true → ascends_from low (n ∷ ns) ≡ true
ascending-of low n ns le a = and_from (nat_le low n) (ascends_from (n + 1) ns) (le-leb low n le) a

pub weaker : (low high : ℕ) (ns : List ℕ) → low ≤ high → ascends_from high ns ≡ true → ascends_from low ns ≡ true
weaker low high [] le a = refl
weaker low high (n ∷ ns) le a =
    let p = ascending-parts high n ns a in
    let least : high ≤ n = p.0 in
    ascending-of low n ns (omega arith) p.1

at-least : (low : ℕ) (ns : List ℕ) (i : ℕ) → ascends_from low ns ≡ true → i < length ns → low ≤ get_or ns i 0
at-least low [] i a lt = absurd (omega arith)
at-least low (n ∷ ns) zero a lt = (ascending-parts low n ns a).0
at-least low (n ∷ ns) (suc i) a lt =
    let p = ascending-parts low n ns a in
    let least : low ≤ n = p.0 in
    let later : n + 1 ≤ get_or ns i 0 = at-least (n + 1) ns i p.1 (omega arith) in
    omega arith

increases : (low : ℕ) (ns : List ℕ) (i j : ℕ) → ascends_from low ns ≡ true → i < j → j < length ns → get_or ns i 0 < get_or ns j 0
increases low [] i j a lt within = absurd (omega arith)
increases low (n ∷ ns) i zero a lt within = absurd (omega arith)
increases low (n ∷ ns) zero (suc j) a lt within =
    let later : n + 1 ≤ get_or ns j 0 = at-least (n + 1) ns j (ascending-parts low n ns a).1 (omega arith) in
    omega arith
increases low (n ∷ ns) (suc i) (suc j) a lt within = increases (n + 1) ns i j (ascending-parts low n ns a).1 (omega arith) (omega arith)

rises : (low : ℕ) (ns : List ℕ) (i j : ℕ) → ascends_from low ns ≡ true → i ≤ j → j < length ns → get_or ns i 0 ≤ get_or ns j 0
rises low [] i j a le within = absurd (omega arith)
rises low (n ∷ ns) zero zero a le within = omega arith
rises low (n ∷ ns) (suc i) zero a le within = absurd (omega arith)
rises low (n ∷ ns) zero (suc j) a le within =
    let later : n + 1 ≤ get_or ns j 0 = at-least (n + 1) ns j (ascending-parts low n ns a).1 (omega arith) in
    omega arith
rises low (n ∷ ns) (suc i) (suc j) a le within = rises (n + 1) ns i j (ascending-parts low n ns a).1 (omega arith) (omega arith)

-- ---- the place of a number

counted : (n : ℕ) (known : List ℕ) (i : ℕ) → i ≤ length known → ((j : ℕ) → j < i → get_or known j 0 < n) → (i < length known → n ≤ get_or known i 0) → i ≡ count_below n known
counted n [] zero le low high = refl
counted n [] (suc i) le low high = absurd (omega arith)
counted n (k ∷ known) zero le low high = sym (ap (λ b. if b then count_below n known + 1 else 0) (not-less k n (high (omega arith))))
counted n (k ∷ known) (suc i) le low high =
    sym (add-one i)
    ∙ ap (λ c. c + 1) (counted n known i (omega arith) (λ j lt. low (suc j) (omega arith)) (λ lt. high (omega arith)))
    ∙ sym (ap (λ b. if b then count_below n known + 1 else 0) (lt-ltb k n (low 0 (omega arith))))

found-in : (n : ℕ) (known : List ℕ) (i : ℕ) → i < length known → get_or known i 0 ≡ n → is_in n known ≡ true
found-in n [] i lt at = absurd (omega arith)
found-in n (k ∷ known) zero lt at = ap (λ b. b || is_in n known) (eq-eqb k n at)
found-in n (k ∷ known) (suc i) lt at = ap (λ b. (k == n) || b) (found-in n known i (omega arith) at) ∙ or-true (k == n)

not-in : (n : ℕ) (known : List ℕ) → ((i : ℕ) → i < length known → get_or known i 0 ≢ n) → is_in n known ≡ false
not-in n [] other = refl
not-in n (k ∷ known) other =
    ap (λ b. b || is_in n known) (ne_eqb k n (other 0 (omega arith))) ∙ not-in n known (λ i lt. other (suc i) (omega arith))

pub place-found : (low n : ℕ) (known : List ℕ) (r : Result ℕ ℕ) → ascends_from low known ≡ true → IsBinarySearchResult (λ y. nat_cmp y n) known r → r ≡ place_of n known
place-found low n known r a found = by r (searched known n r found (λ i j le lt. rises low known i j a le lt))
  where
    chosen : (b : Bool) → is_in n known ≡ b → (if b then Ok (count_below n known) else Err (count_below n known)) ≡ place_of n known
    chosen b is = sym (ap (λ b. if b then Ok (count_below n known) else Err (count_below n known)) is)

    by : (r : Result ℕ ℕ) →
        MatchResult r (λ i. (i < length known) × (get_or known i 0 ≡ n)) (λ i. (i ≤ length known) × ((k : ℕ) → k < i → get_or known k 0 < n) × ((k : ℕ) → i ≤ k → k < length known → n < get_or known k 0)) →
        r ≡ place_of n known
    by (Ok i) (lt, at) =
        ap Ok (counted n known i (omega arith) (λ j before. subst (λ (m : ℕ). get_or known j 0 < m) at (increases low known j i a before lt)) (λ within. omega (arith, at)))
        ∙ chosen true (found-in n known i lt at)
    by (Err i) (le, before, behind) =
        ap Err (counted n known i le before (λ within. let greater = behind i (omega arith) within in omega arith))
        ∙ chosen false (not-in n known (λ j lt is. other j lt is before behind))
      where
        other : (j : ℕ) → j < length known → get_or known j 0 ≡ n → ((k : ℕ) → k < i → get_or known k 0 < n) → ((k : ℕ) → i ≤ k → k < length known → n < get_or known k 0) → ⊥
        other j lt is before behind = apart (nat_lt j i) refl
          where
            apart : (b : Bool) → nat_lt j i ≡ b → ⊥
            apart true first = let less = before j (ltb-true j i first) in omega (arith, is)
            apart false later = let more = behind j (ltb-false j i later) lt in omega (arith, is)

-- ---- a number is inserted

pub inserted-at : (n : ℕ) (known : List ℕ) → is_in n known ≡ false → insert known (count_below n known) n ≡ with_number n known
inserted-at n [] none = refl
inserted-at n (k ∷ known) none = by (inserted-at n known) (k == n) refl none (nat_lt k n)
  where
    by : (is_in n known ≡ false → insert known (count_below n known) n ≡ with_number n known) → (s : Bool) → (k == n) ≡ s → (s || is_in n known) ≡ false → (b : Bool) →
        insert (k ∷ known) (if b then count_below n known + 1 else 0) n ≡ (if b then k ∷ with_number n known else (if k == n then k ∷ known else n ∷ k ∷ known))
    by others true is none b = absurd cc
    by others false is none true = ap (λ c. insert (k ∷ known) c n) (add-one (count_below n known)) ∙ ap (λ ns. k ∷ ns) (others none)
    by others false is none false = sym (ap (λ s. if s then k ∷ known else n ∷ k ∷ known) is)

pub cut-below : (n : ℕ) (known : List ℕ) → take (count_below n known) known ≡ below n known
cut-below n [] = refl
cut-below n (k ∷ known) = by (cut-below n known) (nat_lt k n)
  where
    by : take (count_below n known) known ≡ below n known → (b : Bool) → take (if b then count_below n known + 1 else 0) (k ∷ known) ≡ (if b then k ∷ below n known else [])
    by others true = ap (λ c. take c (k ∷ known)) (add-one (count_below n known)) ∙ ap (λ ns. k ∷ ns) others
    by others false = refl

pub few-below : (n : ℕ) (known : List ℕ) → count_below n known ≤ length known
few-below n [] = omega arith
few-below n (k ∷ known) = by (few-below n known) (nat_lt k n)
  where
    by : count_below n known ≤ length known → (b : Bool) → (if b then count_below n known + 1 else 0) ≤ length (k ∷ known)
    by few true = omega arith
    by few false = omega arith

-- one that is there isn't inserted
in-low : (low n : ℕ) (known : List ℕ) → ascends_from low known ≡ true → is_in n known ≡ true → low ≤ n
in-low low n [] a is = absurd cc
in-low low n (k ∷ known) a is = by (in-low (k + 1) n known (ascending-parts low k known a).1) (ascending-parts low k known a).0 (k == n) refl is
  where
    by : (is_in n known ≡ true → k + 1 ≤ n) → low ≤ k → (s : Bool) → (k == n) ≡ s → (s || is_in n known) ≡ true → low ≤ n
    by later le true same is = let e = eqb-true k n same in omega arith
    by later le false other is = let more = later is in omega arith

pub with-in : (low n : ℕ) (known : List ℕ) → ascends_from low known ≡ true → is_in n known ≡ true → with_number n known ≡ known
with-in low n [] a is = absurd cc
with-in low n (k ∷ known) a is = by (with-in (k + 1) n known (ascending-parts low k known a).1) (in-low (k + 1) n known (ascending-parts low k known a).1) (nat_lt k n) refl (k == n) refl is
  where
    by : (is_in n known ≡ true → with_number n known ≡ known) → (is_in n known ≡ true → k + 1 ≤ n) → (l : Bool) → nat_lt k n ≡ l → (s : Bool) → (k == n) ≡ s → (s || is_in n known) ≡ true →
        (if l then k ∷ with_number n known else (if s then k ∷ known else n ∷ k ∷ known)) ≡ k ∷ known
    by others later true less true same is = let lt = ltb-true k n less in let e = eqb-true k n same in absurd (omega arith)
    by others later true less false other is = ap (λ ns. k ∷ ns) (others is)
    by others later false least true same is = refl
    by others later false least false other is = let le = ltb-false k n least in let more = later is in absurd (omega arith)

with-less : (n k : ℕ) (known : List ℕ) → k < n → with_number n (k ∷ known) ≡ k ∷ with_number n known
with-less n k known lt = ap (λ b. if b then k ∷ with_number n known else (if k == n then k ∷ known else n ∷ k ∷ known)) (lt-ltb k n lt)

pub with-same : (n : ℕ) (known : List ℕ) → with_number n (n ∷ known) ≡ n ∷ known
with-same n known =
    ap (λ b. if b then n ∷ with_number n known else (if n == n then n ∷ known else n ∷ n ∷ known)) (not-less n n (omega arith))
    ∙ ap (λ b. if b then n ∷ known else n ∷ n ∷ known) (eq-eqb n n refl)

pub with-first : (n : ℕ) (known : List ℕ) → ascends_from (n + 1) known ≡ true → with_number n known ≡ n ∷ known
with-first n [] a = refl
with-first n (k ∷ known) a =
    let more : n + 1 ≤ k = (ascending-parts (n + 1) k known a).0 in
    ap (λ b. if b then k ∷ with_number n known else (if k == n then k ∷ known else n ∷ k ∷ known)) (not-less k n (omega arith))
    ∙ ap (λ b. if b then k ∷ known else n ∷ k ∷ known) (ne_eqb k n (λ e. absurd (omega arith)))

pub with-ascends : (low n : ℕ) (known : List ℕ) → low ≤ n → ascends_from low known ≡ true → ascends_from low (with_number n known) ≡ true
with-ascends low n [] le a = ascending-of low n [] le refl
with-ascends low n (k ∷ known) le a = by (ascending-parts low k known a).0 (ascending-parts low k known a).1 (λ more. with-ascends (k + 1) n known more (ascending-parts low k known a).1) (nat_lt k n) refl (k == n) refl
  where
    by : low ≤ k → ascends_from (k + 1) known ≡ true → (k + 1 ≤ n → ascends_from (k + 1) (with_number n known) ≡ true) → (l : Bool) → nat_lt k n ≡ l → (s : Bool) → (k == n) ≡ s →
        ascends_from low (if l then k ∷ with_number n known else (if s then k ∷ known else n ∷ k ∷ known)) ≡ true
    by first rest others true less s is = let lt = ltb-true k n less in ascending-of low k (with_number n known) first (others (omega arith))
    by first rest others false least true is = a
    by first rest others false least false is =
        let ge = ltb-false k n least in
        let more : n + 1 ≤ k = grind (arith, nat_tests, is, ge) in
        ascending-of low n (k ∷ known) le (ascending-of (n + 1) k known more rest)

-- ---- numbers are inserted one after the other

pub all-ascend : (low : ℕ) (ns known : List ℕ) → ascends_from low ns ≡ true → ascends_from low known ≡ true → ascends_from low (with_numbers ns known) ≡ true
all-ascend low [] known more a = a
all-ascend low (n ∷ ns) known more a =
    let p = ascending-parts low n ns more in
    let least : low ≤ n = p.0 in
    all-ascend low ns (with_number n known) (weaker low (n + 1) ns (omega arith) p.1) (with-ascends low n known p.0 a)

-- what precedes all of them stays first
pub in-front : (n : ℕ) (ns known : List ℕ) → ascends_from (n + 1) ns ≡ true → with_numbers ns (n ∷ known) ≡ n ∷ with_numbers ns known
in-front n [] known a = refl
in-front n (m ∷ ns) known a =
    let p = ascending-parts (n + 1) m ns a in
    let more : n + 1 ≤ m = p.0 in
    ap (with_numbers ns) (with-less m n known (omega arith)) ∙ in-front n ns (with_number m known) (weaker (n + 1) (m + 1) ns (omega arith) p.1)

-- ---- those that are missing

pub none-missing : (low : ℕ) (ns known : List ℕ) → ascends_from low known ≡ true → missing_in known ns ≡ 0 → with_numbers ns known ≡ known
none-missing low [] known a none = refl
none-missing low (n ∷ ns) known a none = by (none-missing low ns known a) (is_in n known) refl none
  where
    by : (missing_in known ns ≡ 0 → with_numbers ns known ≡ known) → (b : Bool) → is_in n known ≡ b → (if b then missing_in known ns else missing_in known ns + 1) ≡ 0 →
        with_numbers ns (with_number n known) ≡ known
    by others true is none = ap (with_numbers ns) (with-in low n known a is) ∙ others none
    by others false is none = absurd (omega arith)

in-other : (m n : ℕ) (known : List ℕ) → n < m → is_in m (with_number n known) ≡ is_in m known
in-other m n [] lt = ap (λ b. b || false) (ne_eqb n m (λ e. absurd (omega arith)))
in-other m n (k ∷ known) lt = by (in-other m n known lt) (nat_lt k n) (k == n)
  where
    by : is_in m (with_number n known) ≡ is_in m known → (l s : Bool) → is_in m (if l then k ∷ with_number n known else (if s then k ∷ known else n ∷ k ∷ known)) ≡ ((k == m) || is_in m known)
    by others true s = ap (λ b. (k == m) || b) others
    by others false true = refl
    by others false false = ap (λ b. b || ((k == m) || is_in m known)) (ne_eqb n m (λ e. absurd (omega arith)))

pub missing-later : (n : ℕ) (ns known : List ℕ) → ascends_from (n + 1) ns ≡ true → missing_in (with_number n known) ns ≡ missing_in known ns
missing-later n [] known a = refl
missing-later n (m ∷ ns) known a =
    let p = ascending-parts (n + 1) m ns a in
    let more : n + 1 ≤ m = p.0 in
    ap₂ (λ b c. if b then c else c + 1) (in-other m n known (omega arith)) (missing-later n ns known (weaker (n + 1) (m + 1) ns (omega arith) p.1))

-- ---- what a search says

module _ (n : ℕ) (known : List ℕ) (p : ℕ) where
  pub absent : place_of n known ≡ Err p → (is_in n known ≡ false) × (p ≡ count_below n known)
  absent is = by (is_in n known) refl is
    where
      by : (b : Bool) → is_in n known ≡ b → (if b then Ok (count_below n known) else Err (count_below n known)) ≡ Err p → (is_in n known ≡ false) × (p ≡ count_below n known)
      by true at is = absurd cc
      by false at is = (at, cc)

  pub present : place_of n known ≡ Ok p → (is_in n known ≡ true) × (p ≡ count_below n known)
  present is = by (is_in n known) refl is
    where
      by : (b : Bool) → is_in n known ≡ b → (if b then Ok (count_below n known) else Err (count_below n known)) ≡ Ok p → (is_in n known ≡ true) × (p ≡ count_below n known)
      by true at is = (at, cc)
      by false at is = absurd cc

pub is-absent : (n : ℕ) (known : List ℕ) → is_err (place_of n known) ≡ not (is_in n known)
is-absent n known = by (is_in n known)
  where
    by : (b : Bool) → is_err (if b then Ok (count_below n known) else Err (count_below n known)) ≡ not b
    by true = refl
    by false = refl

pub absent-if : (n : ℕ) (known : List ℕ) → is_err (place_of n known) ≡ true → is_in n known ≡ false
absent-if n known is = by (is_in n known) (sym (is-absent n known) ∙ is)
  where
    by : (b : Bool) → not b ≡ true → b ≡ false
    by true e = absurd cc
    by false e = refl

pub present-if : (n : ℕ) (known : List ℕ) → is_err (place_of n known) ≡ false → is_in n known ≡ true
present-if n known is = by (is_in n known) (sym (is-absent n known) ∙ is)
  where
    by : (b : Bool) → not b ≡ false → b ≡ true
    by true e = refl
    by false e = absurd cc

-- ---- one number after the other

module _ (low : ℕ) (known ns rest : List ℕ) (n : ℕ) (is : ns ≡ n ∷ rest) (a : ascends_from low ns ≡ true) where
  parts : (low ≤ n) × (ascends_from (n + 1) rest ≡ true)
  parts = ascending-parts low n rest (subst (λ (xs : List ℕ). ascends_from low xs ≡ true) is a)

  pub is-least : low ≤ n
  is-least = parts.0

  pub rest-ascends : ascends_from (low + 1) rest ≡ true
  rest-ascends = let least : low ≤ n = parts.0 in weaker (low + 1) (n + 1) rest (omega arith) parts.1

  -- how many are missing
  missing-of : (b : Bool) → is_in n known ≡ b → missing_in known ns ≡ (if b then missing_in known rest else missing_in known rest + 1)
  missing-of b at = ap (missing_in known) is ∙ ap (λ c. if c then missing_in known rest else missing_in known rest + 1) at

  pub count-absent : (count total : ℕ) → is_in n known ≡ false → count + missing_in known ns ≡ total → count + 1 + missing_in known rest ≡ total
  count-absent count total at before = let step : missing_in known ns ≡ missing_in known rest + 1 = missing-of false at in omega arith

  pub count-present : (count total : ℕ) → is_in n known ≡ true → count + missing_in known ns ≡ total → count + missing_in known rest ≡ total
  count-present count total at before = ap (λ m. count + m) (sym (missing-of true at)) ∙ before

  pub room-left : (len cap : ℕ) → len + missing_in known ns ≤ cap → (if is_in n known then len else len + 1) + missing_in (with_number n known) rest ≤ cap
  room-left len cap room = by (is_in n known) refl
    where
      by : (b : Bool) → is_in n known ≡ b → (if b then len else len + 1) + missing_in (with_number n known) rest ≤ cap
      by true at =
          let same : missing_in (with_number n known) rest ≡ missing_in known rest = missing-later n rest known parts.1 in
          let step : missing_in known ns ≡ missing_in known rest = missing-of true at in
          omega arith
      by false at =
          let same : missing_in (with_number n known) rest ≡ missing_in known rest = missing-later n rest known parts.1 in
          let step : missing_in known ns ≡ missing_in known rest + 1 = missing-of false at in
          omega arith

  pub one-more : (whole : List ℕ) → with_numbers ns known ≡ whole → with_numbers rest (with_number n known) ≡ whole
  one-more whole before = ap (λ xs. with_numbers xs known) (sym is) ∙ before
