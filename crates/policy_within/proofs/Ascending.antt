-- Ascending numbers with one more.
use Rattle.std.proofs.Common.{◌≡◌, ℕ, zero, suc, ◌+◌, ◌<◌, ◌≤◌, Bool, true, false, cond, List, [], ◌∷◌, ◌++◌, length, Some, refl, ap, ap₂, sym, ◌∙◌, nat_eq, arith}
use Rattle.std.specs.Prelude.{◌||◌, filter, if◌then◌else◌}
use Rattle.std.specs.List.{list_any, range_with_len}
use Rattle.std.proofs.lemmas.Bool.{eq-eqb, eqb-false, eqb-true, le-ltb, lt-ltb, ne_eqb}
use Rattle.std.proofs.lemmas.List.Folds.{list_any-append}
use Rattle.policy_args.specs.declared.entry.Entry.{Entry}
use Rattle.policy_args.specs.declared.requests.Asked.{Asked}
use Rattle.policy_within.specs.Steps.{with_number}
use Rattle.policy_within.specs.Within.{is_number, lowest, lowest_of}

-- ---- the place of a number

pub number-first : (n k : ℕ) (numbers : List ℕ) → n < k → with_number n (k ∷ numbers) ≡ n ∷ k ∷ numbers
number-first n k numbers lt = ap (λ b. if b then n ∷ k ∷ numbers else (if nat_eq n k then k ∷ numbers else k ∷ with_number n numbers)) (lt-ltb n k lt)

pub number-there : (n k : ℕ) (numbers : List ℕ) → k ≡ n → with_number n (k ∷ numbers) ≡ k ∷ numbers
number-there n k numbers e =
    ap (λ b. if b then n ∷ k ∷ numbers else (if nat_eq n k then k ∷ numbers else k ∷ with_number n numbers)) (le-ltb n k (omega (arith, e)))
    ∙ ap (λ b. if b then k ∷ numbers else k ∷ with_number n numbers) (eq-eqb n k (sym e))

pub number-later : (n k : ℕ) (numbers : List ℕ) → k < n → with_number n (k ∷ numbers) ≡ k ∷ with_number n numbers
number-later n k numbers lt =
    ap (λ b. if b then n ∷ k ∷ numbers else (if nat_eq n k then k ∷ numbers else k ∷ with_number n numbers)) (le-ltb n k (omega (arith, lt)))
    ∙ ap (λ b. if b then k ∷ numbers else k ∷ with_number n numbers) (ne_eqb n k (λ e. omega (arith, e, lt)))

-- ---- numbers that pass one test more

above-all : (p : ℕ → Bool) (n from len : ℕ) → n < from → with_number n (filter p (range_with_len from len)) ≡ n ∷ filter p (range_with_len from len)
above-all p n from zero lt = refl
above-all p n from (suc len) lt = by (p from) (above-all p n (from + 1) len (omega (arith, lt)))
  where
    by : (b : Bool) → with_number n (filter p (range_with_len (from + 1) len)) ≡ n ∷ filter p (range_with_len (from + 1) len) →
        with_number n (cond b (from ∷ filter p (range_with_len (from + 1) len)) (filter p (range_with_len (from + 1) len))) ≡ n ∷ cond b (from ∷ filter p (range_with_len (from + 1) len)) (filter p (range_with_len (from + 1) len))
    by true ih = number-first n from (filter p (range_with_len (from + 1) len)) lt
    by false ih = ih

same-above : (p : ℕ → Bool) (n from len : ℕ) → n < from → filter (λ k. p k || nat_eq k n) (range_with_len from len) ≡ filter p (range_with_len from len)
same-above p n from zero lt = refl
same-above p n from (suc len) lt =
    ap₂ (λ b t. cond b (from ∷ t) t) (or_false (p from) ∙ refl) (same-above p n (from + 1) len (omega (arith, lt)))
  where
    or_false : (b : Bool) → (b || nat_eq from n) ≡ b
    or_false true = refl
    or_false false = ne_eqb from n (λ e. omega (arith, e, lt))

pub filter-one-more : (p : ℕ → Bool) (n from len : ℕ) → from ≤ n → n < from + len → filter (λ k. p k || nat_eq k n) (range_with_len from len) ≡ with_number n (filter p (range_with_len from len))
filter-one-more p n from zero low high = absurd (omega arith)
filter-one-more p n from (suc len) low high = go (nat_eq from n) refl (λ m. filter-one-more p n (from + 1) len m (omega arith))
  where
    rest : List ℕ
    rest = filter p (range_with_len (from + 1) len)

    more : List ℕ
    more = filter (λ k. p k || nat_eq k n) (range_with_len (from + 1) len)

    here : from ≡ n → (b : Bool) → with_number n (cond b (from ∷ rest) rest) ≡ from ∷ rest
    here e true = number-there n from rest e
    here e false = above-all p n (from + 1) len (omega (arith, e)) ∙ ap (λ k. k ∷ rest) (sym e)

    later : from < n → (b : Bool) → more ≡ with_number n rest → cond b (from ∷ more) more ≡ with_number n (cond b (from ∷ rest) rest)
    later lt true ih = ap (λ t. from ∷ t) ih ∙ sym (number-later n from rest lt)
    later lt false ih = ih

    or_true : (b : Bool) → (b || true) ≡ true
    or_true true = refl
    or_true false = refl

    or_false : (b : Bool) → (b || false) ≡ b
    or_false true = refl
    or_false false = refl

    go : (same : Bool) → nat_eq from n ≡ same → (from + 1 ≤ n → more ≡ with_number n rest) → cond (p from || nat_eq from n) (from ∷ more) more ≡ with_number n (cond (p from) (from ∷ rest) rest)
    go true e next =
        let is : from ≡ n = eqb-true from n e in
        ap (λ b. cond (p from || b) (from ∷ more) more) e ∙ ap (λ b. cond b (from ∷ more) more) (or_true (p from))
        ∙ ap (λ t. from ∷ t) (same-above p n (from + 1) len (omega (arith, is))) ∙ sym (here is (p from))
    go false e next =
        let other = eqb-false from n e in
        ap (λ b. cond (p from || b) (from ∷ more) more) e ∙ ap (λ b. cond b (from ∷ more) more) (or_false (p from))
        ∙ later (omega (arith, other)) (p from) (next (omega (arith, other)))

filter-same : (p q : ℕ → Bool) (xs : List ℕ) → ((n : ℕ) → p n ≡ q n) → filter p xs ≡ filter q xs
filter-same p q [] same = refl
filter-same p q (x ∷ xs) same = ap₂ (λ b t. cond b (x ∷ t) t) (same x) (filter-same p q xs same)

-- ---- one request more

pub lowest-more : (entries : List Entry) (requests : List Asked) (asked : Asked) (n : ℕ) → lowest entries asked ≡ Some n → 1 ≤ n → n < 1 + length entries →
    lowest_of entries (requests ++ asked ∷ []) ≡ with_number n (lowest_of entries requests)
lowest-more entries requests asked n is low high =
    filter-same (λ k. list_any (test k) (requests ++ asked ∷ [])) (λ k. list_any (test k) requests || nat_eq k n) (range_with_len 1 (length entries)) same
    ∙ filter-one-more (λ k. list_any (test k) requests) n 1 (length entries) low high
  where
    test : ℕ → Asked → Bool
    test k other = is_number k (lowest entries other)

    or_false : (b : Bool) → (b || false) ≡ b
    or_false true = refl
    or_false false = refl

    same : (k : ℕ) → list_any (test k) (requests ++ asked ∷ []) ≡ (list_any (test k) requests || nat_eq k n)
    same k = list_any-append (test k) requests (asked ∷ []) ∙ ap (λ b. list_any (test k) requests || b) (or_false (test k asked) ∙ ap (is_number k) is)
