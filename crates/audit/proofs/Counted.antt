-- Rows of numbers that are counted up.
use Rattle.std.proofs.Common.{◌≡◌, ◌≤◌, ◌+◌, ◌==◌, nat_lt, ℕ, true, false, cond, List, refl, ap, sym, ◌∙◌, arith, get_or}
use Rattle.std.proofs.Math.ListN.{set}
use Rattle.std.proofs.lemmas.Bool.Decides.{nat_tests}
use Rattle.std.proofs.lemmas.Grind.{get_or-set_at}
use Rattle.std.proofs.lemmas.List.{get_or-set_other, length-set}
use Rattle.audit.specs.Tallies.{Counts}

pub counts-same : (len : ℕ) (f g : ℕ → ℕ) (xs : List ℕ) → ((i : ℕ) → f i ≡ g i) → Counts len f xs → Counts len g xs
counts-same len f g xs same counts = record { len_is = counts.len_is; at = λ i lt. counts.at i lt ∙ same i }

pub equal_places : (a b : ℕ) → (a == b) ≡ true → b ≡ a
equal_places a b e = grind (arith, nat_tests, e)

pub other_places : (a b : ℕ) → (a == b) ≡ false → b ≡ a → ⊥
other_places a b e same = grind (arith, nat_tests, e, same)

-- one number was added to
pub counts-set : (len : ℕ) (f : ℕ → ℕ) (xs : List ℕ) (place more : ℕ) → Counts len f xs → Counts len (λ i. f i + cond (place == i) more 0) (set xs place (get_or xs place 0 + more))
counts-set len f xs place more counts = record {
  len_is = length-set xs place _ ∙ counts.len_is;
  at = λ i lt. elim (place == i) as (λ b. (place == i) ≡ b → get_or (set xs place (get_or xs place 0 + more)) i 0 ≡ f i + cond b more 0) [
    | true ↦ λ e.
        let same : i ≡ place = equal_places place i e in
        get_or-set_at xs place i _ 0 same (omega (arith, lt, same, counts.len_is)) ∙ ap (λ k. get_or xs k 0 + more) (sym same) ∙ ap (λ n. n + more) (counts.at i lt)
    | false ↦ λ e. get_or-set_other xs place i _ 0 (other_places place i e) ∙ counts.at i lt ∙ omega arith
  ] refl;
}

-- the numbers of another row were added up to a place
abbrev pub added_to : ℕ → (ℕ → ℕ) → List ℕ → ℕ → ℕ
added_to place f other i = f i + cond (nat_lt i place) (get_or other i 0) 0

pub added-start : (len : ℕ) (f : ℕ → ℕ) (other xs : List ℕ) → Counts len f xs → Counts len (added_to 0 f other) xs
added-start len f other xs counts = counts-same len f (added_to 0 f other) xs (λ i. grind (arith, nat_tests)) counts

added_next : (f : ℕ → ℕ) (other : List ℕ) (place i : ℕ) → added_to place f other i + cond (place == i) (get_or other place 0) 0 ≡ added_to (place + 1) f other i
added_next f other place i = elim (place == i) as (λ b. (place == i) ≡ b → added_to place f other i + cond b (get_or other place 0) 0 ≡ added_to (place + 1) f other i) [
  | true ↦ λ e.
      let same : i ≡ place = equal_places place i e in
      let given : get_or other place 0 ≡ get_or other i 0 = ap (λ k. get_or other k 0) (sym same) in
      let before : nat_lt i place ≡ false = grind (arith, nat_tests, same) in
      let behind : nat_lt i (place + 1) ≡ true = grind (arith, nat_tests, same) in
      ap (λ b. f i + cond b (get_or other i 0) 0 + get_or other place 0) before ∙ ap (λ n. f i + 0 + n) given ∙ omega arith
      ∙ ap (λ b. f i + cond b (get_or other i 0) 0) (sym behind)
  | false ↦ λ e.
      let tested : nat_lt i place ≡ nat_lt i (place + 1) = grind (arith, nat_tests, e) in
      omega arith ∙ ap (λ b. f i + cond b (get_or other i 0) 0) tested
] refl

pub added-step : (len : ℕ) (f : ℕ → ℕ) (other xs : List ℕ) (place : ℕ) → Counts len (added_to place f other) xs →
    Counts len (added_to (place + 1) f other) (set xs place (get_or xs place 0 + get_or other place 0))
added-step len f other xs place counts =
    counts-same len _ (added_to (place + 1) f other) _ (added_next f other place) (counts-set len (added_to place f other) xs place (get_or other place 0) counts)

pub added-all : (len n : ℕ) (f g : ℕ → ℕ) (other xs : List ℕ) → len ≤ n → Counts len (added_to n f other) xs → Counts len g other → Counts len (λ i. f i + g i) xs
added-all len n f g other xs all counts others = record {
  len_is = counts.len_is;
  at = λ i lt.
      let behind : nat_lt i n ≡ true = grind (arith, nat_tests, lt, all) in
      counts.at i lt ∙ ap (λ b. f i + cond b (get_or other i 0) 0) behind ∙ ap (λ k. f i + k) (others.at i lt);
}
