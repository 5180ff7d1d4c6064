-- The numbers of entries that pass a test, and lists of them that are ascending.
use Rattle.std.proofs.Common.{◌≡◌, ℕ, zero, suc, ◌+◌, ◌<◌, ◌≤◌, Bool, true, false, cond, List, [], ◌∷◌, length, Some, refl, ap, sym, ◌∙◌, nat_eq, slice_get, arith, inl, inr}
use Rattle.std.specs.Prelude.{◌||◌, filter, option_to_list}
use Rattle.std.specs.List.{list_all, list_any, range_with_len}
use Rattle.std.proofs.lemmas.Bool.{and_parts, eqb-false, eqb-true, or_cases, or_left, or_parts, or_right}
use Rattle.std.proofs.lemmas.List.Folds.{list_any-append}
use Rattle.byte_lists.proofs.Options.{some}
use Rattle.policy_args.specs.Levels.{numbers_where}
use Rattle.policy_args.specs.Policy.{entry_at}
use Rattle.policy_args.specs.declared.entry.Entry.{Entry}
use Rattle.policy_within.specs.Within.{entries_at}

-- ---- the first entry that passes

-- its place, and the first number
pub record IsFirst (test : Entry → Bool) (from : ℕ) (entries : List Entry) : Type 0 where
  pub place : ℕ
  pub entry : Entry
  pub here : slice_get entries place ≡ Some entry
  pub within : place < length entries
  pub passes : test entry ≡ true
  pub first : slice_get (numbers_where test from entries) 0 ≡ Some (from + place)

pub first-passes : (test : Entry → Bool) (from : ℕ) (entries : List Entry) → list_any test entries ≡ true → IsFirst test from entries
first-passes test from [] h = absurd cc
first-passes test from (e ∷ es) h = by (first-passes test (from + 1) es) (test e) refl h
  where
    by : (list_any test es ≡ true → IsFirst test (from + 1) es) → (b : Bool) → test e ≡ b → (b || list_any test es) ≡ true → IsFirst test from (e ∷ es)
    by next true t h = record {
      place = 0;
      entry = e;
      here = refl;
      within = omega arith;
      passes = t;
      first = ap (λ b. slice_get (cond b (from ∷ numbers_where test (from + 1) es) (numbers_where test (from + 1) es)) 0) t ∙ ap some (omega arith);
    }
    by next false t h = let later = next h in record {
      place = suc later.place;
      entry = later.entry;
      here = later.here;
      within = omega (arith, later.within);
      passes = later.passes;
      first = ap (λ b. slice_get (cond b (from ∷ numbers_where test (from + 1) es) (numbers_where test (from + 1) es)) 0) t ∙ later.first ∙ ap some (omega arith);
    }

pub none-pass : (test : Entry → Bool) (from : ℕ) (entries : List Entry) → list_any test entries ≡ false → numbers_where test from entries ≡ []
none-pass test from [] h = refl
none-pass test from (e ∷ es) h =
    let both = or_parts (test e) (list_any test es) h in
    ap (λ b. cond b (from ∷ numbers_where test (from + 1) es) (numbers_where test (from + 1) es)) both.0 ∙ none-pass test (from + 1) es both.1

-- ---- numbers in a list

abbrev pub has : List ℕ → ℕ → Bool
has numbers n = list_any (nat_eq n) numbers

pub in-range : (n from len : ℕ) → from ≤ n → n < from + len → has (range_with_len from len) n ≡ true
in-range n from zero l h = absurd (omega arith)
in-range n from (suc len) l h = by (λ m. in-range n (from + 1) len m (omega arith)) (nat_eq n from) refl
  where
    by : (from + 1 ≤ n → has (range_with_len (from + 1) len) n ≡ true) → (b : Bool) → nat_eq n from ≡ b → (b || has (range_with_len (from + 1) len) n) ≡ true
    by next true e = refl
    by next false e = let other = eqb-false n from e in next (omega (arith, other))

pub in-filter : (test : ℕ → Bool) (numbers : List ℕ) (n : ℕ) → has numbers n ≡ true → test n ≡ true → has (filter test numbers) n ≡ true
in-filter test [] n h t = absurd cc
in-filter test (k ∷ numbers) n h t = elim (or_cases (nat_eq n k) (has numbers n) h) [
  | inl e ↦
      ap (λ b. has (cond b (k ∷ filter test numbers) (filter test numbers)) n) (ap test (sym (eqb-true n k e)) ∙ t)
      ∙ or_left (nat_eq n k) (has (filter test numbers) n) e
  | inr more ↦ by (test k) (in-filter test numbers n more t)
]
  where
    by : (b : Bool) → has (filter test numbers) n ≡ true → has (cond b (k ∷ filter test numbers) (filter test numbers)) n ≡ true
    by true h = or_right (nat_eq n k) (has (filter test numbers) n) h
    by false h = h

-- an entry of one of the numbers that passes a test
pub any-of-numbers : (test : Entry → Bool) (entries : List Entry) (numbers : List ℕ) (n : ℕ) (e : Entry) → has numbers n ≡ true → entry_at entries n ≡ Some e → test e ≡ true →
    list_any test (entries_at entries numbers) ≡ true
any-of-numbers test entries [] n e h here t = absurd cc
any-of-numbers test entries (k ∷ numbers) n e h here t =
    list_any-append test (option_to_list (entry_at entries k)) (entries_at entries numbers)
    ∙ elim (or_cases (nat_eq n k) (has numbers n) h) [
      | inl same ↦ or_left _ _ (ap (λ o. list_any test (option_to_list o)) (ap (entry_at entries) (sym (eqb-true n k same)) ∙ here) ∙ or_left (test e) false t)
      | inr more ↦ or_right (list_any test (option_to_list (entry_at entries k))) _ (any-of-numbers test entries numbers n e more here t)
    ]

-- what all pass, the one at a place passes
pub all-at : {X : Type 0} (test : X → Bool) (xs : List X) (k : ℕ) (x : X) → list_all test xs ≡ true → slice_get xs k ≡ Some x → test x ≡ true
all-at test [] k x h here = absurd cc
all-at test (y ∷ ys) zero x h here = let same : y ≡ x = cc in ap test (sym same) ∙ (and_parts (test y) (list_all test ys) h).0
all-at test (y ∷ ys) (suc k) x h here = all-at test ys k x (and_parts (test y) (list_all test ys) h).1 here
