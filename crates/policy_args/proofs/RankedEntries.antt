-- What the index of a policy's entries finds, by their patterns with ranks.
use Rattle.std.proofs.Common.{◌≡◌, ℕ, ◌+◌, ◌-◌, ◌≤◌, max, Bool, true, false, ◌&&◌, ◌||◌, List, [], ◌∷◌, ◌++◌, length, drop, slice_get, if◌then◌else◌, refl, ap, ap₂, sym, ◌∙◌, subst, arith, length-drop}
use Rattle.std.specs.List.{list_any}
use Rattle.std.specs.Prelude.{IfSome, IsPermutation}
use Rattle.std.specs.Str.{bytes_eq}
use Rattle.std.proofs.lemmas.Cmp.{nat_list_eq_equiv}
use Rattle.std.proofs.lemmas.List.{drop-map, length-map, map-append}
use Rattle.name_patterns.specs.declared.index.PatternIndex.{PatternIndex}
use Rattle.name_patterns.specs.PatternIndex.{Indexes}
use Rattle.name_patterns.specs.Patterns.{covers}
use Rattle.name_patterns.specs.Ranks.{AreCovering as AreCoveringPlaces, Ranked, covers_name, greatest_rank, is_exact_for, next_place, places_where}
use Rattle.policy_args.specs.Covering.{AreCovering, next_covering}
use Rattle.policy_args.specs.EntryRanks.{as_ranked, level_of_rank, rank_of, ranked}
use Rattle.policy_args.specs.Levels.{numbers_where}
use Rattle.policy_args.specs.Policy.{given_by, granted, greater}
use Rattle.policy_args.specs.declared.Level.{Level}
use Rattle.policy_args.specs.declared.Level.TheVariants.{None as NoLevel, See, Talk, Own}
use Rattle.policy_args.specs.declared.entry.Entry.{Entry}

-- ---- levels

level-again : (a : Level) → level_of_rank (rank_of a) ≡ a
level-again NoLevel = refl
level-again See = refl
level-again Talk = refl
level-again Own = refl

-- the greater level has the greater rank
greater-rank : (a b : Level) → max (rank_of a) (rank_of b) ≡ rank_of (greater a b)
greater-rank NoLevel NoLevel = refl
greater-rank NoLevel See = refl
greater-rank NoLevel Talk = refl
greater-rank NoLevel Own = refl
greater-rank See NoLevel = refl
greater-rank See See = refl
greater-rank See Talk = refl
greater-rank See Own = refl
greater-rank Talk NoLevel = refl
greater-rank Talk See = refl
greater-rank Talk Talk = refl
greater-rank Talk Own = refl
greater-rank Own NoLevel = refl
greater-rank Own See = refl
greater-rank Own Talk = refl
greater-rank Own Own = refl

-- the greatest rank is that of the greatest level
granted-rank : (es : List Entry) (name : List ℕ) → greatest_rank (ranked es) name ≡ rank_of (granted es name)
granted-rank [] name = refl
granted-rank (e ∷ es) name = by (covers e.pattern name) (granted-rank es name)
  where
    by : (b : Bool) → greatest_rank (ranked es) name ≡ rank_of (granted es name) →
        (if b then max (rank_of (given_by e.grant)) (greatest_rank (ranked es) name) else greatest_rank (ranked es) name)
        ≡ rank_of (if b then greater (given_by e.grant) (granted es name) else granted es name)
    by true is = ap (max (rank_of (given_by e.grant))) is ∙ greater-rank (given_by e.grant) (granted es name)
    by false is = is

pub granted-found : (es : List Entry) (name : List ℕ) (rank : ℕ) → rank ≡ greatest_rank (ranked es) name → level_of_rank rank ≡ granted es name
granted-found es name rank is = ap level_of_rank (is ∙ granted-rank es name) ∙ level-again (granted es name)

-- ---- numbers

-- the places in the index are the numbers of the entries
places-ranked : (test : Ranked → Bool) (n : ℕ) (es : List Entry) → places_where test n (ranked es) ≡ numbers_where (λ e. test (as_ranked e)) n es
places-ranked test n [] = refl
places-ranked test n (e ∷ es) = ap (λ ks. if test (as_ranked e) then n ∷ ks else ks) (places-ranked test (n + 1) es)

pub covering-ranked : (es : List Entry) (name numbers : List ℕ) → AreCoveringPlaces (ranked es) name numbers → AreCovering es name numbers
covering-ranked es name numbers are = subst (λ (ks : List ℕ). IsPermutation ks numbers) (places-ranked (covers_name name) 1 es) are

pub next-ranked : (es : List Entry) (name : List ℕ) (from : ℕ) → next_place (covers_name name) from (ranked es) ≡ next_covering es name from
next-ranked es name from =
    ap (λ rs. slice_get (places_where (covers_name name) from rs) 0) (drop-map as_ranked (from - 1) es)
    ∙ ap (λ ks. slice_get ks 0) (places-ranked (covers_name name) from (drop (from - 1) es))

-- the first number is that of an entry
first-within : (test : Entry → Bool) (n most : ℕ) (es : List Entry) → n + length es ≤ most + 1 → IfSome (slice_get (numbers_where test n es) 0) (λ k. k ≤ most)
first-within test n most [] high = tt
first-within test n most (e ∷ es) high = by (test e) (first-within test (n + 1) most es (omega (arith, high)))
  where
    by : (b : Bool) → IfSome (slice_get (numbers_where test (n + 1) es) 0) (λ k. k ≤ most) →
        IfSome (slice_get (if b then n ∷ numbers_where test (n + 1) es else numbers_where test (n + 1) es) 0) (λ k. k ≤ most)
    by true later = omega (arith, high)
    by false later = later

pub next-within : (es : List Entry) (name : List ℕ) (from most : ℕ) → 1 ≤ from → length es ≤ most → IfSome (next_covering es name from) (λ k. k ≤ most)
next-within es name from most low few = by (drop (from - 1) es) (length-drop (from - 1) es)
  where
    by : (left : List Entry) → length left ≡ length es - (from - 1) → IfSome (slice_get (numbers_where (λ e. covers e.pattern name) from left) 0) (λ k. k ≤ most)
    by [] is = tt
    by (e ∷ left) is = first-within (λ x. covers x.pattern name) from most (e ∷ left) (omega (arith, is, low, few))

-- ---- names

pub named-ranked : (es : List Entry) (name : List ℕ) → list_any (is_exact_for name) (ranked es) ≡ list_any (λ e. e.pattern.exact && bytes_eq e.pattern.name name) es
named-ranked [] name = refl
named-ranked (e ∷ es) name = ap₂ (λ a b. (e.pattern.exact && a) || b) (nat_list_eq_equiv.symm name e.pattern.name) (named-ranked es name)

-- ---- one more entry

pub ranked-added : (es : List Entry) (e : Entry) (rank place : ℕ) (old new : PatternIndex) →
    ((added : List Ranked) → Indexes added old → place ≡ length added + 1 → Indexes (added ++ (e.pattern, rank) ∷ []) new) →
    Indexes (ranked es) old → place ≡ length es + 1 → rank ≡ rank_of (given_by e.grant) → Indexes (ranked (es ++ e ∷ [])) new
ranked-added es e rank place old new adds is next same =
    subst (λ (rs : List Ranked). Indexes rs new) (ap (λ (r : ℕ). ranked es ++ (e.pattern, r) ∷ []) same ∙ sym (map-append as_ranked es (e ∷ [])))
    (adds (ranked es) is (next ∙ ap (λ n. n + 1) (sym (length-map es as_ranked))))
