-- Known numbers and those of the entries that cover a name, in one pass.
use Rattle.std.proofs.Common.{◌≡◌, ℕ, ◌+◌, ◌-◌, ◌≤◌, ◌<◌, nat_lt, Bool, true, false, ◌||◌, List, [], ◌∷◌, Option, Some, None, length, length-drop, take, drop, slice_get, if◌then◌else◌, refl, ap, ap₂, sym, subst, ◌∙◌, arith}
use Rattle.std.specs.Prelude.{◌==◌, ◌&&◌, nat_le, MatchOption}
use Rattle.std.specs.List.{list_all}
use Rattle.std.proofs.Math.Bool.{or_comm}
use Rattle.std.proofs.Math.Nat.{add-sub_cancel}
use Rattle.std.proofs.lemmas.List.{drop-drop}
use Rattle.std.proofs.lemmas.Bool.{and_from, eq-eqb, eqb-true, le-leb, leb-true, lt-ltb, ne_eqb}
use Rattle.std.proofs.lemmas.Bool.Decides.{nat_tests}
use Rattle.dbus_names.specs.Texts.{Text}
use Rattle.name_patterns.specs.Patterns.{covers}
use Rattle.policy_args.specs.Covering.{next_covering}
use Rattle.policy_args.specs.Levels.{numbers_where}
use Rattle.policy_args.specs.declared.entry.Entry.{Entry}
use Rattle.unique_names.specs.Inserted.{ascends_from, below, count_below, with_number, with_numbers}
use Rattle.unique_names.specs.Merged.{first_known, is_next, lesser_of, merged_from, passed}
use Rattle.unique_names.specs.Taught.{AreNumbers}
use Rattle.unique_names.proofs.Ascending.{all-ascend, ascending-of, ascending-parts, cut-below, in-front, weaker, with-first, with-same}

-- ---- tests on entries

-- two tests have the same result for each entry
abbrev pub Agree : (Entry → Bool) → (Entry → Bool) → List Entry → Type 0
Agree p q [] = Unit {0}
Agree p q (e ∷ es) = (p e ≡ q e) × Agree p q es

pub same-numbers : (p q : Entry → Bool) (n : ℕ) (es : List Entry) → Agree p q es → numbers_where p n es ≡ numbers_where q n es
same-numbers p q n [] same = refl
same-numbers p q n (e ∷ es) same =
    ap (λ b. if b then n ∷ numbers_where p (n + 1) es else numbers_where p (n + 1) es) same.0
    ∙ ap (λ ns. if q e then n ∷ ns else ns) (same-numbers p q (n + 1) es same.1)

pub always-agree : (p q : Entry → Bool) → ((e : Entry) → p e ≡ q e) → (es : List Entry) → Agree p q es
always-agree p q same [] = tt
always-agree p q same (e ∷ es) = (same e, always-agree p q same es)

-- ---- one pass

later : (test : Entry → Bool) (n m : ℕ) (es : List Entry) → n < m → is_next n (numbers_where test m es) ≡ false
later test n m [] lt = refl
later test n m (e ∷ es) lt = by (later test n (m + 1) es (omega arith)) (test e)
  where
    by : is_next n (numbers_where test (m + 1) es) ≡ false → (b : Bool) → is_next n (if b then m ∷ numbers_where test (m + 1) es else numbers_where test (m + 1) es) ≡ false
    by others true = ne_eqb m n (λ same. absurd (omega arith))
    by others false = others

-- the numbers of the entries that cover the name or pass the test, if those that pass it are known
pub merged-numbers : (name : Text) (test : Entry → Bool) (n : ℕ) (es : List Entry) →
    merged_from name n es (numbers_where test n es) ≡ numbers_where (λ e. covers e.pattern name || test e) n es
merged-numbers name test n [] = refl
merged-numbers name test n (e ∷ es) = by (merged-numbers name test (n + 1) es) (test e)
  where
    others : List ℕ
    others = numbers_where test (n + 1) es

    both : List ℕ
    both = numbers_where (λ x. covers x.pattern name || test x) (n + 1) es

    step : Bool → Bool → List ℕ → List ℕ → List ℕ
    step next kept taken known = if next then n ∷ merged_from name (n + 1) es taken else (if kept then n ∷ merged_from name (n + 1) es known else merged_from name (n + 1) es known)

    by : merged_from name (n + 1) es (numbers_where test (n + 1) es) ≡ numbers_where (λ x. covers x.pattern name || test x) (n + 1) es → (b : Bool) →
        merged_from name n (e ∷ es) (if b then n ∷ numbers_where test (n + 1) es else numbers_where test (n + 1) es)
        ≡ (if covers e.pattern name || b then n ∷ numbers_where (λ x. covers x.pattern name || test x) (n + 1) es else numbers_where (λ x. covers x.pattern name || test x) (n + 1) es)
    by rest true =
        ap (λ same. step same (covers e.pattern name) (if same then others else n ∷ others) (n ∷ others)) (eq-eqb n n refl)
        ∙ ap (λ ns. n ∷ ns) rest
        ∙ ap (λ any. if any then n ∷ both else both) (or_comm true (covers e.pattern name))
    by rest false =
        ap (λ next. step next (covers e.pattern name) (passed n others) others) (later test n (n + 1) es (omega arith))
        ∙ ap (λ ns. if covers e.pattern name then n ∷ ns else ns) rest
        ∙ ap (λ any. if any then n ∷ both else both) (or_comm false (covers e.pattern name))

-- ---- all of them are numbers of entries

pub merged-within : (name : Text) (count n : ℕ) (es : List Entry) (known : List ℕ) → 1 ≤ n → n + length es ≤ count + 1 → AreNumbers count (merged_from name n es known)
merged-within name count n [] known low high = refl
merged-within name count n (e ∷ es) known low high =
    by (merged-within name count (n + 1) es (passed n known) (omega arith) (omega arith)) (merged-within name count (n + 1) es known (omega arith) (omega arith)) (is_next n known) (covers e.pattern name)
  where
    here : (nat_le 1 n && nat_le n count) ≡ true
    here = grind (arith, nat_tests)

    with-this : (others : List ℕ) → AreNumbers count others → AreNumbers count (n ∷ others)
    with-this others are = and_from (nat_le 1 n && nat_le n count) (list_all (λ m. nat_le 1 m && nat_le m count) others) here are

    by : AreNumbers count (merged_from name (n + 1) es (passed n known)) → AreNumbers count (merged_from name (n + 1) es known) → (a b : Bool) →
        AreNumbers count (if a then n ∷ merged_from name (n + 1) es (passed n known) else (if b then n ∷ merged_from name (n + 1) es known else merged_from name (n + 1) es known))
    by taken kept true b = with-this (merged_from name (n + 1) es (passed n known)) taken
    by taken kept false true = with-this (merged_from name (n + 1) es known) kept
    by taken kept false false = kept

-- ---- they ascend

pub merged-ascends : (name : Text) (n : ℕ) (es : List Entry) (known : List ℕ) → ascends_from n (merged_from name n es known) ≡ true
merged-ascends name n [] known = refl
merged-ascends name n (e ∷ es) known = by (merged-ascends name (n + 1) es (passed n known)) (merged-ascends name (n + 1) es known) (is_next n known) (covers e.pattern name)
  where
    by : ascends_from (n + 1) (merged_from name (n + 1) es (passed n known)) ≡ true → ascends_from (n + 1) (merged_from name (n + 1) es known) ≡ true → (a b : Bool) →
        ascends_from n (if a then n ∷ merged_from name (n + 1) es (passed n known) else (if b then n ∷ merged_from name (n + 1) es known else merged_from name (n + 1) es known)) ≡ true
    by taken kept true b = ascending-of n n (merged_from name (n + 1) es (passed n known)) (omega arith) taken
    by taken kept false true = ascending-of n n (merged_from name (n + 1) es known) (omega arith) kept
    by taken kept false false = weaker n (n + 1) (merged_from name (n + 1) es known) (omega arith) kept

-- ---- the first of them

pub record IsFirst (name : Text) (whole : List Entry) (last : ℕ) (n : ℕ) (merged known : List ℕ) (m : ℕ) : Type 0 where
  pub is : merged ≡ m ∷ merged_from name (m + 1) (drop m whole) (passed m known)
  pub low : n ≤ m
  pub high : m ≤ last

-- what is found among them, or that there are none
abbrev pub IsFound : Text → List Entry → ℕ → ℕ → List ℕ → List ℕ → Option ℕ → Type 0
IsFound name whole last n merged known None = merged ≡ []
IsFound name whole last n merged known (Some m) = IsFirst name whole last n merged known m

not-passed : (n : ℕ) (known : List ℕ) → is_next n known ≡ false → passed n known ≡ known
not-passed n [] e = refl
not-passed n (k ∷ known) e = ap (λ b. if b then known else k ∷ known) e

-- what is known from a number on, without the number itself
known-later : (n last : ℕ) (known : List ℕ) → is_next n known ≡ false → first_known known n last ≡ first_known known (n + 1) last
known-later n last [] other = refl
known-later n last (k ∷ known) other = ap (λ b. if b && nat_le k last then Some k else None) same
  where
    same : nat_le n k ≡ nat_le (n + 1) k
    same = grind (arith, nat_tests, other)

known-first : (n last : ℕ) (known : List ℕ) → n ≤ last → is_next n known ≡ true → first_known known n last ≡ Some n
known-first n last [] within next = absurd cc
known-first n last (k ∷ known) within next =
    let is : k ≡ n = eqb-true k n next in
    ap (λ m. first_known (m ∷ known) n last) is ∙ ap₂ (λ a b. if a && b then Some n else None) (le-leb n n (omega arith)) (le-leb n last within)

none-known : (n last : ℕ) (known : List ℕ) → last < n → first_known known n last ≡ None
none-known n last [] past = refl
none-known n last (k ∷ known) past = by (nat_le n k) refl (nat_le k last) refl
  where
    by : (a : Bool) → nat_le n k ≡ a → (b : Bool) → nat_le k last ≡ b → (if a && b then Some k else None) ≡ None
    by true low true high = let le = leb-true n k low in let more = leb-true k last high in absurd (omega arith)
    by true low false high = refl
    by false low b high = refl

-- the first number is no greater than what is found after it
lesser-left : (n : ℕ) (other : Option ℕ) → MatchOption other (n ≡ n) (λ m. n ≤ m) → lesser_of (Some n) other ≡ Some n
lesser-left n None le = refl
lesser-left n (Some m) le = ap (λ b. if b then Some n else Some m) (le-leb n m le)

lesser-right : (n : ℕ) (other : Option ℕ) → MatchOption other (n ≡ n) (λ m. n < m) → lesser_of other (Some n) ≡ Some n
lesser-right n None lt = refl
lesser-right n (Some m) lt = ap (λ b. if b then Some m else Some n) (more-leb m n lt)
  where
    more-leb : (m n : ℕ) → n < m → nat_le m n ≡ false
    more-leb m n lt = grind (arith, nat_tests)

known-low : (n last : ℕ) (known : List ℕ) → MatchOption (first_known known n last) (n ≡ n) (λ m. n ≤ m)
known-low n last [] = refl
known-low n last (k ∷ known) = by (nat_le n k) refl (nat_le k last)
  where
    by : (a : Bool) → nat_le n k ≡ a → (b : Bool) → MatchOption (if a && b then Some k else None) (n ≡ n) (λ m. n ≤ m)
    by true low true = leb-true n k low
    by true low false = refl
    by false low b = refl

lower-option : (high low : ℕ) (o : Option ℕ) → low ≤ high → MatchOption o (high ≡ high) (λ m. high ≤ m) → MatchOption o (low ≡ low) (λ m. low ≤ m)
lower-option high low None le found = refl
lower-option high low (Some m) le found = omega arith

numbers-low : (test : Entry → Bool) (n : ℕ) (es : List Entry) → MatchOption (slice_get (numbers_where test n es) 0) (n ≡ n) (λ m. n ≤ m)
numbers-low test n [] = refl
numbers-low test n (e ∷ es) = by (numbers-low test (n + 1) es) (test e)
  where
    by : MatchOption (slice_get (numbers_where test (n + 1) es) 0) (n + 1 ≡ n + 1) (λ m. n + 1 ≤ m) → (b : Bool) →
        MatchOption (slice_get (if b then n ∷ numbers_where test (n + 1) es else numbers_where test (n + 1) es) 0) (n ≡ n) (λ m. n ≤ m)
    by others true = omega arith
    by others false = lower-option (n + 1) n (slice_get (numbers_where test (n + 1) es) 0) (omega arith) others

above-option : (n : ℕ) (o : Option ℕ) → MatchOption o (n + 1 ≡ n + 1) (λ m. n + 1 ≤ m) → MatchOption o (n ≡ n) (λ m. n < m)
above-option n None found = refl
above-option n (Some m) found = omega arith

-- what follows the entry at a place
behind-more : (whole : List Entry) (k : ℕ) (e : Entry) (es : List Entry) → e ∷ es ≡ drop k whole → es ≡ drop (k + 1) whole
behind-more whole k e es is = ap (drop 1) is ∙ drop-drop 1 k whole

abbrev pub covered_from : Text → ℕ → List Entry → Option ℕ
covered_from name n es = slice_get (numbers_where (λ e. covers e.pattern name) n es) 0

pub found-first : (name : Text) (whole : List Entry) (last n : ℕ) (es : List Entry) (known : List ℕ) → es ≡ drop (n - 1) whole → 1 ≤ n → length es ≡ last + 1 - n →
    IsFound name whole last n (merged_from name n es known) known (lesser_of (first_known known n last) (covered_from name n es))
found-first name whole last n [] known behind low end =
    subst (IsFound name whole last n [] known) (sym (ap (λ o. lesser_of o None) (none-known n last known (omega (arith, end))))) refl
found-first name whole last n (e ∷ es) known behind low end =
    by (is_next n known) refl (covers e.pattern name) refl (found-first name whole last (n + 1) es known later (omega arith) (omega arith))
  where
    later : es ≡ drop (n + 1 - 1) whole
    later = behind-more whole (n - 1) e es behind ∙ ap (λ k. drop k whole) (omega arith)

    here : es ≡ drop n whole
    here = later ∙ ap (λ k. drop k whole) (add-sub_cancel n 1)

    covered : Option ℕ
    covered = covered_from name (n + 1) es

    first : (o : Option ℕ) → o ≡ Some n → (merged : List ℕ) → merged ≡ n ∷ merged_from name (n + 1) (drop n whole) (passed n known) → IsFound name whole last n merged known o
    first o at merged is = subst (IsFound name whole last n merged known) (sym at) (record { is = is; low = omega arith; high = omega arith })

    wider : (o : Option ℕ) (merged : List ℕ) → IsFound name whole last (n + 1) merged known o → IsFound name whole last n merged known o
    wider None merged found = found
    wider (Some m) merged found = record { is = found.is; low = (let more = found.low in omega arith); high = found.high }

    by : (a : Bool) → is_next n known ≡ a → (b : Bool) → covers e.pattern name ≡ b →
        IsFound name whole last (n + 1) (merged_from name (n + 1) es known) known (lesser_of (first_known known (n + 1) last) covered) →
        IsFound name whole last n (if a then n ∷ merged_from name (n + 1) es (passed n known) else (if b then n ∷ merged_from name (n + 1) es known else merged_from name (n + 1) es known)) known
        (lesser_of (first_known known n last) (slice_get (if b then n ∷ numbers_where (λ x. covers x.pattern name) (n + 1) es else numbers_where (λ x. covers x.pattern name) (n + 1) es) 0))
    by true next b is rest =
        first _ (ap (λ o. lesser_of o (behind-it b)) (known-first n last known (omega arith) next) ∙ lesser-left n (behind-it b) (low-behind b))
        (n ∷ merged_from name (n + 1) es (passed n known)) (ap (λ xs. n ∷ merged_from name (n + 1) xs (passed n known)) here)
      where
        behind-it : Bool → Option ℕ
        behind-it b = slice_get (if b then n ∷ numbers_where (λ x. covers x.pattern name) (n + 1) es else numbers_where (λ x. covers x.pattern name) (n + 1) es) 0

        low-behind : (b : Bool) → MatchOption (behind-it b) (n ≡ n) (λ m. n ≤ m)
        low-behind true = omega arith
        low-behind false = lower-option (n + 1) n (covered_from name (n + 1) es) (omega arith) (numbers-low (λ x. covers x.pattern name) (n + 1) es)
    by false other true is rest =
        first _ (ap (λ o. lesser_of o (Some n)) (known-later n last known other) ∙ lesser-right n (first_known known (n + 1) last) (above-option n (first_known known (n + 1) last) (known-low (n + 1) last known)))
        (n ∷ merged_from name (n + 1) es known) (ap₂ (λ xs ns. n ∷ merged_from name (n + 1) xs ns) here (sym (not-passed n known other)))
    by false other false is rest =
        wider _ (merged_from name (n + 1) es known)
        (subst (λ (o : Option ℕ). IsFound name whole last (n + 1) (merged_from name (n + 1) es known) known (lesser_of o covered)) (sym (known-later n last known other)) rest)

module _ (name : Text) (whole : List Entry) (last n : ℕ) (merged known : List ℕ) where
  pub found-is : (o : Option ℕ) → IsFound name whole last n merged known o → MatchOption o (merged ≡ []) (λ m. merged ≡ m ∷ merged_from name (m + 1) (drop m whole) (passed m known))
  found-is None found = found
  found-is (Some m) found = found.is

  pub found-within : (o : Option ℕ) → last ≤ 65535 → IsFound name whole last n merged known o → MatchOption o (n ≡ n) (λ m. (n ≤ m) × (m ≤ 65535))
  found-within None most found = refl
  found-within (Some m) most found = (found.low, (let high = found.high in omega arith))

pub first-found : (name : Text) (whole : List Entry) (n : ℕ) (known : List ℕ) → 1 ≤ n →
    IsFound name whole (length whole) n (merged_from name n (drop (n - 1) whole) known) known (lesser_of (first_known known n (length whole)) (next_covering whole name n))
first-found name whole n known low = found-first name whole (length whole) n (drop (n - 1) whole) known refl low (let left = length-drop (n - 1) whole in omega arith)

-- ---- known numbers, and others that are inserted among them

below-more : (n k : ℕ) (known : List ℕ) → k < n → below n (k ∷ known) ≡ k ∷ below n known
below-more n k known lt = ap (λ b. if b then k ∷ below n known else []) (lt-ltb k n lt)

none-below : (n : ℕ) (known : List ℕ) → ascends_from n known ≡ true → below n known ≡ []
none-below n [] a = refl
none-below n (k ∷ known) a = ap (λ b. if b then k ∷ below n known else []) least
  where
    least : nat_lt k n ≡ false
    least = let le : n ≤ k = (ascending-parts n k known a).0 in grind (arith, nat_tests)

pub merged-by-inserting : (name : Text) (n : ℕ) (es : List Entry) (known : List ℕ) → ascends_from n known ≡ true →
    below (n + length es) (with_numbers (merged_from name n es []) known) ≡ merged_from name n es known
merged-by-inserting name n [] known a = ap (λ (end : ℕ). below end known) (let none : n + length {A = Entry} [] ≡ n = omega arith in none) ∙ none-below n known a
merged-by-inserting name n (e ∷ es) known a = by (λ known more. merged-by-inserting name (n + 1) es known more) known a (covers e.pattern name)
  where
    later : List ℕ
    later = merged_from name (n + 1) es []

    Others : Type 0
    Others = (known : List ℕ) → ascends_from (n + 1) known ≡ true → below (n + 1 + length es) (with_numbers later known) ≡ merged_from name (n + 1) es known

    rest : Others → (known : List ℕ) → ascends_from (n + 1) known ≡ true → below (n + length (e ∷ es)) (with_numbers later known) ≡ merged_from name (n + 1) es known
    rest others known more = ap (λ end. below end (with_numbers later known)) (omega arith) ∙ others known more

    taken : Others → (known : List ℕ) → ascends_from (n + 1) known ≡ true → below (n + length (e ∷ es)) (with_numbers later (n ∷ known)) ≡ n ∷ merged_from name (n + 1) es known
    taken others known more =
        ap (below (n + length (e ∷ es))) (in-front n later known (merged-ascends name (n + 1) es []))
        ∙ below-more (n + length (e ∷ es)) n (with_numbers later known) (omega arith)
        ∙ ap (λ ns. n ∷ ns) (rest others known more)

    by : Others → (known : List ℕ) → ascends_from n known ≡ true → (b : Bool) →
        below (n + length (e ∷ es)) (with_numbers (if b then n ∷ later else later) known)
        ≡ (if is_next n known then n ∷ merged_from name (n + 1) es (passed n known) else (if b then n ∷ merged_from name (n + 1) es known else merged_from name (n + 1) es known))
    by others [] a true = taken others [] refl
    by others [] a false = rest others [] refl
    by others (k ∷ known) a b = same (k == n) refl b
      where
        following : (k == n) ≡ true → ascends_from (n + 1) known ≡ true
        following is = subst (λ (m : ℕ). ascends_from (m + 1) known ≡ true) (eqb-true k n is) (ascending-parts n k known a).1

        greater : (k == n) ≡ false → ascends_from (n + 1) (k ∷ known) ≡ true
        greater is = ascending-of (n + 1) k known above (ascending-parts n k known a).1
          where
            above : n + 1 ≤ k
            above = let le : n ≤ k = (ascending-parts n k known a).0 in grind (arith, nat_tests, is)

        same : (s : Bool) → (k == n) ≡ s → (b : Bool) →
            below (n + length (e ∷ es)) (with_numbers (if b then n ∷ later else later) (k ∷ known))
            ≡ (if s then n ∷ merged_from name (n + 1) es (if s then known else k ∷ known)
            else (if b then n ∷ merged_from name (n + 1) es (k ∷ known) else merged_from name (n + 1) es (k ∷ known)))
        same true is true =
            ap (λ m. below (n + length (e ∷ es)) (with_numbers later (with_number n (m ∷ known)))) (eqb-true k n is)
            ∙ ap (λ ns. below (n + length (e ∷ es)) (with_numbers later ns)) (with-same n known)
            ∙ taken others known (following is)
        same true is false = ap (λ m. below (n + length (e ∷ es)) (with_numbers later (m ∷ known))) (eqb-true k n is) ∙ taken others known (following is)
        same false is true =
            ap (λ ns. below (n + length (e ∷ es)) (with_numbers later ns)) (with-first n (k ∷ known) (greater is)) ∙ taken others (k ∷ known) (greater is)
        same false is false = rest others (k ∷ known) (greater is)

-- those that are of no entry are let go
pub merged-by-cutting : (name : Text) (es : List Entry) (known now : List ℕ) (count end : ℕ) → ascends_from 1 known ≡ true → now ≡ with_numbers (merged_from name 1 es []) known →
    count ≡ length es → end ≡ count_below (count + 1) now → take end now ≡ merged_from name 1 es known
merged-by-cutting name es known now count end a inserted counted at =
    ap (λ k. take k now) at ∙ cut-below (count + 1) now ∙ ap₂ below (let last : count + 1 ≡ 1 + length es = omega arith in last) inserted ∙ merged-by-inserting name 1 es known a

pub inserted-ascend : (name : Text) (es : List Entry) (known : List ℕ) → ascends_from 1 known ≡ true → ascends_from 1 (with_numbers (merged_from name 1 es []) known) ≡ true
inserted-ascend name es known a = all-ascend 1 (merged_from name 1 es []) known (merged-ascends name 1 es []) a
