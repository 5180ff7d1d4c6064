-- Patterns with ranks, in the order in which they were added: what they give to a name, and which of them cover it.
use Rattle.std.specs.Prelude.{ℕ, ◌+◌, ◌-◌, ◌==◌, max, Bool, not, ◌&&◌, List, [], ◌∷◌, drop, count_by, Option, slice_get, IsPermutation, if◌then◌else◌, bytes_eq}
use Rattle.name_patterns.specs.Patterns.{Pattern, covers}

-- an addition: a pattern, and its rank
abbrev pub Ranked : Type 0
Ranked = Pattern × ℕ

-- the pattern is exactly the name
abbrev pub is_exact_for : List ℕ → Ranked → Bool
is_exact_for name r = r.0.exact && bytes_eq name r.0.name

-- the pattern is the name and all names below it
abbrev pub is_subtree_of : List ℕ → Ranked → Bool
is_subtree_of name r = not r.0.exact && bytes_eq name r.0.name

abbrev pub covers_name : List ℕ → Ranked → Bool
covers_name name r = covers r.0 name

-- ---- ranks

-- the greatest rank of those that pass the test, or 0 if there is none
abbrev pub greatest : (Ranked → Bool) → List Ranked → ℕ
greatest test [] = 0
greatest test (r ∷ rs) = if test r then max r.1 (greatest test rs) else greatest test rs

-- the greatest rank of the patterns that cover the name, or 0 if there is none
abbrev pub greatest_rank : List Ranked → List ℕ → ℕ
greatest_rank added name = greatest (covers_name name) added

-- ---- places

-- the places, from the given one, of the values that pass the test
abbrev pub places_where : {A : Type 0} → (A → Bool) → ℕ → List A → List ℕ
places_where test n [] = []
places_where test n (x ∷ xs) = if test x then n ∷ places_where test (n + 1) xs else places_where test (n + 1) xs

-- the lowest place, from 1, that is at least `from` and at which one passes the test
abbrev pub next_place : (Ranked → Bool) → ℕ → List Ranked → Option ℕ
next_place test from added = slice_get (places_where test from (drop (from - 1) added)) 0

-- the places, from 1, of all patterns that cover the name, each once, in any order
abbrev pub AreCovering : List Ranked → List ℕ → List ℕ → Type 0
AreCovering added name places = IsPermutation (places_where (covers_name name) 1 added) places

-- ---- names

-- the number of elements of a name: its dots, and one
abbrev pub elements : List ℕ → ℕ
elements name = count_by (λ c. c == 46) name + 1
