-- Ascending numbers, and the insertion of others.
use Rattle.std.specs.Prelude.{ℕ, ◌+◌, ◌==◌, nat_le, nat_lt, Bool, true, ◌&&◌, List, [], ◌∷◌, Result, Ok, Err, if◌then◌else◌}
use Rattle.std.specs.List.{list_any}

-- each is greater than the one before it, and the first is at least the given one
abbrev pub ascends_from : ℕ → List ℕ → Bool
ascends_from low [] = true
ascends_from low (n ∷ ns) = nat_le low n && ascends_from (n + 1) ns

abbrev pub is_in : ℕ → List ℕ → Bool
is_in n known = list_any (λ k. k == n) known

-- how many there are before the first that isn't below the number
abbrev pub count_below : ℕ → List ℕ → ℕ
count_below n [] = 0
count_below n (k ∷ known) = if nat_lt k n then count_below n known + 1 else 0

-- those before the first that isn't below the number
abbrev pub below : ℕ → List ℕ → List ℕ
below n [] = []
below n (k ∷ known) = if nat_lt k n then k ∷ below n known else []

-- the place of a number, or else the place at which it would be inserted
abbrev pub place_of : ℕ → List ℕ → Result ℕ ℕ
place_of n known = if is_in n known then Ok (count_below n known) else Err (count_below n known)

-- the number is inserted before the first that is greater, unless it is there already
abbrev pub with_number : ℕ → List ℕ → List ℕ
with_number n [] = n ∷ []
with_number n (k ∷ known) = if nat_lt k n then k ∷ with_number n known else (if k == n then k ∷ known else n ∷ k ∷ known)

abbrev pub with_numbers : List ℕ → List ℕ → List ℕ
with_numbers [] known = known
with_numbers (n ∷ ns) known = with_numbers ns (with_number n known)

-- how many of the numbers aren't among the known ones
abbrev pub missing_in : List ℕ → List ℕ → ℕ
missing_in known [] = 0
missing_in known (n ∷ ns) = if is_in n known then missing_in known ns else missing_in known ns + 1
