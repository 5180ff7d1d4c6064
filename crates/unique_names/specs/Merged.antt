-- The numbers of entries, in one pass over the entries: those that are known, and those of the entries that cover a
-- name.
use Rattle.std.specs.Prelude.{ℕ, ◌+◌, ◌*◌, ◌==◌, ◌&&◌, nat_le, Bool, false, List, [], ◌∷◌, length, Option, Some, None, if◌then◌else◌}
use Rattle.dbus_names.specs.Texts.{Text}
use Rattle.name_patterns.specs.Patterns.{covers}
use Rattle.name_patterns.specs.Ranks.{elements}
use Rattle.policy_args.specs.declared.entry.Entry.{Entry}

-- the first of the known numbers is this one
abbrev pub is_next : ℕ → List ℕ → Bool
is_next n [] = false
is_next n (k ∷ known) = k == n

-- the known numbers without the first, if that is this one
abbrev pub passed : ℕ → List ℕ → List ℕ
passed n [] = []
passed n (k ∷ known) = if k == n then known else k ∷ known

-- those of the entries from a number on, and the known numbers from there on
abbrev pub merged_from : Text → ℕ → List Entry → List ℕ → List ℕ
merged_from name n [] known = []
merged_from name n (e ∷ es) known =
    if is_next n known then n ∷ merged_from name (n + 1) es (passed n known)
    else (if covers e.pattern name then n ∷ merged_from name (n + 1) es known else merged_from name (n + 1) es known)

-- the first of the known numbers, if it is between these two
abbrev pub first_known : List ℕ → ℕ → ℕ → Option ℕ
first_known [] from last = None
first_known (k ∷ known) from last = if nat_le from k && nat_le k last then Some k else None

abbrev pub lesser_of : Option ℕ → Option ℕ → Option ℕ
lesser_of None right = right
lesser_of left None = left
lesser_of (Some left) (Some right) = if nat_le left right then Some left else Some right

-- ---- counting look-ups

-- the numbers of the entries that apply to a name
pub record NameNumbers : Type 0 where
  pub name : Text
  pub numbers : List ℕ

-- the most look-ups of a walk over a name's numbers: one for each element of the name, for each number and once more
abbrev pub look_ups : Text → List ℕ → ℕ
look_ups name numbers = (length numbers + 1) * elements name
