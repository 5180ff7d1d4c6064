-- The numbers of the entries that cover a name.
use Rattle.std.specs.Prelude.{ℕ, ◌-◌, Bool, false, ◌&&◌, nat_le, List, Option, Some, None, drop, slice_get, IsPermutation}
use Rattle.name_patterns.specs.Patterns.{covers}
use Rattle.policy_args.specs.Levels.{numbers_where}
use Rattle.policy_args.specs.Policy.{entry_at}
use Rattle.policy_args.specs.declared.entry.Entry.{Entry}

-- the numbers, from 1, of all entries that cover the name, each once, in any order
abbrev pub AreCovering : List Entry → List ℕ → List ℕ → Type 0
AreCovering entries name numbers = IsPermutation (numbers_where (λ e. covers e.pattern name) 1 entries) numbers

-- the numbers, from a number on, of the entries that cover the name, ascending
abbrev pub covering_from : List Entry → List ℕ → ℕ → List ℕ
covering_from entries name from = numbers_where (λ e. covers e.pattern name) from (drop (from - 1) entries)

-- the least of them
abbrev pub next_covering : List Entry → List ℕ → ℕ → Option ℕ
next_covering entries name from = slice_get (covering_from entries name from) 0

abbrev pub passes : (Entry → Bool) → Option Entry → Bool
passes test None = false
passes test (Some e) = test e

-- the entry with the number passes the test
abbrev pub passes_at : (Entry → Bool) → List Entry → ℕ → Bool
passes_at test entries number = passes test (entry_at entries number)

-- the number of one of the entries, of which there are `count`
abbrev pub is_number : ℕ → ℕ → Bool
is_number count number = nat_le 1 number && nat_le number count
