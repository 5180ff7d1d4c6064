-- How a policy keeps its patterns: each once, by a key, with the number of the first entry that has it.
use Rattle.std.specs.Prelude.{◌≡◌, ℕ, List, [], ◌∷◌, ◌++◌, map, Option, Some, option_map, if◌then◌else◌, bytes_eq}
use Rattle.std.specs.List.{list_any}
use Rattle.name_patterns.specs.Patterns.{Pattern}
use Rattle.policy_args.specs.Policy.{entry_at, patterns_of}
use Rattle.policy_args.specs.declared.entry.Entry.{Entry}

-- the key of a pattern: '=' and an exact name, or '*' and the N of N.*
abbrev pub pattern_key : Pattern → List ℕ
pattern_key p = (if p.exact then 61 else 42) ∷ p.name

pub record Distinct : Type 0 where
  pub keys : List (List ℕ)
  pub firsts : List ℕ

abbrev pub no_patterns : Distinct
no_patterns = record { keys = []; firsts = [] }

-- one more key, unless it is there already
abbrev pub noted : Distinct → List ℕ → ℕ → Distinct
noted d key number =
    if list_any (bytes_eq key) d.keys then d else record { keys = d.keys ++ key ∷ []; firsts = d.firsts ++ number ∷ [] }

abbrev pub pattern_at : List Entry → ℕ → Option Pattern
pattern_at entries n = option_map (λ e. e.pattern) (entry_at entries n)

-- these are the entries' patterns
abbrev pub AreOf : List Entry → Distinct → Type 0
AreOf entries d = (d.keys ≡ map pattern_key (patterns_of entries)) × (map (pattern_at entries) d.firsts ≡ map Some (patterns_of entries))
