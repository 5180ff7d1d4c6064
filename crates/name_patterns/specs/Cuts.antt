-- What precedes the end of a text, and what a pattern covers, given what follows its name.
use Rattle.std.specs.Prelude.{ℕ, ◌==◌, Bool, true, false, not, ◌&&◌, List, [], ◌∷◌, length, Option, Some, None, if◌then◌else◌}
use Rattle.dbus_names.specs.Texts.{has_end, without_last}

-- the text before an end that it has
abbrev pub before_end : List ℕ → List ℕ → Option (List ℕ)
before_end end text = if has_end end text then Some (without_last (length end) text) else None

-- whether a pattern covers a text, given what follows the pattern's name
abbrev pub rest_covered : Bool → Option (List ℕ) → Bool
rest_covered exact None = false
rest_covered exact (Some []) = true
rest_covered exact (Some (c ∷ rest)) = c == 46 && not exact
