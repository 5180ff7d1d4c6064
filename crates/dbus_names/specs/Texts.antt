-- Texts, and their ends.
use Rattle.std.specs.Prelude.{ℕ, ◌-◌, Bool, nat_eq, List, length, take, drop, Option, Some, None, if◌then◌else◌}
use Rattle.std.specs.List.{starts_with, ends_with}

-- a text or a name: its bytes
abbrev pub Text : Type 0
Text = List ℕ

abbrev pub begins_with : List ℕ → List ℕ → Bool
begins_with front text = starts_with nat_eq text front

-- the text after a prefix that it has
abbrev pub behind : List ℕ → List ℕ → Option (List ℕ)
behind front text = if begins_with front text then Some (drop (length front) text) else None

abbrev pub has_end : List ℕ → List ℕ → Bool
has_end end text = ends_with nat_eq text end

-- the text without its last n bytes
abbrev pub without_last : ℕ → List ℕ → List ℕ
without_last n text = take (length text - n) text
