-- The words of lines.
use Rattle.std.specs.Prelude.{ℕ, Bool, not, ◌||◌, ◌==◌}

-- no byte at which a word ends
abbrev pub is_in_word : ℕ → Bool
is_in_word c = not (c == 32 || c == 13)
