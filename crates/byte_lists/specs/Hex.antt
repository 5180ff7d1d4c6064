-- Bytes in hexadecimal, as worked examples write them.
use Rattle.std.specs.Prelude.{ℕ, ◌+◌, ◌*◌, ◌==◌, not, List, [], ◌∷◌, filter}
use Rattle.std.specs.Char.{digit_value}

abbrev pub pairs : List ℕ → List ℕ
pairs (a ∷ b ∷ digits) = (digit_value a * 16 + digit_value b) ∷ pairs digits
pairs _ = []

-- the bytes that the digits spell; spaces are ignored
abbrev pub hex : List ℕ → List ℕ
hex digits = pairs (filter (λ c. not (c == 32)) digits)
