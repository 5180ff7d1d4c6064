-- Lists of bytes.
use Rattle.std.specs.Prelude.{ℕ, ◌<◌, Bool, true, false, List, [], ◌∷◌, get_or}

abbrev pub is_empty : List ℕ → Bool
is_empty [] = true
is_empty (c ∷ bytes) = false

-- each is a byte
abbrev pub AreBytes : List ℕ → Type 0
AreBytes bytes = (i : ℕ) → get_or bytes i 0 < 256
