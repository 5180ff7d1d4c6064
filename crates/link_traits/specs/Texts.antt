-- The bytes of texts.
use Rattle.std.specs.Prelude.{ℕ, List, String, map, string_bytes}

-- the bytes of each text, as of each word of a command line
abbrev pub texts_of : {Z : Type 0} → List (String Z) → List (List ℕ)
texts_of texts = map (λ text. string_bytes text) texts
