-- A map with texts as keys, as a map with the keys' bytes.
use Rattle.std.specs.Prelude.{ℕ, List, [], ◌∷◌, String, string_bytes}

-- the entries, each with its key's bytes
abbrev pub by_bytes : {Z X : Type 0} → List (String Z × X) → List (List ℕ × X)
by_bytes [] = []
by_bytes (e ∷ es) = (string_bytes e.0, e.1) ∷ by_bytes es
