-- The names of links.
use Rattle.std.specs.Prelude.{ℕ, List, codes}
use Rattle.link_traits.specs.declared.links.Side.{Side}
use Rattle.link_traits.specs.declared.links.Side.TheVariants.{Client, Bus}

-- the letter of a side
abbrev pub letter_of : Side → List ℕ
letter_of Client = codes "c"
letter_of Bus = codes "b"
