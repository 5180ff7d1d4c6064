-- What was made and is written piece by piece.
use Rattle.std.specs.Prelude.{◌≡◌, ℕ, List, ◌++◌, Option}
use Rattle.link_traits.specs.Told.{added}

-- a sink got the bytes in front, and the others are left
pub record Moved (told_before told_now : Option (List ℕ)) (before now : List ℕ) : Type 0 where
  pub piece : List ℕ
  pub got : told_now ≡ added piece told_before
  pub left : piece ++ now ≡ before
