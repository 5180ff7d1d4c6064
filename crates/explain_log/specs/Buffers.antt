-- How bytes that wait in a buffer go out to a sink.
use Rattle.std.specs.Prelude.{◌≡◌, ◌++◌, ℕ, List, Option}
use Rattle.link_traits.specs.Told.{added}

-- a prefix of these bytes went to a sink, and the rest is left
pub record GoesOut (bytes left : List ℕ) (told new : Option (List ℕ)) : Type 0 where
  pub got : List ℕ
  pub split : bytes ≡ got ++ left
  pub is : new ≡ added got told
