-- What a tracker keeps of a unique name.
use Rattle.std.specs.Prelude.{ℕ, List}
use Rattle.policy_args.specs.declared.Level.{Level}

-- its level, and the numbers of the entries that cover a name that it has owned, ascending
pub record Known : Type 0 where
  pub level : Level
  pub numbers : List ℕ
