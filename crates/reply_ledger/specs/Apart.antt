-- A sender's calls, as one serial and the others.
use Rattle.std.specs.Prelude.{◌≡◌, ◌≤◌, ℕ, None, Some}
use Rattle.std.specs.FinMap.{get}
use Rattle.reply_ledger.specs.Owed.{Serials}

pub record AreApart (serial count : ℕ) (others : Serials) : Type 0 where
  pub counted : 1 ≤ count
  pub apart : get others serial ≡ None
  pub positive : (n : ℕ) → get others n ≡ Some 0 → ⊥
