-- The effect of a reply on a sender's calls.
use Rattle.std.specs.Prelude.{◌≡◌, ◌<◌, ℕ, None}
use Rattle.std.specs.FinMap.{empty, get}
use Rattle.reply_ledger.specs.declared.calls.Answered.{Answered}
use Rattle.reply_ledger.specs.declared.calls.Answered.TheVariants.{NotOwed, Taken, Last}
use Rattle.reply_ledger.specs.Owed.{Serials, count_in, one_less_in, one_more_in}

abbrev pub IsAnswered : Serials → ℕ → Serials → Answered → Type 0
IsAnswered old n new NotOwed = (get old n ≡ None) × (new ≡ old)
IsAnswered old n new Taken = (0 < count_in old n) × (new ≡ one_less_in old n)
IsAnswered old n new Last = (old ≡ one_more_in empty n) × (new ≡ old)
