use Rattle.std.proofs.Common.{◌≡◌, ℕ, ◌<◌, true}
use Rattle.policy_within.specs.Elements.{is_among, z_word}
use Rattle.policy_within.proofs.z_words.ZWords.first_free.Given as goal

abbrev pub invariant-loop-number : goal.invariant-loop-number
invariant-loop-number l = (j : ℕ) → j < l.number → is_among l.self (z_word j) ≡ true
