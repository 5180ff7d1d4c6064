use Rattle.policy_args.proofs.EntryAgain.{entry_of-entry_word}
use Rattle.policy_args.proofs.laws.words_give_their_entries.Goals as goal

pub returns : goal.returns
returns c = λ entry g. entry_of-entry_word entry g
