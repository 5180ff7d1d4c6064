use Rattle.policy_args.proofs.EntryLaws.{entry_word-entry_of}
use Rattle.policy_args.proofs.laws.entries_have_one_word.Goals as goal

pub returns : goal.returns
returns c = λ word entry e. entry_word-entry_of word entry e
