use Rattle.policy_args.proofs.EntryLaws.{entry_word-entry_of}
use Rattle.policy_args.proofs.options.Options.take.Goals as goal

pub add-requires : goal.add-requires
add-requires c = entry_word-entry_of c.args.word.now c.in-Ok.entry c.in-Ok.ensures
