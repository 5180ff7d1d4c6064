use Rattle.tool_words.proofs.OneWordEach.{sessions_one_each}
use Rattle.tool_words.proofs.sessions_words.Goals as goal

pub matches_of-requires : goal.matches_of-requires
matches_of-requires c = sessions_one_each
