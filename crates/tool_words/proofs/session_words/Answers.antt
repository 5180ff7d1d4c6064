use Rattle.tool_words.proofs.OneWordEach.{session_one_each}
use Rattle.tool_words.proofs.session_words.Goals as goal

pub matches_of-requires : goal.matches_of-requires
matches_of-requires c = session_one_each
