use Rattle.tool_words.proofs.OneWordEach.{twin_one_each}
use Rattle.tool_words.proofs.twin_words.Goals as goal

pub matches_of-requires : goal.matches_of-requires
matches_of-requires c = twin_one_each
