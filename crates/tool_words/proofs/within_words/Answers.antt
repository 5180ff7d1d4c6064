use Rattle.tool_words.proofs.OneWordEach.{within_one_each}
use Rattle.tool_words.proofs.within_words.Goals as goal

pub matches_of-requires : goal.matches_of-requires
matches_of-requires c = within_one_each
