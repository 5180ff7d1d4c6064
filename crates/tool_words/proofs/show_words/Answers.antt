use Rattle.tool_words.proofs.OneWordEach.{show_one_each}
use Rattle.tool_words.proofs.show_words.Goals as goal

pub matches_of-requires : goal.matches_of-requires
matches_of-requires c = show_one_each
