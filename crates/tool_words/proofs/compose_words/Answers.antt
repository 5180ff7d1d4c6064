use Rattle.tool_words.proofs.OneWordEach.{compose_one_each}
use Rattle.tool_words.proofs.compose_words.Goals as goal

pub matches_of-requires : goal.matches_of-requires
matches_of-requires c = compose_one_each
