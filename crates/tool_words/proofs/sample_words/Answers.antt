use Rattle.tool_words.proofs.OneWordEach.{sample_one_each}
use Rattle.tool_words.proofs.sample_words.Goals as goal

pub matches_of-requires : goal.matches_of-requires
matches_of-requires c = sample_one_each
