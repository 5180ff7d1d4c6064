use Rattle.tool_words.proofs.OneWordEach.{suggest_at_most}
use Rattle.tool_words.proofs.suggest_words.Goals as goal

pub filled-requires : goal.filled-requires
filled-requires c = suggest_at_most
