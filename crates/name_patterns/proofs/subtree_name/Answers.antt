use Rattle.std.proofs.Common.{[], ◌∷◌}
use Rattle.name_patterns.proofs.PatternCuts.{before_end_is}
use Rattle.name_patterns.proofs.subtree_name.Goals as goal

pub returns : goal.returns
returns c = before_end_is (46 ∷ 42 ∷ []) c.args.text.now c.strip_suffix.result c.strip_suffix.ensures.cases
