use Rattle.std.proofs.Common.{ap, ◌∙◌}
use Rattle.name_patterns.proofs.index.PatternIndex.below.Goals as goal

pub returns-clause-rank : goal.returns-clause-rank
returns-clause-rank g c = λ added is. ap (λ k. k.subtree) c.look_up.ensures.ranks ∙ ap (λ k. k.ranks.subtree) (is.says c.args.front.now)
