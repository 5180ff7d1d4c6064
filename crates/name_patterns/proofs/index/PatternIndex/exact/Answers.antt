use Rattle.std.proofs.Common.{ap, ◌∙◌}
use Rattle.name_patterns.proofs.index.PatternIndex.exact.Goals as goal

pub returns-clause-rank : goal.returns-clause-rank
returns-clause-rank g c = λ added is. ap (λ k. k.exact) c.look_up.ensures.ranks ∙ ap (λ k. k.ranks.exact) (is.says c.args.name.now)
