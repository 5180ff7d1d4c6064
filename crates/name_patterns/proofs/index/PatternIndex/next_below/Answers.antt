use Rattle.std.proofs.Common.{ap, ◌∙◌}
use Rattle.name_patterns.specs.Ranks.{is_subtree_of}
use Rattle.name_patterns.proofs.NextPlaces.{searched}
use Rattle.name_patterns.proofs.index.PatternIndex.next_below.Goals as goal

pub returns-clause-next : goal.returns-clause-next
returns-clause-next g c = λ added is.
    searched (is_subtree_of c.args.front.now) added c.args.from c.subtree_places.result.now c.first_from.result c.requires
    (c.subtree_places.ensures ∙ ap (λ k. k.subtree) (is.says c.args.front.now)) c.first_from.ensures
