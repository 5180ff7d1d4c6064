use Rattle.std.proofs.Common.{ℕ, List, length, not, ◌==◌, ap, ◌∙◌}
use Rattle.name_patterns.specs.Ranks.{is_exact_for}
use Rattle.name_patterns.proofs.Places.{places-any}
use Rattle.name_patterns.proofs.index.PatternIndex.is_named.Goals as goal

pub returns : goal.returns
returns c = λ added is.
    let kept = c.exact_places.ensures ∙ ap (λ k. k.exact) (is.says c.args.name.now) in
    ap not c.is_empty.ensures ∙ ap (λ (ks : List ℕ). not (length ks == 0)) kept ∙ places-any (is_exact_for c.args.name.now) 1 added
