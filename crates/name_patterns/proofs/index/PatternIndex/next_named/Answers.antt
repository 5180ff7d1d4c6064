use Rattle.std.proofs.Common.{None, [], refl, ap, ap₂, ◌∙◌}
use Rattle.name_patterns.specs.PatternIndex.{kept_in, lesser}
use Rattle.name_patterns.specs.Ranks.{is_exact_for, is_subtree_of}
use Rattle.name_patterns.proofs.NextPlaces.{searched}
use Rattle.name_patterns.proofs.index.PatternIndex.next_named.Goals as goal

pub returns-in-Some-clause-next : goal.returns-in-Some-clause-next
returns-in-Some-clause-next g c = λ added is.
    let kept = ap kept_in c.in-Some.ensures.value ∙ is.says c.args.name.now in
    c.earlier.ensures
    ∙ ap₂ lesser (searched (is_exact_for c.args.name.now) added c.args.from c.deref.result.now c.first_from.result c.requires (c.deref.ensures.value ∙ ap (λ k. k.exact) kept) c.first_from.ensures)
    (searched (is_subtree_of c.args.name.now) added c.args.from c.deref-in-Some.result.now c.first_from-in-Some.result c.requires (c.deref-in-Some.ensures.value ∙ ap (λ k. k.subtree) kept) c.first_from-in-Some.ensures)

pub returns-in-None-clause-next : goal.returns-in-None-clause-next
returns-in-None-clause-next g c = λ added is.
    let kept = ap kept_in c.in-None.ensures.value ∙ is.says c.args.name.now in
    ap₂ lesser (searched (is_exact_for c.args.name.now) added c.args.from [] None c.requires (ap (λ k. k.exact) kept) (λ parted. refl))
    (searched (is_subtree_of c.args.name.now) added c.args.from [] None c.requires (ap (λ k. k.subtree) kept) (λ parted. refl))
