use Rattle.std.proofs.Common.{◌-◌, ap, sym, ◌∙◌, arith, Some, slice_get}
use Rattle.std.proofs.lemmas.Option.{get_or_from_slice_get}
use Rattle.policy_args.proofs.Distincts.{first-at}
use Rattle.policy_args.specs.Policy.{patterns_of}
use Rattle.policy_args.proofs.policy.Policy.pattern.Goals as goal

pub overflow_sub-first : goal.overflow_sub-first
overflow_sub-first c = (first-at c.self.inside.entries.items c.self.inside.patterns _ _ c.self.invariant.2 c.first-first.ensures).positive

pub index-requires : goal.index-requires
index-requires c =
    let f = first-at c.self.inside.entries.items c.self.inside.patterns _ _ c.self.invariant.2 c.first-first.ensures in
    let within = f.within in omega arith

pub returns : goal.returns
returns c =
    let f = first-at c.self.inside.entries.items c.self.inside.patterns _ _ c.self.invariant.2 c.first-first.ensures in
    let here = c.index.ensures ∙ get_or_from_slice_get c.self.inside.entries.items (c.first-first.result - 1) f.entry c.index.result.now f.at in
    ap (λ p. slice_get (patterns_of p.entries) (c.args.number - 1)) (sym c.self.view_is) ∙ f.pattern ∙ ap (λ e. Some e.pattern) (sym here)
