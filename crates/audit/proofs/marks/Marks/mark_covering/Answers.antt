use Rattle.std.proofs.Common.{◌≡◌, ◌∙◌, List, ℕ, refl, subst, sym, length}
use Rattle.audit.proofs.Named.{MarkedTo, marked-all, marked-none, marked-step}
use Rattle.audit.proofs.marks.Marks.mark_covering.Goals as goal

pub loop-number-init : goal.loop-number-init
loop-number-init c =
    let numbers = c.covering-number-items.result in
    let same : c.into_iter-number-iterator.result ≡ numbers = c.into_iter-number-iterator.ensures.into_iter_gives in (
      tt,
      tt,
      refl,
      refl,
      λ len. subst (λ (ns : List ℕ). MarkedTo c.args.policy.now.entries c.args.name.now c.args.self.now.marks.items ns c.args.self.now.marks.items) (sym same)
          (marked-none c.args.policy.now.entries c.args.name.now c.args.self.now.marks.items numbers c.covering-number-items.ensures),
    )
