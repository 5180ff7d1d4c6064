use Rattle.std.proofs.Common.{◌≡◌, true, sym, subst, List, ℕ}
use Rattle.unique_names.specs.Inserted.{ascends_from}
use Rattle.unique_names.proofs.Merging.{merged-ascends}
use Rattle.unique_names.proofs.known.Known.own.Goals as goal

pub invariant_of-self-2 : goal.invariant_of-self-2
invariant_of-self-2 g c =
    subst (λ (xs : List ℕ). ascends_from 1 xs ≡ true) (sym c.in_ok-merge.ensures.ok) (merged-ascends c.args.name.now 1 c.args.policy.now.entries _)
