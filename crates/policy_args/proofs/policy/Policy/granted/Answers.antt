use Rattle.std.proofs.Common.{ap, ◌∙◌}
use Rattle.policy_args.specs.EntryRanks.{ranked}
use Rattle.policy_args.specs.Policy.{granted}
use Rattle.policy_args.proofs.RankedEntries.{granted-found}
use Rattle.policy_args.proofs.policy.Policy.granted.Goals as goal

pub returns-else-len-le-FEW_ENTRIES-clause-level : goal.returns-else-len-le-FEW_ENTRIES-clause-level
returns-else-len-le-FEW_ENTRIES-clause-level g c =
    let entries = c.self.inside.entries.items in
    let name = c.args.name.now in
    c.of_rank.ensures ∙ granted-found entries name c.greatest.result (c.greatest.ensures.rank (ranked entries) c.self.invariant.4)
    ∙ ap (λ p. granted p.entries name) c.self.view_is
