use Rattle.std.proofs.Common.{subst}
use Rattle.policy_args.specs.Covering.{AreCovering}
use Rattle.policy_args.specs.EntryRanks.{ranked}
use Rattle.policy_args.specs.Policy.{Policy}
use Rattle.policy_args.proofs.RankedEntries.{covering-ranked}
use Rattle.policy_args.proofs.policy.Policy.covering.Goals as goal

pub returns : goal.returns
returns c =
    let entries = c.self.inside.entries.items in
    subst (λ (p : Policy). AreCovering p.entries c.args.name.now c.covering.result) c.self.view_is
    (covering-ranked entries c.args.name.now c.covering.result (c.covering.ensures (ranked entries) c.self.invariant.4))
