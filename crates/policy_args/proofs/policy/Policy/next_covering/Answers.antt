use Rattle.std.proofs.Common.{◌≡◌, ◌≤◌, ℕ, Option, ap, sym, ◌∙◌, subst}
use Rattle.std.specs.Prelude.{IfSome}
use Rattle.policy_args.specs.Covering.{next_covering}
use Rattle.policy_args.specs.EntryRanks.{ranked}
use Rattle.policy_args.proofs.RankedEntries.{next-ranked, next-within}
use Rattle.policy_args.proofs.policy.Policy.next_covering.Goals as goal

pub returns-else-len-le-FEW_ENTRIES-clause-next : goal.returns-else-len-le-FEW_ENTRIES-clause-next
returns-else-len-le-FEW_ENTRIES-clause-next g c =
    let entries = c.self.inside.entries.items in
    c.next_covering.ensures.next (ranked entries) c.self.invariant.4 ∙ next-ranked entries c.args.name.now c.args.from
    ∙ ap (λ p. next_covering p.entries c.args.name.now c.args.from) c.self.view_is

pub returns-else-len-le-FEW_ENTRIES-clause-most : goal.returns-else-len-le-FEW_ENTRIES-clause-most
returns-else-len-le-FEW_ENTRIES-clause-most g c =
    let entries = c.self.inside.entries.items in
    let found : c.next_covering.result ≡ next_covering entries c.args.name.now c.args.from =
    c.next_covering.ensures.next (ranked entries) c.self.invariant.4 ∙ next-ranked entries c.args.name.now c.args.from in
    subst (λ (next : Option ℕ). IfSome next (λ number. number ≤ 65535)) (sym found) (next-within entries c.args.name.now c.args.from 65535 c.requires c.self.invariant.1)
