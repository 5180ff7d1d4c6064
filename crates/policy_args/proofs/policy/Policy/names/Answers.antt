use Rattle.std.proofs.Common.{ap, ◌∙◌}
use Rattle.std.specs.Prelude.{◌&&◌, bytes_eq}
use Rattle.std.specs.List.{list_any}
use Rattle.policy_args.specs.EntryRanks.{ranked}
use Rattle.policy_args.proofs.RankedEntries.{named-ranked}
use Rattle.policy_args.proofs.policy.Policy.names.Goals as goal

pub returns : goal.returns
returns c =
    let entries = c.self.inside.entries.items in
    let name = c.args.name.now in
    c.is_named.ensures (ranked entries) c.self.invariant.4 ∙ named-ranked entries name
    ∙ ap (λ p. list_any (λ e. e.pattern.exact && bytes_eq e.pattern.name name) p.entries) c.self.view_is
