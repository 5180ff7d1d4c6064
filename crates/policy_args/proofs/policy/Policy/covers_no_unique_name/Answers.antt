use Rattle.std.proofs.Common.{ap, sym, ◌∙◌}
use Rattle.std.specs.List.{list_any}
use Rattle.name_patterns.specs.Patterns.{covers}
use Rattle.policy_args.proofs.Distincts.{none-unique}
use Rattle.policy_args.proofs.policy.Policy.covers_no_unique_name.Goals as goal

pub returns : goal.returns
returns c = λ name unique.
    ap (λ p. list_any (λ e. covers e.pattern name) p.entries) (sym c.self.view_is) ∙ none-unique c.self.inside.entries.items name c.self.invariant.3 unique
