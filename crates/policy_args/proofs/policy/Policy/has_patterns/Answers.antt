use Rattle.std.proofs.Common.{ap, sym, ◌∙◌}
use Rattle.std.specs.List.{list_all}
use Rattle.name_patterns.specs.Patterns.{is_pattern}
use Rattle.policy_args.specs.Policy.{patterns_of}
use Rattle.policy_args.proofs.Distincts.{patterns-valid}
use Rattle.policy_args.proofs.policy.Policy.has_patterns.Goals as goal

pub returns : goal.returns
returns c = ap (λ p. list_all is_pattern (patterns_of p.entries)) (sym c.self.view_is) ∙ patterns-valid c.self.inside.entries.items c.self.invariant.3
