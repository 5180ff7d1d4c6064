use Rattle.std.proofs.Common.{ap, ◌∙◌}
use Rattle.policy_args.specs.Policy.{at_least}
use Rattle.policy_args.specs.declared.Level.TheVariants.{See}
use Rattle.policy_args.proofs.PolicyLevels.{seen_where_covered}
use Rattle.policy_args.proofs.policy.Policy.covers.Goals as goal

pub returns : goal.returns
returns c = c.is_at_least.ensures ∙ ap (at_least See) c.granted_uncounted.ensures ∙ seen_where_covered c.args.self.now.entries c.args.name.now
