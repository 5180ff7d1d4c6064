use Rattle.std.proofs.Common.{if◌then◌else◌, ap, ◌∙◌}
use Rattle.dbus_names.specs.Names.{is_bus}
use Rattle.policy_args.specs.declared.Level.{Level}
use Rattle.policy_args.specs.declared.Level.TheVariants.{Talk}
use Rattle.policy_args.specs.Policy.{greater}
use Rattle.policy_args.proofs.PolicyLevels.{level-is}
use Rattle.policy_args.proofs.policy.Policy.level.Goals as goal

pub returns : goal.returns
returns c =
    c.with_bus.ensures ∙ ap (λ (l : Level). if is_bus c.args.name.now then greater Talk l else l) c.granted_uncounted.ensures
    ∙ level-is c.args.self.now c.args.name.now
