use Rattle.std.proofs.Common.{if◌then◌else◌, ap, ◌∙◌}
use Rattle.dbus_names.specs.Names.{is_bus}
use Rattle.policy_args.specs.declared.Level.{Level}
use Rattle.policy_args.specs.declared.Level.TheVariants.{Talk}
use Rattle.policy_args.specs.Policy.{greater}
use Rattle.policy_args.proofs.PolicyLevels.{level-is}
use Rattle.policy_args.proofs.policy.Policy.level_counted.Goals as goal

pub returns-clause-level : goal.returns-clause-level
returns-clause-level g c =
    let name = c.args.name.now in
    c.with_bus.ensures ∙ ap (λ (l : Level). if is_bus name then greater Talk l else l) c.granted.ensures.level ∙ level-is c.args.self.now name
