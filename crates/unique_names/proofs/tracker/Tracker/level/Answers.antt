use Rattle.std.proofs.Common.{◌∙◌}
use Rattle.unique_names.proofs.Learned.{exact-level}
use Rattle.unique_names.proofs.tracker.Tracker.level.Goals as goal

pub returns-clause-exact : goal.returns-clause-exact
returns-clause-exact c = λ facts taught. c.level_from.ensures ∙ exact-level c.args.self.now c.args.policy.now facts c.args.name.now taught
