use Rattle.std.proofs.Common.{refl, ap, ◌∙◌}
use Rattle.policy_suggest.specs.Seen.{has, target_seen}
use Rattle.policy_suggest.proofs.SeenTargets.{seen-has}
use Rattle.policy_suggest.proofs.targets.Targets.contains.Goals as goal

pub returns : goal.returns
returns c = c.contains.ensures ∙ seen-has _ (λ a b. refl) c.self.inside.set.keys c.args.target ∙ ap (λ ts. has ts (target_seen c.args.target)) c.self.view_is
