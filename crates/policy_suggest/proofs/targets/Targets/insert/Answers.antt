use Rattle.std.proofs.Common.{refl, ap, ◌∙◌, map}
use Rattle.std.specs.BTreeSet.{insert_key}
use Rattle.policy_suggest.specs.Seen.{target_seen}
use Rattle.policy_suggest.specs.Suggest.{compare}
use Rattle.policy_suggest.proofs.SeenTargets.{seen-insert}
use Rattle.policy_suggest.proofs.targets.Targets.insert.Goals as goal

pub returns : goal.returns
returns c =
    ap (map target_seen) c.in_ok-insert.ensures.keys ∙ seen-insert _ (λ a b. refl) c.self.inside.set.keys c.args.target
    ∙ ap (λ ts. insert_key compare ts (target_seen c.args.target)) c.self.view_is
