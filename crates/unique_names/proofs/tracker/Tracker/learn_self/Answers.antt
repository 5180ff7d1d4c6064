use Rattle.std.proofs.Common.{[], ◌∷◌, ◌++◌, sym, subst}
use Rattle.std.proofs.lemmas.Result.{on_ok_weaker}
use Rattle.policy_args.specs.declared.fact.Fact.TheVariants.{SelfId}
use Rattle.unique_names.specs.Taught.{Fits, Ids, Taught}
use Rattle.unique_names.proofs.Learned.{learned-fits, learned-taught}
use Rattle.unique_names.proofs.tracker.Tracker.learn_self.Goals as goal

pub returns-clause-taught : goal.returns-clause-taught
returns-clause-taught c =
    on_ok_weaker c.raise.result (λ is facts taught. subst (λ (ids : Ids). Taught ids c.args.policy.now (facts ++ SelfId c.args.id.now ∷ [])) (sym is) (learned-taught c.args.self.now c.args.policy.now facts (SelfId c.args.id.now) taught))
    c.raise.ensures.ok

pub returns-clause-fits : goal.returns-clause-fits
returns-clause-fits c =
    on_ok_weaker c.raise.result (λ is fits. subst (λ (ids : Ids). Fits ids c.args.policy.now) (sym is) (learned-fits c.args.self.now c.args.policy.now (SelfId c.args.id.now) fits)) c.raise.ensures.ok
