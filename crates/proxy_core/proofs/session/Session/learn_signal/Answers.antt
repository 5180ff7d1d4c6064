use Rattle.std.proofs.Common.{ap, sym, ◌∙◌}
use Rattle.policy_args.specs.declared.fact.Fact.TheVariants.{Met}
use Rattle.policy_view.specs.Past.{fact_of}
use Rattle.proxy_core.specs.Messages.{with_facts}
use Rattle.proxy_core.proofs.ReceivingSteps.{told_broadcast, told_change, told_signal}
use Rattle.proxy_core.proofs.Taking.{on_ok}
use Rattle.proxy_core.proofs.session.Session.learn_signal.Goals as goal

pub returns-then-is_owner_change-clause-ok : goal.returns-then-is_owner_change-clause-ok
returns-then-is_owner_change-clause-ok c =
    on_ok c.learn_change.result _ _ (λ is.
    is ∙ told_change c.args.policy.now c.args.message.now c.args.self.now (sym c.is_owner_change.ensures ∙ c.if-is_owner_change.true)) c.learn_change.ensures.ok

pub returns-then-is_some-clause-ok : goal.returns-then-is_some-clause-ok
returns-then-is_some-clause-ok c =
    on_ok c.learn_met.result _ _ (λ is.
    is ∙ ap (λ id. with_facts c.args.policy.now (fact_of Met id) c.args.self.now) c.unique_sender.ensures
    ∙ told_signal c.args.policy.now c.args.message.now c.args.self.now c.destination.result c.destination.ensures.seen (sym c.is_owner_change.ensures ∙ c.if-is_owner_change.false) (sym c.is_some.ensures ∙ c.if-is_some.true)) c.learn_met.ensures.ok

pub returns-else-is_some-clause-ok : goal.returns-else-is_some-clause-ok
returns-else-is_some-clause-ok c =
    told_broadcast c.args.policy.now c.args.message.now c.args.self.now c.destination.result c.destination.ensures.seen (sym c.is_owner_change.ensures ∙ c.if-is_owner_change.false) (sym c.is_some.ensures ∙ c.if-is_some.false)
