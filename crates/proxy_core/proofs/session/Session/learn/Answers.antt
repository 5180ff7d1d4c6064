use Rattle.std.proofs.Common.{ap, sym, ◌∙◌}
use Rattle.policy_view.specs.Shown.{BusRole}
use Rattle.proxy_core.specs.Messages.{with_told}
use Rattle.proxy_core.proofs.ReceivingSteps.{learned_answer, role_call, role_other, role_signal}
use Rattle.proxy_core.proofs.Taking.{kind_number, on_ok, replies_is, tree}
use Rattle.proxy_core.proofs.session.Session.learn.Goals as goal

pub returns-then-is_reply-clause-ok : goal.returns-then-is_reply-clause-ok
returns-then-is_reply-clause-ok c =
    on_ok c.learn_answer.result _ _ (λ is. is ∙ learned_answer c.args.policy.now c.args.message.now c.args.answered.now c.args.self.now (sym c.is_reply.ensures ∙ c.if-is_reply.true)) c.learn_answer.ensures.ok

pub returns-then-is_method_call-clause-ok : goal.returns-then-is_method_call-clause-ok
returns-then-is_method_call-clause-ok c =
    on_ok c.learn_call.result _ _ (λ is. is ∙ ap (λ (r : BusRole). with_told c.args.policy.now (tree c.args.message.now) r c.args.self.now) (sym (role_call (tree c.args.message.now) c.args.answered.now (kind_number c.args.message.now 1 (sym c.is_method_call.ensures ∙ c.if-is_method_call.true))))) c.learn_call.ensures.ok

pub returns-then-is_signal-clause-ok : goal.returns-then-is_signal-clause-ok
returns-then-is_signal-clause-ok c =
    on_ok c.learn_signal.result _ _ (λ is. is ∙ ap (λ (r : BusRole). with_told c.args.policy.now (tree c.args.message.now) r c.args.self.now) (sym (role_signal (tree c.args.message.now) c.args.answered.now (kind_number c.args.message.now 4 (sym c.is_signal.ensures ∙ c.if-is_signal.true))))) c.learn_signal.ensures.ok

pub returns-else-is_signal-clause-ok : goal.returns-else-is_signal-clause-ok
returns-else-is_signal-clause-ok c =
    ap (λ (r : BusRole). with_told c.args.policy.now (tree c.args.message.now) r c.args.self.now)
    (sym (role_other (tree c.args.message.now) c.args.answered.now (replies_is c.args.message.now _ (sym c.is_reply.ensures ∙ c.if-is_reply.false)) (kind_number c.args.message.now 1 (sym c.is_method_call.ensures ∙ c.if-is_method_call.false)) (kind_number c.args.message.now 4 (sym c.is_signal.ensures ∙ c.if-is_signal.false))))
