use Rattle.std.proofs.Common.{refl, sym, subst, ◌∙◌}
use Rattle.policy_view.specs.Shown.{BusRole}
use Rattle.proxy_core.specs.Messages.{with_role}
use Rattle.proxy_core.specs.Steps.{TookMessage}
use Rattle.proxy_core.proofs.ReceivingSteps.{names_as, took_or_ends, told_as}
use Rattle.proxy_core.proofs.Taking.{on_ok, tree}
use Rattle.proxy_core.proofs.session.Session.apply_showing.Goals as goal

pub returns-then-is_own_names : goal.returns-then-is_own_names
returns-then-is_own_names c =
    subst (λ (r : BusRole). TookMessage (with_role c.args.policy.now (tree c.args.incoming.now.message.now) r c.args.self.now) c.args.self.now c.process_names.new.self)
    (names_as c.args.incoming.now.message.now c.args.answered.now (sym c.is_own_names.ensures ∙ c.if-is_own_names.true) c.requires.reply) c.process_names.ensures

pub returns : goal.returns
returns c =
    took_or_ends c.learn_and_show-done.result c.goes_on.result _ c.args.self.now c.learn_and_show-done.new.self c.goes_on.new.self c.requires.running
    (on_ok c.learn_and_show-done.result _ _ (λ is. is ∙ told_as c.args.policy.now _ c.args.incoming.now.message.now c.args.answered.now c.args.showing c.args.self.now (sym c.is_own_names.ensures ∙ c.if-is_own_names.false) refl c.requires.role) c.learn_and_show-done.ensures.ok)
    c.learn_and_show-done.ensures.err c.goes_on.ensures.ok c.goes_on.ensures.err
