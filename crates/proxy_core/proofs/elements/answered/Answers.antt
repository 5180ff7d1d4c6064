use Rattle.std.proofs.Common.{sym, ◌∙◌}
use Rattle.proxy_core.proofs.ReceivingSteps.{role_unanswered}
use Rattle.proxy_core.proofs.Taking.{replies_is, tree}
use Rattle.proxy_core.proofs.elements.answered.Goals as goal

pub returns-then-not-is_reply-clause-role : goal.returns-then-not-is_reply-clause-role
returns-then-not-is_reply-clause-role c = role_unanswered (tree c.args.message.now) _ _ (replies_is c.args.message.now _ (sym c.is_reply.ensures ∙ c.if-not-is_reply.true))
