use Rattle.std.proofs.Common.{ap, sym, ◌∙◌}
use Rattle.std.specs.Prelude.{is_some}
use Rattle.proxy_core.specs.Sessions.{SessionView, waiting_in}
use Rattle.proxy_core.proofs.ReceivingSteps.{role_unanswered, unused, used_one, used_reply}
use Rattle.proxy_core.proofs.Taking.{replies_is, tree}
use Rattle.proxy_core.proofs.session.Session.take_answer.Goals as goal

pub returns-then-not-is_reply-clause-role : goal.returns-then-not-is_reply-clause-role
returns-then-not-is_reply-clause-role c = role_unanswered (tree c.args.message.now) _ _ (replies_is c.args.message.now _ (sym c.is_reply.ensures ∙ c.if-not-is_reply.true))

pub returns-then-not-is_reply-clause-left : goal.returns-then-not-is_reply-clause-left
returns-then-not-is_reply-clause-left c = unused (tree c.args.message.now) c.args.self.now (replies_is c.args.message.now _ (sym c.is_reply.ensures ∙ c.if-not-is_reply.true))

pub returns-in-Some-clause-left : goal.returns-in-Some-clause-left
returns-in-Some-clause-left c =
    ap (λ l. record { mode = c.self.inside.mode; bus_side = c.self.inside.to_bus; client_side = c.self.inside.to_client; ended = c.self.inside.ended; client = c.self.inside.client; bus = c.self.inside.bus; sent = c.self.inside.serials; greeted = c.self.inside.greeted; ledger = l; ids = c.self.inside.tracker; notes = c.self.inside.notes.items; numbered = c.self.inside.numbered; watches = is_some c.self.inside.watch; visible = waiting_in c.self.inside.watch }) c.take.ensures.left
    ∙ ap (λ (v : SessionView). used_one v c.in-Some.serial) c.self.view_is
    ∙ used_reply c.args.message.now c.args.self.now c.in-Some.serial (sym c.is_reply.ensures ∙ c.if-not-is_reply.false) (sym c.reply_serial.ensures.seen ∙ c.in-Some.is)
