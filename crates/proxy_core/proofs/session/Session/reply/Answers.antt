use Rattle.std.proofs.Common.{ℕ, List, Option, ap, sym, ◌∙◌}
use Rattle.dbus_header.specs.Seen.{text_seen}
use Rattle.policy_view.specs.Sent.{Exchange}
use Rattle.reply_ledger.specs.Owed.{one_less}
use Rattle.std.specs.Prelude.{is_some, unwrap_or}
use Rattle.proxy_core.specs.Sessions.{SessionView, waiting_in}
use Rattle.proxy_core.specs.Messages.{with_replied}
use Rattle.proxy_core.proofs.SendingSteps.{other_replies, replied_to}
use Rattle.proxy_core.proofs.Taking.{replies_is, tree}
use Rattle.proxy_core.proofs.session.Session.reply.Goals as goal

pub returns-then-not-is_reply : goal.returns-then-not-is_reply
returns-then-not-is_reply c =
    ap (λ (xs : List Exchange). with_replied xs c.args.self.now)
    (sym (other_replies (tree c.args.message.now) _ (replies_is c.args.message.now _ (sym c.is_reply.ensures ∙ c.if-not-is_reply.true))))

pub returns-in-Some : goal.returns-in-Some
returns-in-Some c =
    ap (λ l. record { mode = c.self.inside.mode; bus_side = c.self.inside.to_bus; client_side = c.self.inside.to_client; ended = c.self.inside.ended; client = c.self.inside.client; bus = c.self.inside.bus; sent = c.self.inside.serials; greeted = c.self.inside.greeted; ledger = l; ids = c.self.inside.tracker; notes = c.self.inside.notes.items; numbered = c.self.inside.numbered; watches = is_some c.self.inside.watch; visible = waiting_in c.self.inside.watch }) c.answer.ensures.left
    ∙ ap (λ (v : SessionView). record v { ledger = record v.ledger { owed = one_less v.ledger.owed c.in-Some.destination.now c.unwrap_or.result } }) c.self.view_is
    ∙ replied_to c.args.message.now c.args.self.now c.in-Some.destination.now c.unwrap_or.result (sym c.is_reply.ensures ∙ c.if-not-is_reply.false) (sym c.destination.ensures.seen ∙ ap text_seen c.in-Some.is)
    (c.unwrap_or.ensures ∙ ap (λ (o : Option ℕ). unwrap_or o 0) c.reply_serial.ensures.seen)
