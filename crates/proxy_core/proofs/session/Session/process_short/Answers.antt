use Rattle.std.proofs.Common.{ℕ, List, drop, ap, subst, ◌∙◌}
use Rattle.dbus_header.specs.Contents.{message_in}
use Rattle.dbus_header.specs.Message.{Message as Tree}
use Rattle.dbus_header.specs.declared.message.Message.{Message}
use Rattle.dbus_framing.specs.Framing.{Takes}
use Rattle.proxy_core.specs.Messages.{with_watched_message}
use Rattle.proxy_core.specs.Steps.{TookMessage}
use Rattle.proxy_core.proofs.session.Session.process_short.Goals as goal

pub returns-clause-took : goal.returns-clause-took
returns-clause-took c =
    subst (λ (t : List ℕ). TookMessage (with_watched_message c.args.policy.now c.args.side (message_in t) c.args.self.now) c.args.self.now c.process_message.new.self)
    (ap (λ (m : Message). m.bytes.now) c.new-incoming.ensures ∙ c.checked-message.ensures.bytes) c.process_message.ensures

pub returns-clause-valid : goal.returns-clause-valid
returns-clause-valid c =
    subst (λ (t : List ℕ). (m : Tree) × Takes c.args.messages.now t (drop c.args.len c.args.messages.now) m) c.checked-message.ensures.bytes c.checked-message.ensures.valid
