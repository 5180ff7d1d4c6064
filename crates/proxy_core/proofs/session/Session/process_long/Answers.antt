use Rattle.std.proofs.Common.{ℕ, List, take, drop, ap, subst, ◌∙◌}
use Rattle.dbus_header.specs.Contents.{message_in}
use Rattle.dbus_header.specs.Message.{Message as Tree}
use Rattle.dbus_header.specs.declared.message.Message.{Message}
use Rattle.dbus_framing.specs.Framing.{Takes}
use Rattle.proxy_core.specs.Messages.{with_watched_message}
use Rattle.proxy_core.specs.Steps.{TookMessage}
use Rattle.proxy_core.proofs.session.Session.process_long.Goals as goal

pub returns-clause-took : goal.returns-clause-took
returns-clause-took c =
    subst (λ (t : List ℕ). TookMessage (with_watched_message c.args.policy.now c.args.side (message_in t) c.args.self.now) c.args.self.now c.process_message.new.self)
    (ap (λ (m : Message). m.bytes.now) c.new-incoming.ensures ∙ c.checked-message.ensures.bytes ∙ ap (take c.args.len) c.shared-shared.ensures.stays) c.process_message.ensures

pub returns-clause-valid : goal.returns-clause-valid
returns-clause-valid c =
    subst (λ (xs : List ℕ). (m : Tree) × Takes xs (take c.args.len xs) (drop c.args.len xs) m) c.shared-shared.ensures.stays
    (subst (λ (t : List ℕ). (m : Tree) × Takes c.shared-shared.new.self t (drop c.args.len c.shared-shared.new.self) m) c.checked-message.ensures.bytes c.checked-message.ensures.valid)
