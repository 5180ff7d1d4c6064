use Rattle.std.proofs.Common.{codes, sym, ◌∙◌}
use Rattle.byte_lists.proofs.Bytes.{bytes_eq-true}
use Rattle.dbus_header.specs.Contents.{message_in}
use Rattle.dbus_header.specs.Message.{Message}
use Rattle.dbus_header.specs.Read.{message_seen}
use Rattle.dbus_header.proofs.MessageBodies.{differ, only-first, only-none, signature-read}
use Rattle.dbus_header.proofs.MessageIn.{is-spelled}
use Rattle.dbus_header.proofs.message.Message.only_text.Goals as goal

pub returns-then-is_signed : goal.returns-then-is_signed
returns-then-is_signed c =
    let m : Message = message_in c.args.self.now.bytes.now in
    let is = is-spelled c.args.self.now.bytes.now (message_seen c.args.self.now) c.args.self.now.read in
    let typed = signature-read c.args.self.now.bytes.now (message_seen c.args.self.now) m is c.args.self.now.read in
    c.first_text.ensures
    ∙ sym (only-first m.body (sym typed ∙ bytes_eq-true c.args.self.now.signature.bytes.now (codes "s") (sym c.is_signed.ensures ∙ c.if-is_signed.true)))

pub returns-else-is_signed : goal.returns-else-is_signed
returns-else-is_signed c =
    let m : Message = message_in c.args.self.now.bytes.now in
    let is = is-spelled c.args.self.now.bytes.now (message_seen c.args.self.now) c.args.self.now.read in
    let typed = signature-read c.args.self.now.bytes.now (message_seen c.args.self.now) m is c.args.self.now.read in
    sym (only-none m.body (λ e. differ c.args.self.now.signature.bytes.now (codes "s") (sym c.is_signed.ensures ∙ c.if-is_signed.false) (typed ∙ e)))
