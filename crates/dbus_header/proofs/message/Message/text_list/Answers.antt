use Rattle.std.proofs.Common.{codes, map, sym, ◌∙◌}
use Rattle.byte_lists.proofs.Bytes.{bytes_eq-true}
use Rattle.dbus_values.specs.Values.{type_of}
use Rattle.dbus_header.specs.Contents.{message_in}
use Rattle.dbus_header.specs.Message.{Message}
use Rattle.dbus_header.specs.Read.{message_seen}
use Rattle.dbus_header.proofs.MessageBodies.{differ, has-body-of, list-none, place_of_body, read-body-of, signature-read}
use Rattle.dbus_header.proofs.MessageIn.{is-spelled}
use Rattle.dbus_header.proofs.message.Message.text_list.Goals as goal

pub text_list-requires : goal.text_list-requires
text_list-requires c =
    has-body-of c.args.self.now.bytes.now (message_seen c.args.self.now) (codes "as")
    (bytes_eq-true c.args.self.now.signature.bytes.now (codes "as") (sym c.is_signed.ensures ∙ c.if-is_signed.true)) c.args.self.now.read c.is_valid.ensures

pub returns-then-is_signed : goal.returns-then-is_signed
returns-then-is_signed c =
    let m : Message = message_in c.args.self.now.bytes.now in
    let is = is-spelled c.args.self.now.bytes.now (message_seen c.args.self.now) c.args.self.now.read in
    sym (c.text_list.ensures (place_of_body m) (map type_of m.body) m.body
    (read-body-of c.args.self.now.bytes.now (message_seen c.args.self.now) m (codes "as")
    (bytes_eq-true c.args.self.now.signature.bytes.now (codes "as") (sym c.is_signed.ensures ∙ c.if-is_signed.true)) c.args.self.now.read c.is_valid.ensures is))

pub returns-else-is_signed : goal.returns-else-is_signed
returns-else-is_signed c =
    let m : Message = message_in c.args.self.now.bytes.now in
    let is = is-spelled c.args.self.now.bytes.now (message_seen c.args.self.now) c.args.self.now.read in
    let typed = signature-read c.args.self.now.bytes.now (message_seen c.args.self.now) m is c.args.self.now.read in
    sym (list-none m.body (λ e. differ c.args.self.now.signature.bytes.now (codes "as") (sym c.is_signed.ensures ∙ c.if-is_signed.false) (typed ∙ e)))
