use Rattle.std.proofs.Common.{codes, map, sym, ◌∙◌}
use Rattle.byte_lists.proofs.Bytes.{bytes_eq-true}
use Rattle.dbus_values.specs.Bodies.{three_of}
use Rattle.dbus_values.specs.Values.{type_of}
use Rattle.dbus_header.specs.Contents.{message_in}
use Rattle.dbus_header.specs.Message.{Message}
use Rattle.dbus_header.specs.Read.{message_seen}
use Rattle.dbus_header.proofs.MessageBodies.{differ, has-body-of, place_of_body, read-body-of, signature-read, three-none, three-told}
use Rattle.dbus_header.proofs.MessageIn.{is-spelled}
use Rattle.dbus_header.proofs.message.Message.three_texts.Goals as goal

pub texts3-requires : goal.texts3-requires
texts3-requires c =
    has-body-of c.args.self.now.bytes.now (message_seen c.args.self.now) (codes "sss")
    (bytes_eq-true c.args.self.now.signature.bytes.now (codes "sss") (sym c.is_signed.ensures ∙ c.if-is_signed.true)) c.args.self.now.read c.is_valid.ensures

pub returns-then-is_signed : goal.returns-then-is_signed
returns-then-is_signed c =
    let m : Message = message_in c.args.self.now.bytes.now in
    let is = is-spelled c.args.self.now.bytes.now (message_seen c.args.self.now) c.args.self.now.read in
    three-told (three_of m.body) c.texts3.result _
    (c.texts3.ensures (place_of_body m) (map type_of m.body) m.body
    (read-body-of c.args.self.now.bytes.now (message_seen c.args.self.now) m (codes "sss")
    (bytes_eq-true c.args.self.now.signature.bytes.now (codes "sss") (sym c.is_signed.ensures ∙ c.if-is_signed.true)) c.args.self.now.read c.is_valid.ensures is))

pub returns-else-is_signed : goal.returns-else-is_signed
returns-else-is_signed c =
    let m : Message = message_in c.args.self.now.bytes.now in
    let is = is-spelled c.args.self.now.bytes.now (message_seen c.args.self.now) c.args.self.now.read in
    let typed = signature-read c.args.self.now.bytes.now (message_seen c.args.self.now) m is c.args.self.now.read in
    sym (three-none m.body (λ e. differ c.args.self.now.signature.bytes.now (codes "sss") (sym c.is_signed.ensures ∙ c.if-is_signed.false) (typed ∙ e)))
