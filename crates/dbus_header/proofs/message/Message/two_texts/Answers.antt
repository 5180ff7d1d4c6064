use Rattle.std.proofs.Common.{map}
use Rattle.dbus_values.specs.Values.{type_of}
use Rattle.dbus_header.specs.Contents.{message_in}
use Rattle.dbus_header.specs.Message.{Message}
use Rattle.dbus_header.specs.Read.{message_seen}
use Rattle.dbus_header.proofs.MessageBodies.{has-body, place_of_body, read-body}
use Rattle.dbus_header.proofs.MessageIn.{is-spelled}
use Rattle.dbus_header.proofs.message.Message.two_texts.Goals as goal

pub two_texts-requires : goal.two_texts-requires
two_texts-requires c = has-body c.args.self.now.bytes.now (message_seen c.args.self.now) c.args.self.now.read c.is_valid.ensures

pub returns : goal.returns
returns c =
    let m : Message = message_in c.args.self.now.bytes.now in
    let is = is-spelled c.args.self.now.bytes.now (message_seen c.args.self.now) c.args.self.now.read in
    c.two_texts.ensures (place_of_body m) (map type_of m.body) m.body
    (read-body c.args.self.now.bytes.now (message_seen c.args.self.now) m c.args.self.now.read c.is_valid.ensures is)
