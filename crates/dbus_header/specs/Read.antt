-- The model of a message that the code has read.
use Rattle.dbus_header.specs.Contents.{Contents}
use Rattle.dbus_header.specs.Placed.{contents_at}
use Rattle.dbus_header.specs.declared.message.Message.{Message}

abbrev pub message_seen : Message → Contents
message_seen x = contents_at x.order x.kind x.flags x.serial x.fields.now x.places.now x.signature.bytes.now x.body.now
