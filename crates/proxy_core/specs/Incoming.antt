-- The message that was received.
use Rattle.dbus_header.specs.Message.{Message}
use Rattle.dbus_header.specs.Contents.{message_in}
use Rattle.proxy_core.specs.declared.incoming.Incoming.{Incoming}

abbrev pub incoming_message : Incoming → Message
incoming_message incoming = message_in incoming.message.now.bytes.now
