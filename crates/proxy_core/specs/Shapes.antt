-- What a message has, by what the client is shown of it: an answer has a REPLY_SERIAL.
use Rattle.std.specs.Prelude.{◌≡◌, IsSome, codes}
use Rattle.dbus_header.specs.Read.{message_seen}
use Rattle.dbus_header.specs.declared.message.Message.{Message}
use Rattle.policy_view.specs.declared.Showing.{Showing}
use Rattle.policy_view.specs.declared.Showing.TheVariants.{Whole, Reply, Cut, Instead, Hide}

abbrev pub ShownBy : Message → Showing → Type 0
ShownBy x Whole = Unit {0}
ShownBy x (Reply serial) = IsSome (message_seen x).parts.reply_serial
ShownBy x (Cut serial) = IsSome (message_seen x).parts.reply_serial × (x.signature.bytes.now ≡ codes "as")
ShownBy x (Instead order reply what) = Unit {0}
ShownBy x (Hide reason) = Unit {0}
