use Rattle.std.proofs.Common.{subst}
use Rattle.dbus_header.specs.Read.{message_seen}
use Rattle.dbus_header.specs.Seen.{AreBusNames}
use Rattle.dbus_header.proofs.BusNames.{destination-read, sender-read}
use Rattle.dbus_header.proofs.names.has_bus_names.Goals as goal

pub returns-clause-destination : goal.returns-clause-destination
returns-clause-destination c =
    subst AreBusNames c.is_read.ensures.destination (destination-read c.args.message.now.bytes.now (message_seen c.args.message.now) c.args.message.now.read c.is_valid.ensures)

pub returns-clause-sender : goal.returns-clause-sender
returns-clause-sender c =
    subst AreBusNames c.is_read.ensures.sender (sender-read c.args.message.now.bytes.now (message_seen c.args.message.now) c.args.message.now.read c.is_valid.ensures)
