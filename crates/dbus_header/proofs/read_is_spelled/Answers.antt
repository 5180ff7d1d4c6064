use Rattle.dbus_header.proofs.MessageRead.{front-is}
use Rattle.dbus_header.proofs.read_is_spelled.Goals as goal

pub returns : goal.returns
returns c = λ bytes m rest are read. front-is bytes m rest are read
