use Rattle.dbus_types.proofs.SignatureRead.{signature_of-is}
use Rattle.dbus_types.proofs.read_types_are_spelled.Goals as goal

pub returns : goal.returns
returns c = signature_of-is
