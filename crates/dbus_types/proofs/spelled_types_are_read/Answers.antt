use Rattle.dbus_types.proofs.SignatureLaws.{types_of-spelled_types}
use Rattle.dbus_types.proofs.spelled_types_are_read.Goals as goal

pub returns : goal.returns
returns c = types_of-spelled_types
