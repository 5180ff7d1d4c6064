use Rattle.std.proofs.Common.{arith}
use Rattle.dbus_header.proofs.NumberLaws.{message_of-is}
use Rattle.dbus_header.proofs.bodies.is_valid.Goals as goal

pub returns : goal.returns
returns c = λ m is. (message_of-is c.args.bytes.now m (λ i. omega (arith, c.type_inv.bytes i)) is).valid
