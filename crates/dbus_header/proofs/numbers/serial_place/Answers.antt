use Rattle.std.proofs.Common.{arith}
use Rattle.dbus_header.proofs.NumberLaws.{serial_at}
use Rattle.dbus_header.proofs.numbers.serial_place.Goals as goal

pub returns : goal.returns
returns c = serial_at c.args.bytes.now (λ i. omega (arith, c.type_inv.bytes i)) c.requires
