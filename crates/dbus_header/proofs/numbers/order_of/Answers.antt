use Rattle.std.proofs.Common.{◌∙◌, arith}
use Rattle.dbus_header.proofs.NumberLaws.{is_whole, message_of-is}
use Rattle.dbus_header.proofs.numbers.order_of.Goals as goal

pub order_in-requires : goal.order_in-requires
order_in-requires c = (is_whole c.args.bytes.now (λ i. omega (arith, c.type_inv.bytes i)) c.requires).long

pub returns-clause-order : goal.returns-clause-order
returns-clause-order c = λ m is. c.order_in.ensures ∙ (message_of-is c.args.bytes.now m (λ i. omega (arith, c.type_inv.bytes i)) is).order_is

pub returns-clause-valid : goal.returns-clause-valid
returns-clause-valid c = λ m is. (message_of-is c.args.bytes.now m (λ i. omega (arith, c.type_inv.bytes i)) is).valid
