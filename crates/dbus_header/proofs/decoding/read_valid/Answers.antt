use Rattle.std.proofs.Common.{arith}
use Rattle.dbus_header.proofs.NumberLaws.{is_whole}
use Rattle.dbus_header.proofs.decoding.read_valid.Goals as goal

pub order_in-order-requires : goal.order_in-order-requires
order_in-order-requires c = (is_whole c.args.bytes.now (λ i. omega (arith, c.type_inv.bytes i)) c.requires).long

pub header_fields_len-fields_len-requires-clause-long : goal.header_fields_len-fields_len-requires-clause-long
header_fields_len-fields_len-requires-clause-long c = (is_whole c.args.bytes.now (λ i. omega (arith, c.type_inv.bytes i)) c.requires).long

pub header_fields_len-fields_len-requires-clause-head : goal.header_fields_len-fields_len-requires-clause-head
header_fields_len-fields_len-requires-clause-head c = (is_whole c.args.bytes.now (λ i. omega (arith, c.type_inv.bytes i)) c.requires).head

pub header_fields_len-fields_len-requires-clause-whole : goal.header_fields_len-fields_len-requires-clause-whole
header_fields_len-fields_len-requires-clause-whole c = (is_whole c.args.bytes.now (λ i. omega (arith, c.type_inv.bytes i)) c.requires).exact

pub assembled-requires-clause-long : goal.assembled-requires-clause-long
assembled-requires-clause-long c = (is_whole c.args.bytes.now (λ i. omega (arith, c.type_inv.bytes i)) c.requires).long

pub assembled-requires-clause-head : goal.assembled-requires-clause-head
assembled-requires-clause-head c = (is_whole c.args.bytes.now (λ i. omega (arith, c.type_inv.bytes i)) c.requires).head

pub assembled-requires-clause-whole : goal.assembled-requires-clause-whole
assembled-requires-clause-whole c = (is_whole c.args.bytes.now (λ i. omega (arith, c.type_inv.bytes i)) c.requires).exact
