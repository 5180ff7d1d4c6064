use Rattle.std.proofs.Common.{◌∙◌, sym, arith}
use Rattle.dbus_header.proofs.NumberLaws.{reply_at, reply_none, has_message}
use Rattle.dbus_header.proofs.numbers.reply_serial_place.Goals as goal

pub found_place-requires : goal.found_place-requires
found_place-requires c = has_message c.args.bytes.now c.requires

pub returns : goal.returns
returns c = reply_at c.args.bytes.now c.in-Some.place (λ i. omega (arith, c.type_inv.bytes i)) c.requires (sym c.found_place.ensures ∙ c.in-Some.is)

pub unreachable-requires : goal.unreachable-requires
unreachable-requires c = reply_none c.args.bytes.now c.requires (sym c.found_place.ensures ∙ c.in-None.is)
