use Rattle.std.proofs.Common.{◌∙◌, ap, arith}
use Rattle.dbus_values.specs.declared.Order.{Order}
use Rattle.dbus_header.specs.Message.{with_number}
use Rattle.dbus_header.proofs.ValidLaws.{Valid-with_serial}
use Rattle.dbus_header.proofs.numbers.set_serial.Goals as goal

pub returns : goal.returns
returns c = λ m is. (
  c.write_u32.ensures
      ∙ ap (λ (o : Order). with_number o c.serial_place-place.result c.args.serial c.args.bytes.now) (c.order_of-order.ensures.order m is)
      ∙ c.serial_place-place.ensures.patched c.args.serial m is,
  Valid-with_serial c.args.serial m c.requires.serial (omega (arith, c.ranges.serial)) (c.order_of-order.ensures.valid m is),
)
