use Rattle.std.proofs.Common.{◌∙◌, Option, sym, ap, arith}
use Rattle.std.specs.Prelude.{is_some, option_and_then}
use Rattle.dbus_values.specs.declared.Order.{Order}
use Rattle.dbus_header.specs.Message.{Message, reply_serial, with_number}
use Rattle.dbus_header.specs.Contents.{message_of}
use Rattle.dbus_header.proofs.NumberLaws.{has_message, there, some_true}
use Rattle.dbus_header.proofs.ValidLaws.{Valid-with_reply_serial}
use Rattle.dbus_header.proofs.numbers.set_reply_serial.Goals as goal

pub order_of-order-requires : goal.order_of-order-requires
order_of-order-requires c = has_message c.args.bytes.now c.requires.message

pub returns : goal.returns
returns c = λ m is. (
  c.write_u32.ensures
      ∙ ap (λ (o : Order). with_number o c.reply_serial_place-place.result c.args.serial c.args.bytes.now) (c.order_of-order.ensures.order m is)
      ∙ c.reply_serial_place-place.ensures.patched c.args.serial m is,
  (
      let x = there (reply_serial m) (ap (λ (o : Option Message). is_some (option_and_then reply_serial o)) (sym is) ∙ some_true (option_and_then reply_serial (message_of c.args.bytes.now)) c.requires.message) in
      Valid-with_reply_serial c.args.serial x.0 m c.requires.serial (omega (arith, c.ranges.serial)) x.1 (c.order_of-order.ensures.valid m is)
      ),
)
