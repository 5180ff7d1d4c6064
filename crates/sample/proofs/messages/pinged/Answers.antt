use Rattle.std.proofs.Common.{◌∙◌, ap}
use Rattle.dbus_values.specs.declared.Order.TheVariants.{Little}
use Rattle.dbus_header.specs.Message.{with_number}
use Rattle.sample.proofs.MessageBytes.{pinged_bytes}
use Rattle.sample.proofs.messages.pinged.Goals as goal

pub returns : goal.returns
returns c = c.write_u32-2.ensures ∙ ap (with_number Little 8 c.args.serial) c.write_u32.ensures ∙ pinged_bytes c.args.reply c.args.serial
