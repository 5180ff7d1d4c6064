use Rattle.std.proofs.Common.{◌∙◌, ap}
use Rattle.dbus_values.specs.declared.Order.{Order}
use Rattle.dbus_header.specs.HeaderReading.{number_at}
use Rattle.dbus_header.proofs.WholeMessage.{fields_len_is}
use Rattle.dbus_header.proofs.decoding.header_fields_len.Goals as goal

pub returns : goal.returns
returns c = fields_len_is c.args.bytes.now _ c.requires.head c.requires.whole (c.read_u32.ensures ∙ ap (λ (o : Order). number_at o c.args.bytes.now 12) c.requires.order)
