use Rattle.std.proofs.Common.{sym, ◌∙◌}
use Rattle.dbus_header.specs.Read.{message_seen}
use Rattle.name_filters.proofs.Listed.{place_there}
use Rattle.name_filters.proofs.lists.place_of.Goals as goal

pub unreachable-requires : goal.unreachable-requires
unreachable-requires c = place_there c.args.message.now.bytes.now (message_seen c.args.message.now) c.args.message.now.read c.requires (sym c.reply_serial_place.ensures.seen ∙ c.in-None.is)
