use Rattle.std.proofs.Common.{sym}
use Rattle.dbus_values.specs.Seen.{place_seen, bytes_seen}
use Rattle.dbus_values.proofs.TextBytes.{counted_utf8}
use Rattle.dbus_values.proofs.texts.text.Goals as goal

pub from_utf8_unchecked-requires : goal.from_utf8_unchecked-requires
from_utf8_unchecked-requires c = counted_utf8 c.args.order (place_seen c.args.at) (bytes_seen (c.in-Some.text, c.in-Some.behind)) (sym c.in-Some.ensures.bytes) c.requires
