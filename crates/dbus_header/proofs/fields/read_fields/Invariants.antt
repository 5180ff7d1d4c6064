use Rattle.std.proofs.Common.{◌-◌, length}
use Rattle.dbus_header.specs.KnownHeaders.{AllBeginAt}
use Rattle.dbus_header.specs.Seen.{fields_seen}
use Rattle.dbus_header.proofs.HeaderFields.{Reached}
use Rattle.dbus_header.proofs.fields.read_fields.Given as goal

abbrev pub invariant-loop-found : goal.invariant-loop-found
invariant-loop-found l = Reached l.order l.bytes (fields_seen l.fields) l.place × AllBeginAt l.bytes l.fields

abbrev pub decreases-loop-found : goal.decreases-loop-found
decreases-loop-found l = length l.bytes - l.place
