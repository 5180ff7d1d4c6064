-- The levels of a pass, as a list.
use Rattle.std.specs.Prelude.{List, take, reverse}
use Rattle.dbus_types.specs.declared.scan.Place.{Place}
use Rattle.dbus_types.specs.declared.level.Level.{Level}
use Rattle.dbus_types.specs.Scan.{Levels}

abbrev pub levels_at : List Level → Place → Levels
levels_at outer place = (place.level, reverse (take place.depth outer))
