-- A string's bytes, before they are checked.
use Rattle.std.specs.Prelude.{ℕ, List}
use Rattle.std.specs.Int.{w32}
use Rattle.dbus_values.specs.Reading.{Read, ◌>>=◌, aligned, a_width, ended_by_nul}
use Rattle.dbus_values.specs.declared.Order.{Order}

-- a u32 length, the bytes, one NUL
abbrev pub counted_at : Order → Read (List ℕ)
counted_at order at = do
  start ← aligned 4 at
  n ← a_width order w32 start
  ended_by_nul n.0 n.1
