-- The models of the code's cursors.
use Rattle.std.specs.Prelude.{ℕ, List}
use Rattle.dbus_values.specs.Reading.{At}
use Rattle.dbus_values.specs.declared.cursor.Cursor.{Cursor}
use denote.Bor.{Bor}

abbrev pub place_seen : Cursor → At
place_seen c = record { place = c.place; bytes = c.bytes.now }

-- bytes, or types, and what follows them
abbrev pub bytes_seen : Bor (List ℕ) × Cursor → List ℕ × At
bytes_seen x = (x.0.now, place_seen x.1)

abbrev pub number_seen : ℕ × Cursor → ℕ × At
number_seen x = (x.0, place_seen x.1)

-- a text, and what follows it
abbrev pub text_seen : Bor (List ℕ) × Cursor → List ℕ × At
text_seen x = (x.0.now, place_seen x.1)

-- two texts, and what follows them
abbrev pub two_seen : (Bor (List ℕ) × Bor (List ℕ)) × Cursor → (List ℕ × List ℕ) × At
two_seen x = ((x.0.0.now, x.0.1.now), place_seen x.1)
