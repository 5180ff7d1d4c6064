-- What the code's cursors are seen as.
use Rattle.std.specs.Prelude.{ℕ, List}
use Rattle.dbus_values.specs.Reading.{At}
use Rattle.message_text.specs.declared.cursor.Cursor.{Cursor}
use denote.Bor.{Bor}

abbrev pub place_seen : Cursor → At
place_seen c = record { place = c.place; bytes = c.bytes.now }

-- a text, the types that are left, and what follows the value
abbrev pub typed_seen : List ℕ → Bor (List ℕ) × Cursor → List ℕ × List ℕ × At
typed_seen text x = (text, x.0.now, place_seen x.1)

-- a text, and what follows the value
abbrev pub printed_seen : List ℕ → Cursor → List ℕ × At
printed_seen text x = (text, place_seen x)

-- a number, and what follows it
abbrev pub number_seen : ℕ × Bor (List ℕ) → ℕ × List ℕ
number_seen x = (x.0, x.1.now)

abbrev pub rest_seen : Bor (List ℕ) → List ℕ
rest_seen x = x.now

-- bytes, and what follows in the text
abbrev pub bytes_seen : List ℕ → Bor (List ℕ) → List ℕ × List ℕ
bytes_seen out x = (out, x.now)

-- the types that are left, bytes, and what follows in the text
abbrev pub value_seen : List ℕ → Bor (List ℕ) × Bor (List ℕ) → List ℕ × List ℕ × List ℕ
value_seen out x = (x.0.now, out, x.1.now)
