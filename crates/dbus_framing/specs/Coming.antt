-- The bytes that weren't taken yet, of a framer or of a piece.
use Rattle.std.specs.Prelude.{ℕ, List}
use Rattle.dbus_framing.specs.declared.messages.Source.{Source}
use Rattle.dbus_framing.specs.declared.messages.Source.TheVariants.{Kept, Passed}

abbrev pub coming_from : Source → List ℕ
coming_from (Kept bytes) = bytes
coming_from (Passed bytes) = bytes
