-- Why a message wasn't read.
use Rattle.std.specs.Prelude.{Option, Some, None, Result, Ok, Err}
use Rattle.dbus_header.specs.declared.Malformed.{Malformed}

abbrev pub refusal : {A : Type 0} → Result A Malformed → Option Malformed
refusal (Ok read) = None
refusal (Err fault) = Some fault
