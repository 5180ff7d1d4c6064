-- Why bytes weren't read as a signature.
use Rattle.std.specs.Prelude.{Option, Some, None, Result, Ok, Err}
use Rattle.dbus_types.specs.declared.BadSignature.{BadSignature}

abbrev pub refusal : {A : Type 0} → Result A BadSignature → Option BadSignature
refusal (Ok signature) = None
refusal (Err why) = Some why
