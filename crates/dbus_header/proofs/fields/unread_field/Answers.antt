use Rattle.std.proofs.Common.{◌∙◌, sym, ap, [], ◌∷◌}
use Rattle.dbus_types.specs.Signature.{variant}
use Rattle.dbus_header.specs.HeaderReading.{unread_to}
use Rattle.dbus_header.proofs.fields.unread_field.Goals as goal

pub returns-in-Ok-clause-part : goal.returns-in-Ok-clause-part
returns-in-Ok-clause-part c = ap unread_to (sym c.in-Ok.is ∙ c.value_end.ensures (variant ∷ []) c.variant_signature.ensures)

pub returns-in-Err-clause-part : goal.returns-in-Err-clause-part
returns-in-Err-clause-part c = ap unread_to (sym c.in-Err.is ∙ c.value_end.ensures (variant ∷ []) c.variant_signature.ensures)
