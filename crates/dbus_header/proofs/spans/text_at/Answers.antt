use Rattle.std.proofs.Common.{◌∙◌, ap}
use Rattle.std.specs.Str.{is_utf8}
use Rattle.std.proofs.lemmas.Str.{IsUtf8-from_is_utf8}
use Rattle.dbus_header.proofs.spans.text_at.Goals as goal

pub cut-requires : goal.cut-requires
cut-requires c = (c.requires c.in-Some.part c.in-Some.is).inside

pub from_utf8_unchecked-requires : goal.from_utf8_unchecked-requires
from_utf8_unchecked-requires c = IsUtf8-from_is_utf8 c.cut.result.now (ap is_utf8 c.cut.ensures ∙ (c.requires c.in-Some.part c.in-Some.is).utf8)
