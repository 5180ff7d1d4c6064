use Rattle.std.proofs.Common.{◌≡◌, true}
use Rattle.dbus_header.specs.HeaderReading.{is_text_of}
use Rattle.dbus_header.proofs.Texts.{utf8_of}
use Rattle.dbus_header.proofs.fields.text_field.Goals as goal

pub from_utf8_unchecked-text-requires : goal.from_utf8_unchecked-text-requires
from_utf8_unchecked-text-requires c =
    let good : is_text_of c.args.code c.in-Some.found.0.now ≡ true = cc (c.is_text_of.ensures, c.if-not-is_text_of.false) in
    utf8_of c.args.code c.in-Some.found.0.now good
