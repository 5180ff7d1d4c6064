use Rattle.std.proofs.Common.{sym, ◌∙◌}
use Rattle.dbus_values.proofs.TextBytes.{ascii_is_text}
use Rattle.dbus_values.proofs.basic.is_text.Goals as goal

pub returns-then-is_ascii_text : goal.returns-then-is_ascii_text
returns-then-is_ascii_text c = c.if-is_ascii_text.true ∙ sym (ascii_is_text c.args.text.now c.requires (sym c.is_ascii_text.ensures ∙ c.if-is_ascii_text.true))
