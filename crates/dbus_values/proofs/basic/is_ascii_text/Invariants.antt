use Rattle.std.proofs.Common.{◌≡◌, ◌&&◌, drop}
use Rattle.std.specs.List.{list_all}
use Rattle.dbus_names.specs.Names.{is_ascii_text_byte}
use Rattle.dbus_values.proofs.basic.is_ascii_text.Given as goal

abbrev pub invariant-loop-byte : goal.invariant-loop-byte
invariant-loop-byte l = (l.is_good && list_all is_ascii_text_byte (drop l.byte-index l.text)) ≡ list_all is_ascii_text_byte l.text
