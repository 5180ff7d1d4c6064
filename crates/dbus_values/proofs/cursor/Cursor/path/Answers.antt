use Rattle.std.proofs.Common.{sym, ◌∙◌}
use Rattle.dbus_values.specs.Seen.{place_seen, bytes_seen}
use Rattle.dbus_values.proofs.TextBytes.{path_walked}
use Rattle.dbus_values.proofs.cursor.Cursor.path.Goals as goal

pub returns-then-is_path : goal.returns-then-is_path
returns-then-is_path c =
    sym (path_walked c.args.order (place_seen c.args.self) (bytes_seen (c.in_ok-text.text, c.in_ok-text.behind)) c.in_ok-text.ensures.short (sym c.in_ok-text.ensures.bytes) (sym c.is_path.ensures ∙ c.if-is_path.true))
