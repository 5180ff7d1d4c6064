use Rattle.std.proofs.Common.{Option, None, ap, sym, ◌∙◌}
use Rattle.std.specs.Option.{option_map}
use Rattle.dbus_values.specs.Reading.{At}
use Rattle.dbus_values.specs.Seen.{place_seen}
use Rattle.dbus_values.specs.Walk.{walk_text}
use Rattle.dbus_values.proofs.WalkLaws.{text_end, text_walked}
use Rattle.dbus_values.proofs.values.text_end.Goals as goal

pub returns-in-Some : goal.returns-in-Some
returns-in-Some c =
    ap (λ (x : Option At). text_end (place_seen c.cursor_at.result) x) (sym (ap (option_map place_seen) c.in-Some.is) ∙ c.text.ensures)
    ∙ ap (λ (a : At). text_end a (walk_text c.args.order a)) c.cursor_at.ensures
    ∙ text_walked c.args.order _

pub returns-in-None : goal.returns-in-None
returns-in-None c =
    sym (ap (λ (a : At). text_end a None) c.cursor_at.ensures)
    ∙ ap (λ (x : Option At). text_end (place_seen c.cursor_at.result) x) (sym (ap (option_map place_seen) c.in-None.is) ∙ c.text.ensures)
    ∙ ap (λ (a : At). text_end a (walk_text c.args.order a)) c.cursor_at.ensures
    ∙ text_walked c.args.order _
