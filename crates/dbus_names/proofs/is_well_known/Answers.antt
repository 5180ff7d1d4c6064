use Rattle.std.proofs.Common.{◌∙◌}
use Rattle.dbus_names.proofs.NamesFrom.{well_known_from}
use Rattle.dbus_names.proofs.is_well_known.Goals as goal

pub returns-then-text-le-LONGEST_NAME : goal.returns-then-text-le-LONGEST_NAME
returns-then-text-le-LONGEST_NAME c =
    c.has_two_elements.ensures ∙ well_known_from c.args.text.now c.if-text-le-LONGEST_NAME.true
