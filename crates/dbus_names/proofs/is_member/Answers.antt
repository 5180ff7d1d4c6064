use Rattle.std.proofs.Common.{◌∙◌}
use Rattle.dbus_names.proofs.NamesFrom.{member_from}
use Rattle.dbus_names.proofs.is_member.Goals as goal

pub returns-then-text-le-LONGEST_NAME : goal.returns-then-text-le-LONGEST_NAME
returns-then-text-le-LONGEST_NAME c =
    c.is_element.ensures ∙ member_from c.args.text.now c.if-text-le-LONGEST_NAME.true
