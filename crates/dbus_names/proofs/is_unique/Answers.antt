use Rattle.std.proofs.Common.{◌∙◌, ◌≡◌, get_or, arith}
use Rattle.dbus_names.proofs.NamesFrom.{unique_from, first_and_others}
use Rattle.dbus_names.proofs.is_unique.Goals as goal

pub returns-then-text-le-LONGEST_NAME : goal.returns-then-text-le-LONGEST_NAME
returns-then-text-le-LONGEST_NAME c =
    let colon : get_or c.args.text.now 0 0 ≡ 58 = omega arith in
    c.has_two_elements.ensures
    ∙ unique_from c.args.text.now _ _ (first_and_others c.args.text.now (omega arith)) colon c.if-text-le-LONGEST_NAME.true
