use Rattle.std.proofs.Common.{◌∙◌, sym, arith}
use Rattle.dbus_names.proofs.NamesFrom.{element_from, first_and_others}
use Rattle.dbus_names.proofs.is_element.Goals as goal

pub returns-then-is_among : goal.returns-then-is_among
returns-then-is_among c =
    c.are_among.ensures
    ∙ element_from c.args.first c.args.rest c.args.text.now _ _ (first_and_others c.args.text.now (omega arith)) (sym c.is_among.ensures ∙ c.if-is_among.true)
