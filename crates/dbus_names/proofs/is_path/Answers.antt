use Rattle.std.proofs.Common.{◌∙◌, ◌≡◌, ap, get_or, arith}
use Rattle.std.specs.Prelude.{is_some}
use Rattle.dbus_names.proofs.NamesFrom.{path_from, first_and_others}
use Rattle.dbus_names.proofs.is_path.Goals as goal

pub returns-in-47-2 : goal.returns-in-47-2
returns-in-47-2 c =
    let slash : get_or c.args.text.now 0 0 ≡ 47 = omega arith in
    c.is_some.ensures
    ∙ ap is_some c.count_elements.ensures
    ∙ path_from c.args.text.now _ _ (first_and_others c.args.text.now (omega arith)) slash c.in-47-2.len_at_least
