use Rattle.std.proofs.Common.{◌∙◌}
use Rattle.dbus_names.proofs.Runs.{rest_among}
use Rattle.dbus_names.proofs.are_among.Goals as goal

pub returns : goal.returns
returns c = c.is_each_among.ensures ∙ rest_among c.args.kinds c.after_fours.result.now c.args.text.now c.after_fours.ensures
