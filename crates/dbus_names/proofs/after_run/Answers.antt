use Rattle.std.proofs.Common.{◌∙◌}
use Rattle.dbus_names.proofs.Runs.{run_passed_over}
use Rattle.dbus_names.proofs.after_run.Goals as goal

pub returns : goal.returns
returns c = c.after_all.ensures ∙ run_passed_over c.args.kinds c.args.separator c.after_fours.result.now c.args.text.now c.requires.kinds c.requires.separator c.after_fours.ensures
