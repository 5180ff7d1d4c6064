use Rattle.std.proofs.Common.{sym, ◌∙◌}
use Rattle.dbus_names.proofs.Runs.{four_more}
use Rattle.dbus_names.proofs.after_fours.Goals as goal

pub loop-left-preserved : goal.loop-left-preserved
loop-left-preserved c = four_more c.args.kinds c.loop-left.left.now c.args.text.now c.in-len4-up.len_at_least (sym c.are_alike.ensures ∙ c.if-not-are_alike.false) c.loop-left.invariant
