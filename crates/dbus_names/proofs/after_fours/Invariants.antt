use Rattle.std.proofs.Common.{length}
use Rattle.dbus_names.specs.Elements.{BehindSome, is_among}
use Rattle.dbus_names.proofs.after_fours.Given as goal

abbrev pub invariant-loop-left : goal.invariant-loop-left
invariant-loop-left l = BehindSome (is_among l.kinds) l.left l.text

abbrev pub decreases-loop-left : goal.decreases-loop-left
decreases-loop-left l = length l.left
