use Rattle.std.proofs.Common.{◌≡◌, take}
use Rattle.policy_view.proofs.visible.are_equal.Given as goal

abbrev pub invariant-loop-index : goal.invariant-loop-index
invariant-loop-index l = take l.index l.names ≡ take l.index l.other
