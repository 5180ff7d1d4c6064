use Rattle.std.proofs.Common.{◌≡◌, ◌≤◌, drop, length}
use Rattle.out_queue.proofs.queue.OutQueue.took.Given as goal

-- what is left to remove is a prefix of what waits, and the rest follows it
abbrev pub invariant-loop-left : goal.invariant-loop-left
invariant-loop-left l = (l.left ≤ length l.self) × (drop l.left l.self ≡ drop l.n l.initial.self)

abbrev pub decreases-loop-left : goal.decreases-loop-left
decreases-loop-left l = l.left
