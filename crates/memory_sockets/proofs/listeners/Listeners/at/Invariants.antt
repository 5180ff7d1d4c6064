use Rattle.std.proofs.Common.{◌≡◌, find, length}
use Rattle.memory_sockets.specs.Listeners.{is_bound_at}
use Rattle.memory_sockets.proofs.listeners.Listeners.at.Given as goal

abbrev pub invariant-loop-rest : goal.invariant-loop-rest
invariant-loop-rest l = find (is_bound_at l.path) l.rest ≡ find (is_bound_at l.path) l.self.listeners.items

abbrev pub decreases-loop-rest : goal.decreases-loop-rest
decreases-loop-rest l = length l.rest
