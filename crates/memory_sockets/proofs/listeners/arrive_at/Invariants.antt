use Rattle.std.proofs.Common.{◌≡◌, ◌++◌, take, drop, map}
use Rattle.memory_sockets.specs.Listeners.{reached}
use Rattle.memory_sockets.proofs.listeners.arrive_at.Given as goal

abbrev pub invariant-loop-listener : goal.invariant-loop-listener
invariant-loop-listener l = take l.listener-index l.listeners ++ map (reached l.path) (drop l.listener-index l.listeners) ≡ map (reached l.path) l.fn.listeners
