use Rattle.std.proofs.Common.{◌≡◌, ◌++◌, take, drop, map}
use Rattle.memory_sockets.specs.Listeners.{unlinked}
use Rattle.memory_sockets.proofs.listeners.unlink_all.Given as goal

abbrev pub invariant-loop-listener : goal.invariant-loop-listener
invariant-loop-listener l = take l.listener-index l.listeners ++ map (unlinked l.path) (drop l.listener-index l.listeners) ≡ map (unlinked l.path) l.fn.listeners
