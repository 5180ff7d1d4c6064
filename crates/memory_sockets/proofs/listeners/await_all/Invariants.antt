use Rattle.std.proofs.Common.{◌≡◌, ◌++◌, take, drop, map}
use Rattle.memory_sockets.specs.Listeners.{awaited}
use Rattle.memory_sockets.proofs.listeners.await_all.Given as goal

abbrev pub invariant-loop-listener : goal.invariant-loop-listener
invariant-loop-listener l = take l.listener-index l.listeners ++ map (awaited l.number) (drop l.listener-index l.listeners) ≡ map (awaited l.number) l.fn.listeners
