use Rattle.std.proofs.Common.{◌≡◌, ◌++◌, take, drop, map}
use Rattle.memory_sockets.specs.Listeners.{removed}
use Rattle.memory_sockets.proofs.listeners.remove_all.Given as goal

abbrev pub invariant-loop-file : goal.invariant-loop-file
invariant-loop-file l = take l.file-index l.files ++ map (removed l.path) (drop l.file-index l.files) ≡ map (removed l.path) l.fn.files
