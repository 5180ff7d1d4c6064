use Rattle.std.proofs.Common.{◌≡◌, drop}
use Rattle.memory_sockets.specs.Listeners.{found_from}
use Rattle.memory_sockets.proofs.listeners.Listeners.other_file.Given as goal

abbrev pub invariant-loop-place : goal.invariant-loop-place
invariant-loop-place l = found_from l.path l.place (drop l.place l.self.files.items) ≡ found_from l.path 0 l.self.files.items
