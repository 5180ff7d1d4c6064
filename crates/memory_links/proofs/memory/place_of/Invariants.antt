use Rattle.memory_links.proofs.Placed.{PassedTo}
use Rattle.memory_links.proofs.memory.place_of.Given as goal

abbrev pub invariant-loop-place : goal.invariant-loop-place
invariant-loop-place l = PassedTo l.files l.path l.place
