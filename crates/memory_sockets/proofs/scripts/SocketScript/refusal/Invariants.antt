use Rattle.std.proofs.Common.{◌≡◌, length}
use Rattle.memory_sockets.specs.Scripts.{refusal_in}
use Rattle.memory_sockets.proofs.scripts.SocketScript.refusal.Given as goal

abbrev pub invariant-loop-rest : goal.invariant-loop-rest
invariant-loop-rest l = refusal_in l.rest l.call l.place ≡ refusal_in l.self.exceptions.items l.call l.place

abbrev pub decreases-loop-rest : goal.decreases-loop-rest
decreases-loop-rest l = length l.rest
