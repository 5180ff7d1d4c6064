use Rattle.std.proofs.Common.{◌≤◌, List, length}
use Rattle.proxy_net.specs.Steps.{Steps, AreInterrupted}
use Rattle.proxy_net.specs.SystemCalls.{SystemCall}
use Rattle.proxy_net.proofs.streams.read_stream.Given as goal

abbrev pub invariant-loop-turn : goal.invariant-loop-turn
invariant-loop-turn g l = Steps (λ (calls : List SystemCall). AreInterrupted l.stream.number calls × (l._turn ≤ length calls)) (g.S.Sockets.journal l.fn.system) (g.S.Sockets.journal l.system)
