use Rattle.proxy_net.specs.Delays.{nanos_of}
use Rattle.proxy_net.specs.Sockets.{IsFirstLeft}
use Rattle.proxy_net.proofs.sockets.SocketSet.accept_delay.Given as goal

abbrev pub invariant-loop-place : goal.invariant-loop-place
invariant-loop-place g l = IsFirstLeft l.self l.now l.place (nanos_of l.first)
