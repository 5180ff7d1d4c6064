use Rattle.std.proofs.Common.{ℕ, ◌≡◌, ◌<◌, false}
use Rattle.proxy_net.specs.Sockets.{is_stalled_at}
use Rattle.proxy_net.proofs.sockets.SocketSet.has_stalled.Given as goal

abbrev pub invariant-loop-place : goal.invariant-loop-place
invariant-loop-place g l = (other : ℕ) → other < l.place → is_stalled_at l.self other ≡ false
