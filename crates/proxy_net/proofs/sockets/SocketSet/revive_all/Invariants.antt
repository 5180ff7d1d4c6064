use Rattle.std.proofs.Common.{ℕ, ◌≡◌, ◌<◌, false, vec_len}
use Rattle.proxy_net.specs.Sockets.{GoesOn, is_stalled_at}
use Rattle.proxy_net.proofs.sockets.SocketSet.revive_all.Given as goal

abbrev pub invariant-loop-place : goal.invariant-loop-place
invariant-loop-place g l = record {
  goes : GoesOn l.fn.self l.self;
  number : vec_len l.self.listeners ≡ vec_len l.fn.self.listeners;
  links : l.self.links ≡ l.fn.self.links;
  revived : (other : ℕ) → other < l.place → is_stalled_at l.self other ≡ false;
}
