use Rattle.std.proofs.Common.{ℕ, ◌≡◌, ◌<◌, false, slice_get, vec_len}
use Rattle.proxy_net.specs.Sockets.{GoesOn, KeepsNotes, is_accept_due_at}
use Rattle.proxy_net.proofs.sockets.SocketSet.retry_accepts.Given as goal

abbrev pub invariant-loop-place : goal.invariant-loop-place
invariant-loop-place g l = record {
  goes : GoesOn l.fn.self l.self;
  kept : KeepsNotes l.fn.self l.self;
  number : vec_len l.self.listeners ≡ vec_len l.fn.self.listeners;
  others : (other : ℕ) → is_accept_due_at l.fn.self l.now other ≡ false → slice_get l.self.listeners.items other ≡ slice_get l.fn.self.listeners.items other;
  links : l.self.links ≡ l.fn.self.links;
  retried : (other : ℕ) → other < l.place → is_accept_due_at l.self l.now other ≡ false;
}
