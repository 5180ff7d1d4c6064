use Rattle.std.proofs.Common.{ℕ, ◌≡◌, ◌<◌, ◌++◌, List, Some, drop, slice_get, true, false}
use Rattle.std.specs.Time.{instant_nanos}
use Rattle.std.specs.declared.time.Instant.{Instant}
use Rattle.proxy_net.specs.Steps.{Steps, AreNoteCalls}
use Rattle.proxy_net.specs.Sockets.{GoesOn, HasLink, IsTriedTo, is_link_registered, KeepsNotes, IsReadIf, due_at, is_overdue_at}
use Rattle.proxy_net.proofs.sockets.SocketSet.retry_connects.Given as goal

abbrev pub invariant-loop-tries : goal.invariant-loop-tries
invariant-loop-tries g l = record {
  listeners : l.self.listeners ≡ l.fn.self.listeners;
  goes : GoesOn l.fn.self l.self;
  kept : KeepsNotes l.fn.self l.self;
  reported : IsReadIf (λ _. false) l.fn.self l.self;
  told : ((number : ℕ) → is_link_registered l.fn.self number ≡ true) → Steps (AreNoteCalls (HasLink l.fn.self) (IsTriedTo l.fn.self)) (g.S.Sockets.journal l.fn.system) (g.S.Sockets.journal l.system);
  behind : List ℕ;
  queue : l.self.pending.items ≡ drop l._tries l.fn.self.pending.items ++ behind;
  tried : (place number : ℕ) → place < l._tries → slice_get l.fn.self.pending.items place ≡ Some number → is_overdue_at l.self l.now number ≡ false;
  early : (number : ℕ) (time due : Instant) → l.now ≡ Some time → due_at l.fn.self number ≡ Some due → instant_nanos time < instant_nanos due → due_at l.self number ≡ Some due;
}
