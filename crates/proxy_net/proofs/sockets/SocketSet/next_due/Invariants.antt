use Rattle.std.proofs.Common.{ℕ, ◌≡◌, ◌++◌, List}
use Rattle.proxy_net.specs.Sockets.{IsFirstDue}
use Rattle.proxy_net.proofs.sockets.SocketSet.next_due.Given as goal

abbrev pub invariant-loop-number : goal.invariant-loop-number
invariant-loop-number g l = record {
  passed : List ℕ;
  split : l.self.pending.items ≡ passed ++ (l.number-iterator.head.now ++ l.number-iterator.wrapped.now);
  due : IsFirstDue l.self passed l.next;
}
