use Rattle.std.proofs.Common.{◌≡◌, ◌≤◌, ◌⊎◌, false, length, List}
use Rattle.proxy_net.specs.Starters.{is_gone, is_present, is_waiting}
use Rattle.proxy_net.specs.Steps.{Steps, AreWaits}
use Rattle.proxy_net.specs.SystemCalls.{SystemCall}
use Rattle.proxy_net.specs.Sockets.{GoesOn, HasLink, IsTriedTo, IsTried, KeepsEarly, StaysClosed}
use Rattle.proxy_net.proofs.net.MioNet.next.Given as goal

abbrev pub invariant-loop-turn : goal.invariant-loop-turn
invariant-loop-turn g l = record {
  goes : GoesOn l.fn.self.sockets l.self.sockets;
  closed : StaysClosed l.fn.self.sockets l.self.sockets;
  early : KeepsEarly g.S.Sockets.shows l.fn.self.sockets l.self.sockets;
  tried : (l.self.sockets ≡ l.fn.self.sockets) ⊎ IsTried g.S.Sockets.shows l.self.sockets;
  there : is_gone l.self.starter ≡ false;
  present : is_present l.self.starter ≡ is_present l.fn.self.starter;
  once : is_waiting l.fn.self.starter ≡ false → is_waiting l.self.starter ≡ false;
  replaces : l.self.replaces ≡ l.fn.self.replaces;
  asked : Steps (λ (calls : List SystemCall). AreWaits (HasLink l.fn.self.sockets) (IsTriedTo l.fn.self.sockets) l.fn.self.starter l.self.starter false calls × (l._turn ≤ length calls)) (g.S.Sockets.journal l.fn.self.system) (g.S.Sockets.journal l.self.system);
}
