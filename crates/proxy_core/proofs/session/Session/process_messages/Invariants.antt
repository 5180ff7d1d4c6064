use Rattle.std.proofs.Common.{◌≡◌, ℕ, None, true}
use Rattle.proxy_core.specs.Seen.{IsLent}
use Rattle.proxy_core.specs.Steps.{drained, with_left, WentOn, IsLight}
use Rattle.proxy_core.proofs.session.Session.process_messages.Given as goal

abbrev pub invariant-loop-left : goal.invariant-loop-left
invariant-loop-left l = record {
  same : drained l.policy l.side l.left (with_left l.side l.messages l.self) ≡ drained l.policy l.side l.most (with_left l.side l.fn.messages l.fn.self);
  runs : l.self.ended ≡ None;
  lent : IsLent l.side l.self;
  filters : l.self.mode.filter ≡ true;
  went : (n : ℕ) × WentOn l.policy l.side n (with_left l.side l.fn.messages l.fn.self) (with_left l.side l.messages l.self);
  light : IsLight l.policy 0 (with_left l.side l.fn.messages l.fn.self) (with_left l.side l.messages l.self);
}

abbrev pub decreases-loop-left : goal.decreases-loop-left
decreases-loop-left l = l.left
