use Rattle.std.proofs.Common.{◌≡◌, ℕ, None}
use Rattle.proxy_core.specs.Steps.{drained, WentOn, IsLight}
use Rattle.proxy_core.proofs.session.Session.drain.Given as goal

abbrev pub invariant-loop-left : goal.invariant-loop-left
invariant-loop-left l = record {
  same : drained l.policy l.side l.left l.self ≡ drained l.policy l.side l.most l.fn.self;
  runs : l.self.ended ≡ None;
  went : (n : ℕ) × WentOn l.policy l.side n l.fn.self l.self;
  light : IsLight l.policy 0 l.fn.self l.self;
}

abbrev pub decreases-loop-left : goal.decreases-loop-left
decreases-loop-left l = l.left
