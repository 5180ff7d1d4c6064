use Rattle.std.proofs.Common.{◌≡◌, ◌≤◌, ◌++◌, ℕ, List, length}
use Rattle.link_traits.specs.Told.{added}
use Rattle.replay.specs.Waiting.{with_waiting}
use Rattle.proxy_core.specs.Sessions.{waits_for}
use Rattle.replay.proofs.writing.write_waiting.Given as goal

abbrev pub invariant-loop-side : goal.invariant-loop-side
invariant-loop-side g l = record {
  written : List ℕ;
  split : waits_for l.side l.fn.session ≡ written ++ waits_for l.side l.session;
  got : (g.O.Sink.view l.out).told ≡ added written (g.O.Sink.view l.fn.out).told;
  same : l.session ≡ with_waiting l.side (waits_for l.side l.session) l.fn.session;
  count : (g.O.Sink.view l.fn.out).faults ≤ (g.O.Sink.view l.out).faults;
}

abbrev pub decreases-loop-side : goal.decreases-loop-side
decreases-loop-side g l = length (waits_for l.side l.session)
