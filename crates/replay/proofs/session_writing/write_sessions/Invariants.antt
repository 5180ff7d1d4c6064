use Rattle.std.proofs.Common.{◌≡◌, ◌≤◌, ◌++◌, ℕ, List, length}
use Rattle.std.specs.List.{AllByRecursion}
use Rattle.link_traits.specs.Told.{added}
use Rattle.replay.specs.SessionsPlayed.{IsShort}
use Rattle.replay.proofs.SessionOutputs.{all_outputs}
use Rattle.replay.proofs.session_writing.write_sessions.Given as goal

abbrev pub invariant-loop-number : goal.invariant-loop-number
invariant-loop-number g l = record {
  written : List ℕ;
  split : all_outputs l.fn.running.entries ≡ written ++ all_outputs l.running.entries;
  got : (g.O.Sink.view l.out).told ≡ added written (g.O.Sink.view l.fn.out).told;
  few : AllByRecursion IsShort l.running.entries;
  count : (g.O.Sink.view l.fn.out).faults ≤ (g.O.Sink.view l.out).faults;
}

abbrev pub decreases-loop-number : goal.decreases-loop-number
decreases-loop-number g l = length l.running.entries
