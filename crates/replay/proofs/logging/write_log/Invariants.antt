use Rattle.std.proofs.Common.{◌≤◌, List, length, string_bytes}
use Rattle.policy_view.specs.Notes.{Note}
use Rattle.replay.proofs.Logs.{Logged}
use Rattle.replay.proofs.logging.write_log.Given as goal

abbrev pub invariant-loop-note : goal.invariant-loop-note
invariant-loop-note g l = record {
  taken : List Note;
  logged : Logged l.fn.session l.session (g.E.Sink.view l.fn.err).told (g.E.Sink.view l.err).told (string_bytes l.lines) taken;
  count : (g.E.Sink.view l.fn.err).faults ≤ (g.E.Sink.view l.err).faults;
}

abbrev pub decreases-loop-note : goal.decreases-loop-note
decreases-loop-note g l = length l.session.notes
