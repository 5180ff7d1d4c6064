use Rattle.std.proofs.Common.{◌≤◌, string_bytes, take}
use Rattle.replay.proofs.SessionLogs.{SessionsLogged}
use Rattle.replay.proofs.session_logging.write_session_log.Given as goal

abbrev pub invariant-loop-noted : goal.invariant-loop-noted
invariant-loop-noted g l = record {
  logged : SessionsLogged (g.E.Sink.view l.fn.err).told (g.E.Sink.view l.err).told (string_bytes l.lines) (take l.noted-index l.notes);
  count : (g.E.Sink.view l.fn.err).faults ≤ (g.E.Sink.view l.err).faults;
}
