use Rattle.policy_args.specs.Seen.{options_seen}
use Rattle.recording.specs.Seen.{recording_seen}
use Rattle.replay.specs.declared.ReplayFault.TheVariants.{Memory}
use Rattle.replay_output.specs.Output.{log_of_recording}
use Rattle.replay.proofs.Logs.{lines-before, no-lines, same_fault}
use Rattle.replay.proofs.replay.Goals as goal

pub returns-in_err-session-clause-whole : goal.returns-in_err-session-clause-whole
returns-in_err-session-clause-whole g c = λ refused. no-lines (options_seen c.args.options.now) (recording_seen c.args.recording.now) (g.E.Sink.view c.args.err.now).told

pub returns-in_err-write_log-clause-whole : goal.returns-in_err-write_log-clause-whole
returns-in_err-write_log-clause-whole g c =
    λ refused. lines-before (g.E.Sink.view c.args.err.now).told (g.E.Sink.view c.write_log.new.err).told c.in_ok-session.session.notes c.write_log.new.session.notes
    (log_of_recording (options_seen c.args.options.now) (recording_seen c.args.recording.now)) c.in_ok-session.ensures.log
    (c.write_log.ensures.refused (same_fault c.from_residual-in_err-write_log.result c.write_log.result c.in_err-write_log.field-0.0 Memory c.from_residual-in_err-write_log.ensures.1 c.in_err-write_log.was refused))
