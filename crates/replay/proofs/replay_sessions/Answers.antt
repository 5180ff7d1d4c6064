use Rattle.std.proofs.Common.{◌∙◌, ℕ, List, None, ap, subst}
use Rattle.link_traits.specs.Told.{Part}
use Rattle.policy_args.specs.Seen.{options_seen}
use Rattle.recording.specs.SessionsSeen.{sessions_seen}
use Rattle.replay.specs.SessionsOutput.{noted_in}
use Rattle.replay.specs.Waiting.{named_output}
use Rattle.replay.specs.declared.ReplayFault.TheVariants.{Memory}
use Rattle.replay.proofs.Logs.{same_fault}
use Rattle.replay.proofs.SessionLogs.{no-session-lines, one-refused}
use Rattle.replay.proofs.replay_sessions.Goals as goal

pub returns-in_err-session-clause-whole : goal.returns-in_err-session-clause-whole
returns-in_err-session-clause-whole g c = λ refused. no-session-lines (g.E.Sink.view c.args.err.now).told (noted_in (options_seen c.args.options.now) (sessions_seen c.args.sessions.now))

pub returns-in_err-running-clause-whole : goal.returns-in_err-running-clause-whole
returns-in_err-running-clause-whole g c = λ refused. no-session-lines (g.E.Sink.view c.args.err.now).told (noted_in (options_seen c.args.options.now) (sessions_seen c.args.sessions.now))

pub returns-in_err-write_log-clause-whole : goal.returns-in_err-write_log-clause-whole
returns-in_err-write_log-clause-whole g c =
    λ refused. one-refused (g.E.Sink.view c.args.err.now).told (g.E.Sink.view c.write_log.new.err).told c.in_ok-session.session.notes c.write_log.new.session.notes
    (noted_in (options_seen c.args.options.now) (sessions_seen c.args.sessions.now)) c.in_ok-session.ensures.noted
    (c.write_log.ensures.refused (same_fault c.from_residual-in_err-write_log.result c.write_log.result c.in_err-write_log.field-0.0 Memory c.from_residual-in_err-write_log.ensures.1 c.in_err-write_log.was refused))

pub returns-then-sessions-eq-ONE_SESSION-clause-part : goal.returns-then-sessions-eq-ONE_SESSION-clause-part
returns-then-sessions-eq-ONE_SESSION-clause-part g c =
    subst (λ (bytes : List ℕ). Part (g.O.Sink.view c.args.out.now).told (g.O.Sink.view c.write_output.new.out).told bytes) (ap (named_output None) c.in_ok-write_log.ensures.session ∙ c.in_ok-session.ensures.output) c.write_output.ensures.part
