use Rattle.std.proofs.Common.{[], ◌∷◌, Some, ap, Err, refl}
use Rattle.line_words.proofs.ReadLaws.{read_all}
use Rattle.policy_args.specs.Seen.{options_seen}
use Rattle.recording.specs.SessionsSeen.{sessions_seen}
use Rattle.proxy_main.specs.Words.{Replay}
use Rattle.proxy_main.specs.Answers.{answer_to}
use Rattle.proxy_main.specs.FilesRead.{needed}
use Rattle.proxy_main.proofs.Endings.{done_of, front_of, work_of}
use Rattle.proxy_main.proofs.Logs.{log_early, logged_of, log_front_of, log_lines_of, may_log_played}
use Rattle.proxy_main.proofs.work.work_replay.Goals as goal

pub returns-in-Ok-replay_sessions-clause-done : goal.returns-in-Ok-replay_sessions-clause-done
returns-in-Ok-replay_sessions-clause-done g c =
    done_of (answer_to (g.F.Files.view c.args.files.now).told (Some (Replay c.args.policy.now c.args.recording.now)))
    (options_seen c.in-Ok.loaded.options) (sessions_seen c.in-Ok.loaded.sessions) _ _ c.in-Ok.ensures.loaded c.in-Ok-replay_sessions.ensures.out

pub returns-in-Ok-replay_sessions-clause-logged : goal.returns-in-Ok-replay_sessions-clause-logged
returns-in-Ok-replay_sessions-clause-logged g c =
    logged_of (g.F.Files.view c.args.files.now).told c.args.policy.now c.args.recording.now (options_seen c.in-Ok.loaded.options) (sessions_seen c.in-Ok.loaded.sessions) _ _
    c.in-Ok.ensures.loaded c.in-Ok.ensures.options c.in-Ok-replay_sessions.ensures.log

pub returns-in-Err-Out-clause-stops : goal.returns-in-Err-Out-clause-stops
returns-in-Err-Out-clause-stops g c =
    work_of (answer_to (g.F.Files.view c.args.files.now).told (Some (Replay c.args.policy.now c.args.recording.now)))
    (options_seen c.in-Ok.loaded.options) (sessions_seen c.in-Ok.loaded.sessions) c.in-Ok.ensures.loaded

pub returns-in-Err-Out-clause-keeps : goal.returns-in-Err-Out-clause-keeps
returns-in-Err-Out-clause-keeps g c =
    front_of (answer_to (g.F.Files.view c.args.files.now).told (Some (Replay c.args.policy.now c.args.recording.now)))
    (options_seen c.in-Ok.loaded.options) (sessions_seen c.in-Ok.loaded.sessions) _ _ c.in-Ok.ensures.loaded c.replay_sessions.ensures.part

pub returns-in-Err-Out-clause-log : goal.returns-in-Err-Out-clause-log
returns-in-Err-Out-clause-log g c =
    logged_of (g.F.Files.view c.args.files.now).told c.args.policy.now c.args.recording.now (options_seen c.in-Ok.loaded.options) (sessions_seen c.in-Ok.loaded.sessions) _ _
    c.in-Ok.ensures.loaded c.in-Ok.ensures.options (c.in-Err-Out.ensures.first (ap Err c.in-Err-Out.field-0-is))

pub returns-in-Err-Err-clause-stops : goal.returns-in-Err-Err-clause-stops
returns-in-Err-Err-clause-stops g c = (
  work_of (answer_to (g.F.Files.view c.args.files.now).told (Some (Replay c.args.policy.now c.args.recording.now)))
      (options_seen c.in-Ok.loaded.options) (sessions_seen c.in-Ok.loaded.sessions) c.in-Ok.ensures.loaded,
  may_log_played (g.F.Files.view c.args.files.now).told c.args.policy.now c.args.recording.now (options_seen c.in-Ok.loaded.options) c.in-Ok.ensures.options (c.in-Err-Err.ensures.asked (ap Err c.in-Err-Err.field-0-is)),
)

pub returns-in-Err-Err-clause-log : goal.returns-in-Err-Err-clause-log
returns-in-Err-Err-clause-log g c =
    log_front_of (g.F.Files.view c.args.files.now).told c.args.policy.now c.args.recording.now (options_seen c.in-Ok.loaded.options) (sessions_seen c.in-Ok.loaded.sessions) _ _
    c.in-Ok.ensures.loaded c.in-Ok.ensures.options c.replay_sessions.ensures.log_part

pub returns-in-Ok-clause-log : goal.returns-in-Ok-clause-log
returns-in-Ok-clause-log g c =
    log_lines_of (g.F.Files.view c.args.files.now).told c.args.policy.now c.args.recording.now (options_seen c.in-Ok.loaded.options) (sessions_seen c.in-Ok.loaded.sessions) _ _
    c.in-Ok.ensures.loaded c.in-Ok.ensures.options (c.in-Err-Memory.ensures.whole (ap Err c.in-Err-Memory.field-0-is))

pub returns-clause-log : goal.returns-clause-log
returns-clause-log g c = log_early (g.F.Files.view c.args.files.now).told (Some (Replay c.args.policy.now c.args.recording.now)) _ _ _ c.in-Err.stop c.in-Err.ensures.cause refl

pub returns-in-Ok-clause-until : goal.returns-in-Ok-clause-until
returns-in-Ok-clause-until g c = read_all (c.args.policy.now ∷ c.args.recording.now ∷ []) (g.F.Files.view c.args.files.now).reads (g.F.Files.view c.load_replay.new.files).reads c.in-Ok.ensures.read

pub returns-clause-until : goal.returns-clause-until
returns-clause-until g c = c.in-Err.ensures.until

pub returns-in-Ok-clause-needed : goal.returns-in-Ok-clause-needed
returns-in-Ok-clause-needed g c =
    read_all (needed (g.F.Files.view c.args.files.now).told (Some (Replay c.args.policy.now c.args.recording.now))) (g.F.Files.view c.args.files.now).reads (g.F.Files.view c.load_replay.new.files).reads c.in-Ok.ensures.needed

pub returns-clause-needed : goal.returns-clause-needed
returns-clause-needed g c = c.in-Err.ensures.needed
