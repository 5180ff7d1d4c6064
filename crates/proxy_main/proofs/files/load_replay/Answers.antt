use Rattle.std.proofs.Common.{[], ◌∷◌, Some}
use Rattle.policy_args.specs.Seen.{options_seen}
use Rattle.recording.specs.SessionsSeen.{sessions_seen}
use Rattle.policy_args.specs.Words.{PolicyOptions}
use Rattle.proxy_main.specs.Words.{Replay}
use Rattle.proxy_main.specs.Answers.{answer_to, checked_sessions, replayed, then_read as then_check, IsSettled}
use Rattle.proxy_main.specs.FilesRead.{needed}
use Rattle.proxy_main.proofs.Replaying.{replay_loaded, replay_stops_policy, replay_stops_recording}
use Rattle.proxy_main.proofs.Needed.{both_needed, needed_until, policy_needed}
use Rattle.proxy_main.proofs.ReadFiles.{then_read, recording_stops, policy_stops}
use Rattle.proxy_main.proofs.files.load_replay.Goals as goal

pub returns-in-Ok-load_sessions-clause-loaded : goal.returns-in-Ok-load_sessions-clause-loaded
returns-in-Ok-load_sessions-clause-loaded g c =
    replay_loaded (g.F.Files.view c.args.files.now).told c.args.policy.now c.args.recording.now _ (c.load_policy.ensures.kept c.args.recording.now) (options_seen c.in-Ok.options) c.in-Ok.ensures.loads
    (sessions_seen c.in-Ok-load_sessions.sessions) c.in-Ok-load_sessions.ensures.loads

pub returns-in-Err-load_sessions-clause-stops : goal.returns-in-Err-load_sessions-clause-stops
returns-in-Err-load_sessions-clause-stops g c =
    replay_stops_recording (g.F.Files.view c.args.files.now).told c.args.policy.now c.args.recording.now _ (c.load_policy.ensures.kept c.args.recording.now) (options_seen c.in-Ok.options) c.in-Ok.ensures.loads
    c.in-Err-load_sessions.stop c.in-Err-load_sessions.ensures.loads

pub returns-in-Err-clause-stops : goal.returns-in-Err-clause-stops
returns-in-Err-clause-stops g c = replay_stops_policy (g.F.Files.view c.args.files.now).told c.args.policy.now c.args.recording.now c.in-Err.stop c.in-Err.ensures.loads

pub returns-in-Ok-load_sessions-clause-read : goal.returns-in-Ok-load_sessions-clause-read
returns-in-Ok-load_sessions-clause-read g c =
    then_read (g.F.Files.view c.args.files.now).reads (c.args.policy.now ∷ []) (g.F.Files.view c.load_policy.new.files).reads (g.F.Files.view c.load_sessions.new.files).reads c.args.recording.now
    c.load_policy.ensures.read c.load_sessions.ensures.read

pub returns-in-Err-load_sessions-clause-until : goal.returns-in-Err-load_sessions-clause-until
returns-in-Err-load_sessions-clause-until g c =
    recording_stops 1 (c.args.policy.now ∷ []) [] (g.F.Files.view c.args.files.now).reads (g.F.Files.view c.load_policy.new.files).reads (g.F.Files.view c.load_sessions.new.files).reads c.args.recording.now
    c.load_policy.ensures.read c.load_sessions.ensures.read c.in-Err-load_sessions.stop c.in-Err-load_sessions.ensures.at

pub returns-in-Err-clause-until : goal.returns-in-Err-clause-until
returns-in-Err-clause-until g c =
    policy_stops 0 (c.args.recording.now ∷ []) (g.F.Files.view c.args.files.now).reads (g.F.Files.view c.load_policy.new.files).reads c.args.policy.now c.load_policy.ensures.read c.in-Err.stop c.in-Err.ensures.at

pub returns-in-Ok-load_sessions-clause-needed : goal.returns-in-Ok-load_sessions-clause-needed
returns-in-Ok-load_sessions-clause-needed g c =
    both_needed (g.F.Files.view c.args.files.now).told c.args.policy.now c.args.recording.now (options_seen c.in-Ok.options) c.in-Ok.ensures.loads
    (g.F.Files.view c.args.files.now).reads (g.F.Files.view c.load_sessions.new.files).reads
    (then_read (g.F.Files.view c.args.files.now).reads (c.args.policy.now ∷ []) (g.F.Files.view c.load_policy.new.files).reads (g.F.Files.view c.load_sessions.new.files).reads c.args.recording.now
    c.load_policy.ensures.read c.load_sessions.ensures.read)

pub returns-in-Err-load_sessions-clause-needed : goal.returns-in-Err-load_sessions-clause-needed
returns-in-Err-load_sessions-clause-needed g c =
    let told = (g.F.Files.view c.args.files.now).told in
    let command = Some (Replay c.args.policy.now c.args.recording.now) in
    needed_until (IsSettled (answer_to told command)) (needed told command) (g.F.Files.view c.args.files.now).reads (g.F.Files.view c.load_sessions.new.files).reads
    (both_needed told c.args.policy.now c.args.recording.now (options_seen c.in-Ok.options) c.in-Ok.ensures.loads
    (g.F.Files.view c.args.files.now).reads (g.F.Files.view c.load_sessions.new.files).reads
    (then_read (g.F.Files.view c.args.files.now).reads (c.args.policy.now ∷ []) (g.F.Files.view c.load_policy.new.files).reads (g.F.Files.view c.load_sessions.new.files).reads c.args.recording.now
    c.load_policy.ensures.read c.load_sessions.ensures.read)) c.in-Err-load_sessions.stop

pub returns-in-Err-clause-needed : goal.returns-in-Err-clause-needed
returns-in-Err-clause-needed g c =
    policy_needed (g.F.Files.view c.args.files.now).told c.args.policy.now (c.args.recording.now ∷ []) (g.F.Files.view c.args.files.now).reads (g.F.Files.view c.load_policy.new.files).reads
    (λ (options : PolicyOptions). then_check ((g.F.Files.view c.args.files.now).told c.args.recording.now) checked_sessions (replayed options)) c.load_policy.ensures.read c.in-Err.stop c.in-Err.ensures.loads
