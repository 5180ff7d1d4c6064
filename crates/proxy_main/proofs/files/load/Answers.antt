use Rattle.std.proofs.Common.{[], ◌∷◌}
use Rattle.policy_args.specs.Seen.{options_seen}
use Rattle.recording.specs.Seen.{recording_seen}
use Rattle.proxy_main.proofs.Loading.{loaded_both, stops_policy, stops_recording}
use Rattle.policy_args.specs.Words.{PolicyOptions}
use Rattle.proxy_main.specs.Answers.{checked_recording, then_read as then_check}
use Rattle.proxy_main.proofs.Needed.{both_needed, policy_needed, recording_needed}
use Rattle.proxy_main.proofs.ReadFiles.{then_read, recording_stops, policy_stops}
use Rattle.proxy_main.proofs.files.load.Goals as goal

pub returns-in-Ok-load_recording-clause-loaded : goal.returns-in-Ok-load_recording-clause-loaded
returns-in-Ok-load_recording-clause-loaded g c =
    loaded_both (g.F.Files.view c.args.files.now).told _ c.args.policy.now c.args.recording.now (options_seen c.in-Ok.options) (recording_seen c.in-Ok-load_recording.recording)
    c.in-Ok.ensures.loads (c.load_policy.ensures.kept c.args.recording.now) c.in-Ok-load_recording.ensures.loads

pub returns-in-Err-load_recording-clause-stops : goal.returns-in-Err-load_recording-clause-stops
returns-in-Err-load_recording-clause-stops g c =
    stops_recording (g.F.Files.view c.args.files.now).told _ c.args.policy.now c.args.recording.now (options_seen c.in-Ok.options) c.in-Err-load_recording.stop
    c.in-Ok.ensures.loads (c.load_policy.ensures.kept c.args.recording.now) c.in-Err-load_recording.ensures.loads

pub returns-in-Err-clause-stops : goal.returns-in-Err-clause-stops
returns-in-Err-clause-stops g c = stops_policy (g.F.Files.view c.args.files.now).told c.args.policy.now c.args.recording.now c.in-Err.stop c.in-Err.ensures.loads

pub returns-in-Ok-load_recording-clause-read : goal.returns-in-Ok-load_recording-clause-read
returns-in-Ok-load_recording-clause-read g c =
    then_read (g.F.Files.view c.args.files.now).reads (c.args.policy.now ∷ []) (g.F.Files.view c.load_policy.new.files).reads (g.F.Files.view c.load_recording.new.files).reads c.args.recording.now
    c.load_policy.ensures.read c.load_recording.ensures.read

pub returns-in-Err-load_recording-clause-until : goal.returns-in-Err-load_recording-clause-until
returns-in-Err-load_recording-clause-until g c = λ after.
    recording_stops 1 (c.args.policy.now ∷ []) after (g.F.Files.view c.args.files.now).reads (g.F.Files.view c.load_policy.new.files).reads (g.F.Files.view c.load_recording.new.files).reads c.args.recording.now
    c.load_policy.ensures.read c.load_recording.ensures.read c.in-Err-load_recording.stop c.in-Err-load_recording.ensures.at

pub returns-in-Err-clause-until : goal.returns-in-Err-clause-until
returns-in-Err-clause-until g c = λ after.
    policy_stops 0 (c.args.recording.now ∷ after) (g.F.Files.view c.args.files.now).reads (g.F.Files.view c.load_policy.new.files).reads c.args.policy.now c.load_policy.ensures.read c.in-Err.stop c.in-Err.ensures.at

pub returns-in-Ok-load_recording-clause-needed : goal.returns-in-Ok-load_recording-clause-needed
returns-in-Ok-load_recording-clause-needed g c =
    both_needed (g.F.Files.view c.args.files.now).told c.args.policy.now c.args.recording.now (options_seen c.in-Ok.options) c.in-Ok.ensures.loads
    (g.F.Files.view c.args.files.now).reads (g.F.Files.view c.load_recording.new.files).reads
    (then_read (g.F.Files.view c.args.files.now).reads (c.args.policy.now ∷ []) (g.F.Files.view c.load_policy.new.files).reads (g.F.Files.view c.load_recording.new.files).reads c.args.recording.now
    c.load_policy.ensures.read c.load_recording.ensures.read)

pub returns-in-Err-load_recording-clause-needed_until : goal.returns-in-Err-load_recording-clause-needed_until
returns-in-Err-load_recording-clause-needed_until g c = λ after work.
    recording_needed (g.F.Files.view c.args.files.now).told c.args.policy.now c.args.recording.now (options_seen c.in-Ok.options) c.in-Ok.ensures.loads _ (c.load_policy.ensures.kept c.args.recording.now)
    after (g.F.Files.view c.args.files.now).reads (g.F.Files.view c.load_recording.new.files).reads work
    (then_read (g.F.Files.view c.args.files.now).reads (c.args.policy.now ∷ []) (g.F.Files.view c.load_policy.new.files).reads (g.F.Files.view c.load_recording.new.files).reads c.args.recording.now
    c.load_policy.ensures.read c.load_recording.ensures.read)
    c.in-Err-load_recording.stop c.in-Err-load_recording.ensures.loads

pub returns-in-Err-clause-needed_until : goal.returns-in-Err-clause-needed_until
returns-in-Err-clause-needed_until g c = λ after work.
    policy_needed (g.F.Files.view c.args.files.now).told c.args.policy.now (c.args.recording.now ∷ after) (g.F.Files.view c.args.files.now).reads (g.F.Files.view c.load_policy.new.files).reads
    (λ (options : PolicyOptions). then_check ((g.F.Files.view c.args.files.now).told c.args.recording.now) checked_recording (work options)) c.load_policy.ensures.read c.in-Err.stop c.in-Err.ensures.loads
