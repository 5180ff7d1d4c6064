use Rattle.std.proofs.Common.{[], ◌∷◌, Some}
use Rattle.policy_args.specs.Seen.{options_seen}
use Rattle.recording.specs.Seen.{recording_seen}
use Rattle.proxy_main.proofs.Loading.{twins_loaded, twins_stop_first, twins_stop_other}
use Rattle.proxy_main.specs.Words.{Twin}
use Rattle.proxy_main.specs.Answers.{answer_to, IsSettled, then_compare}
use Rattle.proxy_main.specs.FilesRead.{needed}
use Rattle.proxy_main.proofs.Needed.{twins_needed, needed_until}
use Rattle.proxy_main.proofs.ReadFiles.{then_read, recording_stops}
use Rattle.proxy_main.proofs.files.load_twins.Goals as goal

pub returns-in-Ok-load_recording-clause-loaded : goal.returns-in-Ok-load_recording-clause-loaded
returns-in-Ok-load_recording-clause-loaded g c =
    twins_loaded (g.F.Files.view c.args.files.now).told _ c.args.policy.now c.args.one.now c.args.other.now (options_seen c.in-Ok.loaded.options) (recording_seen c.in-Ok.loaded.recording)
    (recording_seen c.in-Ok-load_recording.other) c.in-Ok.ensures.loaded (c.load.ensures.kept c.args.other.now) c.in-Ok-load_recording.ensures.loads

pub returns-in-Err-load_recording-clause-stops : goal.returns-in-Err-load_recording-clause-stops
returns-in-Err-load_recording-clause-stops g c =
    twins_stop_other (g.F.Files.view c.args.files.now).told _ c.args.policy.now c.args.one.now c.args.other.now (options_seen c.in-Ok.loaded.options) (recording_seen c.in-Ok.loaded.recording)
    c.in-Err-load_recording.stop c.in-Ok.ensures.options c.in-Ok.ensures.recording (c.load.ensures.kept c.args.other.now) c.in-Err-load_recording.ensures.loads

pub returns-in-Err-clause-stops : goal.returns-in-Err-clause-stops
returns-in-Err-clause-stops g c = twins_stop_first (g.F.Files.view c.args.files.now).told c.args.policy.now c.args.one.now c.args.other.now c.in-Err.stop c.in-Err.ensures.stops

pub returns-in-Ok-load_recording-clause-read : goal.returns-in-Ok-load_recording-clause-read
returns-in-Ok-load_recording-clause-read g c =
    then_read (g.F.Files.view c.args.files.now).reads (c.args.policy.now ∷ c.args.one.now ∷ []) (g.F.Files.view c.load.new.files).reads (g.F.Files.view c.load_recording.new.files).reads c.args.other.now
    c.in-Ok.ensures.read c.load_recording.ensures.read

pub returns-in-Err-load_recording-clause-until : goal.returns-in-Err-load_recording-clause-until
returns-in-Err-load_recording-clause-until g c =
    recording_stops 1 (c.args.policy.now ∷ c.args.one.now ∷ []) [] (g.F.Files.view c.args.files.now).reads (g.F.Files.view c.load.new.files).reads (g.F.Files.view c.load_recording.new.files).reads c.args.other.now
    c.in-Ok.ensures.read c.load_recording.ensures.read c.in-Err-load_recording.stop c.in-Err-load_recording.ensures.at

pub returns-in-Err-clause-until : goal.returns-in-Err-clause-until
returns-in-Err-clause-until g c = c.in-Err.ensures.until (c.args.other.now ∷ [])

pub returns-in-Ok-load_recording-clause-needed : goal.returns-in-Ok-load_recording-clause-needed
returns-in-Ok-load_recording-clause-needed g c =
    twins_needed (g.F.Files.view c.args.files.now).told c.args.policy.now c.args.one.now (options_seen c.in-Ok.loaded.options) c.in-Ok.ensures.options c.args.other.now (recording_seen c.in-Ok.loaded.recording)
    c.in-Ok.ensures.recording (g.F.Files.view c.args.files.now).reads (g.F.Files.view c.load_recording.new.files).reads
    (then_read (g.F.Files.view c.args.files.now).reads (c.args.policy.now ∷ c.args.one.now ∷ []) (g.F.Files.view c.load.new.files).reads (g.F.Files.view c.load_recording.new.files).reads c.args.other.now
    c.in-Ok.ensures.read c.load_recording.ensures.read)

pub returns-in-Err-load_recording-clause-needed : goal.returns-in-Err-load_recording-clause-needed
returns-in-Err-load_recording-clause-needed g c =
    let told = (g.F.Files.view c.args.files.now).told in
    let command = Some (Twin c.args.policy.now c.args.one.now c.args.other.now) in
    needed_until (IsSettled (answer_to told command)) (needed told command) (g.F.Files.view c.args.files.now).reads (g.F.Files.view c.load_recording.new.files).reads
    (twins_needed told c.args.policy.now c.args.one.now (options_seen c.in-Ok.loaded.options) c.in-Ok.ensures.options c.args.other.now (recording_seen c.in-Ok.loaded.recording)
    c.in-Ok.ensures.recording (g.F.Files.view c.args.files.now).reads (g.F.Files.view c.load_recording.new.files).reads
    (then_read (g.F.Files.view c.args.files.now).reads (c.args.policy.now ∷ c.args.one.now ∷ []) (g.F.Files.view c.load.new.files).reads (g.F.Files.view c.load_recording.new.files).reads c.args.other.now
    c.in-Ok.ensures.read c.load_recording.ensures.read))
    c.in-Err-load_recording.stop

pub returns-in-Err-clause-needed : goal.returns-in-Err-clause-needed
returns-in-Err-clause-needed g c = c.in-Err.ensures.needed_until (c.args.other.now ∷ []) (then_compare (g.F.Files.view c.args.files.now).told c.args.other.now)
