use Rattle.std.proofs.Common.{◌∙◌, ◌++◌, ◌∷◌, [], ap, map}
use Rattle.recording.specs.Seen.{recording_seen}
use Rattle.proxy_main.proofs.RecordingFiles.{first_text, map-more, step_first, step_loaded, step_stops}
use Rattle.proxy_main.proofs.files.+load_recordings.Goals as goal

pub returns-in-Ok-clause-loaded : goal.returns-in-Ok-clause-loaded
returns-in-Ok-clause-loaded g t c =
    step_loaded (g.F.Files.view c.args.files.now).told (g.F.Files.view c.load_recording.new.files).told c.load_recording.ensures.kept _ _ _ [] [] [] (first_text c.args.paths.now _ c.in-len1-up.len_at_least)
    (recording_seen c.in-Ok.recording) c.in-Ok.ensures.loads c.load_recordings.result (map recording_seen c.args.loaded.now.items) (map recording_seen c.push_reserved.new.self.items) _
    (ap (map recording_seen) (c.push_reserved.ensures.items ∙ ap (λ items. items ++ c.in-Ok.recording ∷ []) c.reserve.ensures.items) ∙ map-more recording_seen c.args.loaded.now.items c.in-Ok.recording)
    c.load_recordings.ensures.loaded

pub returns-in-Ok-clause-stops : goal.returns-in-Ok-clause-stops
returns-in-Ok-clause-stops g t c =
    step_stops (g.F.Files.view c.args.files.now).told (g.F.Files.view c.load_recording.new.files).told c.load_recording.ensures.kept _ _ _ (g.F.Files.view c.args.files.now).reads (g.F.Files.view c.load_recording.new.files).reads
    (g.F.Files.view c.load_recordings.new.files).reads (first_text c.args.paths.now _ c.in-len1-up.len_at_least) (recording_seen c.in-Ok.recording) c.in-Ok.ensures.loads c.load_recordings.result
    c.load_recording.ensures.read c.load_recordings.ensures.stops

pub returns-in-Err-clause-stops : goal.returns-in-Err-clause-stops
returns-in-Err-clause-stops g t c =
    step_first (g.F.Files.view c.args.files.now).told _ _ _ (g.F.Files.view c.args.files.now).reads (g.F.Files.view c.load_recording.new.files).reads (first_text c.args.paths.now _ c.in-len1-up.len_at_least)
    c.load_recording.ensures.read c.in-Err.stop c.in-Err.ensures.loads c.in-Err.ensures.at
