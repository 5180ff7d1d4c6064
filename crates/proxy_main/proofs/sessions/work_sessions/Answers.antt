use Rattle.std.proofs.Common.{[], ◌∷◌, ◌++◌, ◌∙◌, ℕ, List, Some, ap, sym}
use Rattle.std.proofs.lemmas.Result.{IfErr-weaker, IfOk-weaker}
use Rattle.recording.specs.SessionsSeen.{sessions_seen}
use Rattle.proxy_main.specs.Words.{ListSessions}
use Rattle.proxy_main.specs.Answers.{answer_to, IsSettled}
use Rattle.proxy_main.specs.FilesRead.{needed}
use Rattle.proxy_main.proofs.Contained.{caused_more, keeps_as}
use Rattle.proxy_main.proofs.Endings.{done_as}
use Rattle.proxy_main.proofs.Needed.{needed_until, reads_needed}
use Rattle.proxy_main.proofs.OfSessions.{list_loaded, list_stops}
use Rattle.proxy_main.proofs.OneFile.{one_needed}
use Rattle.proxy_main.proofs.ReadFiles.{none_named, recording_stops, work_ends}
use Rattle.proxy_main.proofs.sessions.work_sessions.Goals as goal

pub returns-in-Ok-clause-done : goal.returns-in-Ok-clause-done
returns-in-Ok-clause-done g c =
    IfOk-weaker c.write_listing.result _ _ (λ status h. done_as _ _ _ _ status.code (list_loaded (g.F.Files.view c.args.files.now).told c.args.recording.now (sessions_seen c.in-Ok.sessions) c.in-Ok.ensures.loads) h) c.write_listing.ensures.done

pub returns-in-Ok-clause-stops : goal.returns-in-Ok-clause-stops
returns-in-Ok-clause-stops g c =
    IfErr-weaker c.write_listing.result _ _
    (λ stop h. h (g.F.Files.view c.args.files.now).told (Some (ListSessions c.args.recording.now)) (list_loaded (g.F.Files.view c.args.files.now).told c.args.recording.now (sessions_seen c.in-Ok.sessions) c.in-Ok.ensures.loads)) c.write_listing.ensures.stops

pub returns-in-Ok-clause-cause : goal.returns-in-Ok-clause-cause
returns-in-Ok-clause-cause g c = IfErr-weaker c.write_listing.result _ _ (λ stop h. caused_more _ _ stop h) c.write_listing.ensures.cause

pub returns-in-Ok-clause-keeps : goal.returns-in-Ok-clause-keeps
returns-in-Ok-clause-keeps g c =
    IfErr-weaker c.write_listing.result _ _ (λ stop h. keeps_as _ _ _ _ (list_loaded (g.F.Files.view c.args.files.now).told c.args.recording.now (sessions_seen c.in-Ok.sessions) c.in-Ok.ensures.loads) stop h) c.write_listing.ensures.keeps

pub returns-in-Ok-clause-until : goal.returns-in-Ok-clause-until
returns-in-Ok-clause-until g c =
    work_ends 0 (c.args.recording.now ∷ []) (g.F.Files.view c.args.files.now).reads (g.F.Files.view c.load_sessions.new.files).reads c.load_sessions.ensures.read c.write_listing.result c.write_listing.ensures.work

pub returns-in-Ok-clause-needed : goal.returns-in-Ok-clause-needed
returns-in-Ok-clause-needed g c =
    let told = (g.F.Files.view c.args.files.now).told in
    let command = Some (ListSessions c.args.recording.now) in
    reads_needed (IsSettled (answer_to told command)) (needed told command) (g.F.Files.view c.args.files.now).reads (g.F.Files.view c.load_sessions.new.files).reads
    (c.load_sessions.ensures.read ∙ ap (λ (paths : List (List ℕ)). (g.F.Files.view c.args.files.now).reads ++ paths) (sym (one_needed told c.args.recording.now))) c.write_listing.result

pub returns-in-Err-clause-stops : goal.returns-in-Err-clause-stops
returns-in-Err-clause-stops g c = list_stops (g.F.Files.view c.args.files.now).told c.args.recording.now c.in-Err.stop c.in-Err.ensures.loads

pub returns-in-Err-clause-until : goal.returns-in-Err-clause-until
returns-in-Err-clause-until g c =
    recording_stops 0 [] [] (g.F.Files.view c.args.files.now).reads (g.F.Files.view c.args.files.now).reads (g.F.Files.view c.load_sessions.new.files).reads c.args.recording.now
    (none_named (g.F.Files.view c.args.files.now).reads) c.load_sessions.ensures.read c.in-Err.stop c.in-Err.ensures.at

pub returns-in-Err-clause-needed : goal.returns-in-Err-clause-needed
returns-in-Err-clause-needed g c =
    let told = (g.F.Files.view c.args.files.now).told in
    let command = Some (ListSessions c.args.recording.now) in
    needed_until (IsSettled (answer_to told command)) (needed told command) (g.F.Files.view c.args.files.now).reads (g.F.Files.view c.load_sessions.new.files).reads
    (c.load_sessions.ensures.read ∙ ap (λ (paths : List (List ℕ)). (g.F.Files.view c.args.files.now).reads ++ paths) (sym (one_needed told c.args.recording.now))) c.in-Err.stop
