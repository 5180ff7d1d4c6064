use Rattle.std.proofs.Common.{[], ◌∷◌, ◌++◌, ◌∙◌, ℕ, List, Some, ap, sym, subst}
use Rattle.std.proofs.lemmas.Result.{IfErr-weaker, IfOk-weaker}
use Rattle.proxy_main.specs.Words.{Compose}
use Rattle.proxy_main.specs.Answers.{Wrote, answer_to, IsSettled}
use Rattle.proxy_main.specs.Loads.{IsDone, Keeps}
use Rattle.proxy_main.specs.FilesRead.{needed}
use Rattle.proxy_main.proofs.Contained.{caused_more, keeps_as}
use Rattle.proxy_main.proofs.Endings.{done_as, work_as}
use Rattle.proxy_main.proofs.Needed.{needed_until, reads_needed}
use Rattle.proxy_main.proofs.OneFile.{one_needed}
use Rattle.proxy_main.proofs.ReadFiles.{none_named, recording_stops, work_ends}
use Rattle.proxy_main.proofs.messages.work_compose.Goals as goal

pub returns-in-Ok-clause-done : goal.returns-in-Ok-clause-done
returns-in-Ok-clause-done g c =
    IfOk-weaker c.write_bytes.result _ _ (λ status h. done_as _ _ _ _ status.code c.in-Ok.ensures.loaded
    (subst (λ (b : List ℕ). IsDone (Wrote b []) (g.O.Sink.view c.args.out.now).told (g.O.Sink.view c.write_bytes.new.out).told status.code) c.deref.ensures.value h)) c.write_bytes.ensures.done

pub returns-in-Ok-clause-stops : goal.returns-in-Ok-clause-stops
returns-in-Ok-clause-stops g c =
    IfErr-weaker c.write_bytes.result _ _
    (λ stop h. h (g.F.Files.view c.args.files.now).told (Some (Compose c.args.path.now)) (λ settled. work_as _ _ c.in-Ok.ensures.loaded tt settled)) c.write_bytes.ensures.stops

pub returns-in-Ok-clause-cause : goal.returns-in-Ok-clause-cause
returns-in-Ok-clause-cause g c = IfErr-weaker c.write_bytes.result _ _ (λ stop h. caused_more _ _ stop h) c.write_bytes.ensures.cause

pub returns-in-Ok-clause-keeps : goal.returns-in-Ok-clause-keeps
returns-in-Ok-clause-keeps g c =
    IfErr-weaker c.write_bytes.result _ _ (λ stop h. keeps_as _ _ _ _ c.in-Ok.ensures.loaded stop
    (subst (λ (b : List ℕ). Keeps (Wrote b []) (g.O.Sink.view c.args.out.now).told (g.O.Sink.view c.write_bytes.new.out).told stop) c.deref.ensures.value h)) c.write_bytes.ensures.keeps

pub returns-in-Ok-clause-until : goal.returns-in-Ok-clause-until
returns-in-Ok-clause-until g c =
    work_ends 0 (c.args.path.now ∷ []) (g.F.Files.view c.args.files.now).reads (g.F.Files.view c.load_composed.new.files).reads c.load_composed.ensures.read c.write_bytes.result c.write_bytes.ensures.work

pub returns-in-Ok-clause-needed : goal.returns-in-Ok-clause-needed
returns-in-Ok-clause-needed g c =
    let told = (g.F.Files.view c.args.files.now).told in
    let command = Some (Compose c.args.path.now) in
    reads_needed (IsSettled (answer_to told command)) (needed told command) (g.F.Files.view c.args.files.now).reads (g.F.Files.view c.load_composed.new.files).reads
    (c.load_composed.ensures.read ∙ ap (λ (paths : List (List ℕ)). (g.F.Files.view c.args.files.now).reads ++ paths) (sym (one_needed told c.args.path.now))) c.write_bytes.result

pub returns-in-Err-clause-until : goal.returns-in-Err-clause-until
returns-in-Err-clause-until g c =
    recording_stops 0 [] [] (g.F.Files.view c.args.files.now).reads (g.F.Files.view c.args.files.now).reads (g.F.Files.view c.load_composed.new.files).reads c.args.path.now
    (none_named (g.F.Files.view c.args.files.now).reads) c.load_composed.ensures.read c.in-Err.stop c.in-Err.ensures.at

pub returns-in-Err-clause-needed : goal.returns-in-Err-clause-needed
returns-in-Err-clause-needed g c =
    let told = (g.F.Files.view c.args.files.now).told in
    let command = Some (Compose c.args.path.now) in
    needed_until (IsSettled (answer_to told command)) (needed told command) (g.F.Files.view c.args.files.now).reads (g.F.Files.view c.load_composed.new.files).reads
    (c.load_composed.ensures.read ∙ ap (λ (paths : List (List ℕ)). (g.F.Files.view c.args.files.now).reads ++ paths) (sym (one_needed told c.args.path.now))) c.in-Err.stop
