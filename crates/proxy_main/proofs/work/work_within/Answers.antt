use Rattle.std.proofs.Common.{[], ◌∷◌, Some}
use Rattle.std.proofs.lemmas.Result.{IfOk-weaker}
use Rattle.proxy_main.specs.Words.{Within}
use Rattle.proxy_main.specs.Answers.{answer_to, IsSettled}
use Rattle.proxy_main.specs.FilesRead.{needed}
use Rattle.proxy_main.proofs.Contained.{caused_more, err_weaker, keeps_as}
use Rattle.proxy_main.proofs.Endings.{done_as, work_as}
use Rattle.proxy_main.proofs.Needed.{reads_needed}
use Rattle.proxy_main.proofs.ReadFiles.{work_ends}
use Rattle.proxy_main.proofs.work.work_within.Goals as goal

pub returns-in-Ok-clause-until : goal.returns-in-Ok-clause-until
returns-in-Ok-clause-until g c =
    work_ends 2 (c.args.one.now ∷ c.args.other.now ∷ []) (g.F.Files.view c.args.files.now).reads (g.F.Files.view c.load_policies.new.files).reads c.in-Ok.ensures.read c.write_within.result c.write_within.ensures.work

pub returns-in-Ok-clause-needed : goal.returns-in-Ok-clause-needed
returns-in-Ok-clause-needed g c =
    let told = (g.F.Files.view c.args.files.now).told in
    let command = Some (Within c.args.one.now c.args.other.now) in
    reads_needed (IsSettled (answer_to told command)) (needed told command) (g.F.Files.view c.args.files.now).reads (g.F.Files.view c.load_policies.new.files).reads c.in-Ok.ensures.needed c.write_within.result

pub returns-in-Ok-clause-done : goal.returns-in-Ok-clause-done
returns-in-Ok-clause-done g c = IfOk-weaker c.write_within.result _ _ (λ status h. done_as _ _ _ _ status.code c.in-Ok.ensures.loaded h) c.write_within.ensures.done

pub returns-in-Ok-clause-stops : goal.returns-in-Ok-clause-stops
returns-in-Ok-clause-stops g c =
    err_weaker c.write_within.result _ _
    (λ stop h. h (g.F.Files.view c.args.files.now).told (Some (Within c.args.one.now c.args.other.now)) (λ settled. work_as _ _ c.in-Ok.ensures.loaded tt settled)) c.write_within.ensures.stops

pub returns-in-Ok-clause-cause : goal.returns-in-Ok-clause-cause
returns-in-Ok-clause-cause g c = err_weaker c.write_within.result _ _ (λ stop h. caused_more _ _ stop h) c.write_within.ensures.cause

pub returns-in-Ok-clause-keeps : goal.returns-in-Ok-clause-keeps
returns-in-Ok-clause-keeps g c = err_weaker c.write_within.result _ _ (λ stop h. keeps_as _ _ _ _ c.in-Ok.ensures.loaded stop h) c.write_within.ensures.keeps
