use Rattle.std.proofs.Common.{◌∷◌, Some, map}
use Rattle.proxy_main.specs.Words.{Audit}
use Rattle.proxy_main.specs.Answers.{answer_to, IsSettled}
use Rattle.proxy_main.specs.FilesRead.{needed}
use Rattle.proxy_main.proofs.Needed.{reads_needed}
use Rattle.proxy_main.proofs.ReadFiles.{work_ends}
use Rattle.proxy_main.proofs.work.work_audit.Goals as goal

pub returns-in-Ok-clause-until : goal.returns-in-Ok-clause-until
returns-in-Ok-clause-until g c =
    work_ends 1 (c.args.policy.now ∷ map (λ path. path.now) c.args.recordings.now) (g.F.Files.view c.args.files.now).reads (g.F.Files.view c.load_audit.new.files).reads c.in-Ok.ensures.read c.write_audit.result c.write_audit.ensures.work

pub returns-in-Ok-clause-needed : goal.returns-in-Ok-clause-needed
returns-in-Ok-clause-needed g c =
    let told = (g.F.Files.view c.args.files.now).told in
    let command = Some (Audit c.args.policy.now (map (λ path. path.now) c.args.recordings.now)) in
    reads_needed (IsSettled (answer_to told command)) (needed told command) (g.F.Files.view c.args.files.now).reads (g.F.Files.view c.load_audit.new.files).reads c.in-Ok.ensures.needed c.write_audit.result
