use Rattle.std.proofs.Common.{[], ◌∷◌, Some}
use Rattle.proxy_main.specs.Words.{Twin}
use Rattle.proxy_main.specs.Answers.{answer_to, IsSettled}
use Rattle.proxy_main.specs.FilesRead.{needed}
use Rattle.proxy_main.proofs.Needed.{reads_needed}
use Rattle.proxy_main.proofs.ReadFiles.{work_ends}
use Rattle.proxy_main.proofs.work.work_twin.Goals as goal

pub returns-in-Ok-clause-until : goal.returns-in-Ok-clause-until
returns-in-Ok-clause-until g c =
    work_ends 1 (c.args.policy.now ∷ c.args.one.now ∷ c.args.other.now ∷ []) (g.F.Files.view c.args.files.now).reads (g.F.Files.view c.load_twins.new.files).reads c.in-Ok.ensures.read c.compare.result c.compare.ensures.work

pub returns-in-Ok-clause-needed : goal.returns-in-Ok-clause-needed
returns-in-Ok-clause-needed g c =
    let told = (g.F.Files.view c.args.files.now).told in
    let command = Some (Twin c.args.policy.now c.args.one.now c.args.other.now) in
    reads_needed (IsSettled (answer_to told command)) (needed told command) (g.F.Files.view c.args.files.now).reads (g.F.Files.view c.load_twins.new.files).reads c.in-Ok.ensures.needed c.compare.result
