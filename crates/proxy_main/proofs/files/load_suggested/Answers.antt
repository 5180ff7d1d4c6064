use Rattle.std.proofs.Common.{◌∙◌, ◌++◌, ℕ, List, Some, ap, map, refl, subst, sym}
use Rattle.recording.specs.Recording.{Recording}
use Rattle.recording.specs.Seen.{recording_seen}
use Rattle.proxy_main.specs.Words.{Suggest}
use Rattle.proxy_main.specs.Answers.{Agrees, answer_to, suggesting}
use Rattle.proxy_main.proofs.Suggesting.{suggest-stops}
use Rattle.proxy_main.proofs.files.load_suggested.Goals as goal

pub returns-in-Ok-clause-loaded : goal.returns-in-Ok-clause-loaded
returns-in-Ok-clause-loaded g c =
    let told = (g.F.Files.view c.args.files.now).told in
    let ps = map (λ path. path.now) c.args.paths.now in
    let all = c.in-Ok.ensures.loaded told (λ q. refl) in
    subst (λ (xs : List Recording). Agrees (answer_to told (Some (Suggest ps))) (suggesting xs)) (sym (all.1 ∙ ap (λ items. map recording_seen items ++ all.0) c.new-recordings.ensures.items))
    (all.2.loaded suggesting)

pub returns-in-Ok-clause-needed : goal.returns-in-Ok-clause-needed
returns-in-Ok-clause-needed g c =
    let told = (g.F.Files.view c.args.files.now).told in
    let all = c.in-Ok.ensures.loaded told (λ q. refl) in
    c.in-Ok.ensures.read ∙ ap (λ (paths : List (List ℕ)). (g.F.Files.view c.args.files.now).reads ++ paths) (sym all.2.needed)

pub returns-clause-stops : goal.returns-clause-stops
returns-clause-stops g c =
    suggest-stops (g.F.Files.view c.args.files.now).told (map (λ path. path.now) c.args.paths.now) c.in-Err.stop (c.in-Err.ensures.stops (g.F.Files.view c.args.files.now).told (λ q. refl)).stops

pub returns-clause-until : goal.returns-clause-until
returns-clause-until g c = (c.in-Err.ensures.stops (g.F.Files.view c.args.files.now).told (λ q. refl)).until

pub returns-clause-needed : goal.returns-clause-needed
returns-clause-needed g c = (c.in-Err.ensures.stops (g.F.Files.view c.args.files.now).told (λ q. refl)).needed suggesting
