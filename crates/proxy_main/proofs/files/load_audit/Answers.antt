use Rattle.std.proofs.Common.{◌∙◌, ◌++◌, ◌∷◌, [], ℕ, List, Some, ap, append_assoc, map, subst, sym}
use Rattle.policy_args.specs.Seen.{options_seen}
use Rattle.recording.specs.Recording.{Recording}
use Rattle.recording.specs.Seen.{recording_seen}
use Rattle.proxy_main.specs.Words.{Audit}
use Rattle.proxy_main.specs.Answers.{Agrees, answer_to, audited}
use Rattle.proxy_main.proofs.ReadFiles.{policy_stops}
use Rattle.proxy_main.proofs.RecordingFiles.{audit_loaded, audit_needed, audit_needed_until, audit_stops, audit_until}
use Rattle.proxy_main.proofs.files.load_audit.Goals as goal

pub returns-in-Ok-load_recordings-clause-loaded : goal.returns-in-Ok-load_recordings-clause-loaded
returns-in-Ok-load_recordings-clause-loaded g c =
    let told = (g.F.Files.view c.args.files.now).told in
    let ps = map (λ path. path.now) c.args.paths.now in
    let all = c.in-Ok-load_recordings.ensures.loaded told (λ q. sym (c.load_policy.ensures.kept q)) in
    subst (λ (xs : List Recording). Agrees (answer_to told (Some (Audit c.args.policy.now ps))) (audited (options_seen c.in-Ok.options) xs)) (sym (all.1 ∙ ap (λ items. map recording_seen items ++ all.0) c.new-recordings.ensures.items))
    (audit_loaded told c.args.policy.now ps [] [] [] (options_seen c.in-Ok.options) c.in-Ok.ensures.loads all.0 all.2)

pub returns-in-Ok-load_recordings-clause-needed : goal.returns-in-Ok-load_recordings-clause-needed
returns-in-Ok-load_recordings-clause-needed g c =
    let told = (g.F.Files.view c.args.files.now).told in
    let ps = map (λ path. path.now) c.args.paths.now in
    let reads = (g.F.Files.view c.args.files.now).reads in
    let all = c.in-Ok-load_recordings.ensures.loaded told (λ q. sym (c.load_policy.ensures.kept q)) in
    audit_needed told c.args.policy.now ps reads (g.F.Files.view c.load_policy.new.files).reads (g.F.Files.view c.load_recordings.new.files).reads (options_seen c.in-Ok.options) c.in-Ok.ensures.loads all.0 all.2
    (c.in-Ok-load_recordings.ensures.read ∙ ap (λ (paths : List (List ℕ)). paths ++ ps) c.load_policy.ensures.read ∙ append_assoc reads (c.args.policy.now ∷ []) ps)

pub returns-in-Ok-clause-stops : goal.returns-in-Ok-clause-stops
returns-in-Ok-clause-stops g c =
    let told = (g.F.Files.view c.args.files.now).told in
    audit_stops told c.args.policy.now (map (λ path. path.now) c.args.paths.now) [] [] [] (options_seen c.in-Ok.options) c.in-Ok.ensures.loads c.in-Err-load_recordings.stop
    (c.in-Err-load_recordings.ensures.stops told (λ q. sym (c.load_policy.ensures.kept q))).stops

pub returns-in-Ok-clause-until : goal.returns-in-Ok-clause-until
returns-in-Ok-clause-until g c =
    let told = (g.F.Files.view c.args.files.now).told in
    audit_until told c.args.policy.now (map (λ path. path.now) c.args.paths.now) (g.F.Files.view c.args.files.now).reads (g.F.Files.view c.load_policy.new.files).reads (g.F.Files.view c.load_recordings.new.files).reads
    (options_seen c.in-Ok.options) c.in-Ok.ensures.loads c.load_policy.ensures.read c.in-Err-load_recordings.stop
    (c.in-Err-load_recordings.ensures.stops told (λ q. sym (c.load_policy.ensures.kept q))).until

pub returns-in-Ok-clause-needed : goal.returns-in-Ok-clause-needed
returns-in-Ok-clause-needed g c =
    let told = (g.F.Files.view c.args.files.now).told in
    audit_needed_until told c.args.policy.now (map (λ path. path.now) c.args.paths.now) (g.F.Files.view c.args.files.now).reads (g.F.Files.view c.load_policy.new.files).reads (g.F.Files.view c.load_recordings.new.files).reads
    (options_seen c.in-Ok.options) c.in-Ok.ensures.loads c.load_policy.ensures.read c.in-Err-load_recordings.stop
    (c.in-Err-load_recordings.ensures.stops told (λ q. sym (c.load_policy.ensures.kept q))).needed

pub returns-clause-until : goal.returns-clause-until
returns-clause-until g c =
    policy_stops 0 (map (λ path. path.now) c.args.paths.now) (g.F.Files.view c.args.files.now).reads (g.F.Files.view c.load_policy.new.files).reads c.args.policy.now c.load_policy.ensures.read c.in-Err.stop c.in-Err.ensures.at
