use Rattle.std.proofs.Common.{◌≡◌, ◌∙◌, ◌++◌, ℕ, List, [], Option, Some, Result, IfErr, IfOk, OnOk, ap, refl, subst, sym}
use Rattle.proxy_main.specs.Answers.{Answer, IsSettled, answer_to, may_log}
use Rattle.proxy_main.specs.Loads.{IsDone}
use Rattle.proxy_main.specs.Read.{command_of}
use Rattle.proxy_main.specs.declared.words.CommandWords.{CommandWords}
use Rattle.proxy_main.specs.declared.Stop.{Stop}
use Rattle.proxy_main.specs.FilesRead.{paths_of, policies_of, needed, ReadsNeeded, ReadUntil, StopsWork}
use Rattle.proxy_main.proofs.Needed.{none_needed, reads_needed}
use Rattle.proxy_main.proofs.ReadFiles.{unread, work_done, work_ends}
use Rattle.proxy_main.proofs.Logs.{quiet_done, quiet_stop}
use Rattle.proxy_main.proofs.work.work_command.Goals as goal

-- words that are those of a command that names no file
none_named : (words these : CommandWords) (told : List ℕ → Option (List ℕ)) (reads : List (List ℕ)) {A : Type 0} (result : Result A Stop) → words ≡ these → paths_of (Some (command_of these)) ≡ [] →
    ReadsNeeded (IsSettled (answer_to told (Some (command_of words)))) (needed told (Some (command_of words))) reads reads result
none_named words these told reads result is none =
    let command = Some (command_of words) in
    reads_needed (IsSettled (answer_to told command)) (needed told command) reads reads
    (none_needed told command reads (ap (λ (w : CommandWords). paths_of (Some (command_of w))) is ∙ none)) result

-- .. which reads nothing
none_read : (words these : CommandWords) (reads : List (List ℕ)) {A : Type 0} (result : Result A Stop) → words ≡ these → paths_of (Some (command_of these)) ≡ [] →
    OnOk result (reads ≡ reads ++ paths_of (Some (command_of words)))
none_read words these reads result is none =
    work_done 0 (paths_of (Some (command_of words))) reads reads (unread (command_of words) reads (ap (λ (w : CommandWords). paths_of (Some (command_of w))) is ∙ none)) result

none_until : (words these : CommandWords) (reads : List (List ℕ)) {A : Type 0} (result : Result A Stop) → words ≡ these → paths_of (Some (command_of these)) ≡ [] → IfErr result StopsWork →
    IfErr result (ReadUntil (policies_of (Some (command_of words))) (paths_of (Some (command_of words))) reads reads)
none_until words these reads result is none work =
    work_ends (policies_of (Some (command_of words))) (paths_of (Some (command_of words))) reads reads (unread (command_of words) reads (ap (λ (w : CommandWords). paths_of (Some (command_of w))) is ∙ none)) result work

pub returns-in-Explain-clause-log : goal.returns-in-Explain-clause-log
returns-in-Explain-clause-log g c =
    let unasked = ap (λ (w : CommandWords). may_log (g.F.Files.view c.args.files.now).told (Some (command_of w))) c.in-Explain.is in
    quiet_stop c.work_explain.result (g.F.Files.view c.args.files.now).told _ _ _ _ _ unasked c.work_explain.ensures.cause refl

pub returns-in-Twin-clause-logged : goal.returns-in-Twin-clause-logged
returns-in-Twin-clause-logged g c =
    let unasked = ap (λ (w : CommandWords). may_log (g.F.Files.view c.args.files.now).told (Some (command_of w))) c.in-Twin.is in
    quiet_done c.work_twin.result (g.F.Files.view c.args.files.now).told _ _ unasked

pub returns-in-Twin-clause-log : goal.returns-in-Twin-clause-log
returns-in-Twin-clause-log g c =
    let unasked = ap (λ (w : CommandWords). may_log (g.F.Files.view c.args.files.now).told (Some (command_of w))) c.in-Twin.is in
    quiet_stop c.work_twin.result (g.F.Files.view c.args.files.now).told _ _ _ _ _ unasked c.work_twin.ensures.cause refl

pub returns-in-Audit-clause-logged : goal.returns-in-Audit-clause-logged
returns-in-Audit-clause-logged g c =
    let unasked = ap (λ (w : CommandWords). may_log (g.F.Files.view c.args.files.now).told (Some (command_of w))) c.in-Audit.is in
    quiet_done c.work_audit.result (g.F.Files.view c.args.files.now).told _ _ unasked

pub returns-in-Audit-clause-log : goal.returns-in-Audit-clause-log
returns-in-Audit-clause-log g c =
    let unasked = ap (λ (w : CommandWords). may_log (g.F.Files.view c.args.files.now).told (Some (command_of w))) c.in-Audit.is in
    quiet_stop c.work_audit.result (g.F.Files.view c.args.files.now).told _ _ _ _ _ unasked c.work_audit.ensures.cause refl

pub returns-in-Within-clause-logged : goal.returns-in-Within-clause-logged
returns-in-Within-clause-logged g c =
    let unasked = ap (λ (w : CommandWords). may_log (g.F.Files.view c.args.files.now).told (Some (command_of w))) c.in-Within.is in
    quiet_done c.work_within.result (g.F.Files.view c.args.files.now).told _ _ unasked

pub returns-in-Within-clause-log : goal.returns-in-Within-clause-log
returns-in-Within-clause-log g c =
    let unasked = ap (λ (w : CommandWords). may_log (g.F.Files.view c.args.files.now).told (Some (command_of w))) c.in-Within.is in
    quiet_stop c.work_within.result (g.F.Files.view c.args.files.now).told _ _ _ _ _ unasked c.work_within.ensures.cause refl

pub returns-in-Suggest-clause-logged : goal.returns-in-Suggest-clause-logged
returns-in-Suggest-clause-logged g c =
    let unasked = ap (λ (w : CommandWords). may_log (g.F.Files.view c.args.files.now).told (Some (command_of w))) c.in-Suggest.is in
    quiet_done c.work_suggest.result (g.F.Files.view c.args.files.now).told _ _ unasked

pub returns-in-Suggest-clause-log : goal.returns-in-Suggest-clause-log
returns-in-Suggest-clause-log g c =
    let unasked = ap (λ (w : CommandWords). may_log (g.F.Files.view c.args.files.now).told (Some (command_of w))) c.in-Suggest.is in
    quiet_stop c.work_suggest.result (g.F.Files.view c.args.files.now).told _ _ _ _ _ unasked c.work_suggest.ensures.cause refl

pub returns-in-Sample-clause-log : goal.returns-in-Sample-clause-log
returns-in-Sample-clause-log g c =
    let unasked = ap (λ (w : CommandWords). may_log (g.F.Files.view c.args.files.now).told (Some (command_of w))) c.in-Sample.is in
    quiet_stop c.work_sample.result (g.F.Files.view c.args.files.now).told _ _ _ _ _ unasked c.work_sample.ensures.cause refl

pub returns-in-Help-clause-done : goal.returns-in-Help-clause-done
returns-in-Help-clause-done g c =
    let answer = ap (λ (w : CommandWords). answer_to (g.F.Files.view c.args.files.now).told (Some (command_of w))) c.in-Help.is in
    subst (λ (a : Answer). IfOk c.work_text.result (λ status. IsDone a (g.O.Sink.view c.args.out.now).told (g.O.Sink.view c.work_text.new.out).told status.code)) (sym answer) c.work_text.ensures.done

pub returns-in-Help-clause-log : goal.returns-in-Help-clause-log
returns-in-Help-clause-log g c =
    let unasked = ap (λ (w : CommandWords). may_log (g.F.Files.view c.args.files.now).told (Some (command_of w))) c.in-Help.is in
    quiet_stop c.work_text.result (g.F.Files.view c.args.files.now).told _ _ _ _ _ unasked c.work_text.ensures.cause refl

pub returns-in-Sample-clause-read : goal.returns-in-Sample-clause-read
returns-in-Sample-clause-read g c = none_read _ _ (g.F.Files.view c.args.files.now).reads c.work_sample.result c.in-Sample.is refl

pub returns-in-Sample-clause-until : goal.returns-in-Sample-clause-until
returns-in-Sample-clause-until g c = none_until _ _ (g.F.Files.view c.args.files.now).reads c.work_sample.result c.in-Sample.is refl c.work_sample.ensures.work

pub returns-in-Help-clause-read : goal.returns-in-Help-clause-read
returns-in-Help-clause-read g c = none_read _ _ (g.F.Files.view c.args.files.now).reads c.work_text.result c.in-Help.is refl

pub returns-in-Help-clause-until : goal.returns-in-Help-clause-until
returns-in-Help-clause-until g c = none_until _ _ (g.F.Files.view c.args.files.now).reads c.work_text.result c.in-Help.is refl c.work_text.ensures.work

pub returns-in-Version-clause-read : goal.returns-in-Version-clause-read
returns-in-Version-clause-read g c = none_read _ _ (g.F.Files.view c.args.files.now).reads c.work_version.result c.in-Version.is refl

pub returns-in-Version-clause-until : goal.returns-in-Version-clause-until
returns-in-Version-clause-until g c = none_until _ _ (g.F.Files.view c.args.files.now).reads c.work_version.result c.in-Version.is refl c.work_version.ensures.work

pub returns-in-Sample-clause-needed : goal.returns-in-Sample-clause-needed
returns-in-Sample-clause-needed g c = none_named _ _ (g.F.Files.view c.args.files.now).told (g.F.Files.view c.args.files.now).reads c.work_sample.result c.in-Sample.is refl

pub returns-in-Help-clause-needed : goal.returns-in-Help-clause-needed
returns-in-Help-clause-needed g c = none_named _ _ (g.F.Files.view c.args.files.now).told (g.F.Files.view c.args.files.now).reads c.work_text.result c.in-Help.is refl

pub returns-in-Version-clause-needed : goal.returns-in-Version-clause-needed
returns-in-Version-clause-needed g c = none_named _ _ (g.F.Files.view c.args.files.now).told (g.F.Files.view c.args.files.now).reads c.work_version.result c.in-Version.is refl

pub returns-in-Show-clause-log : goal.returns-in-Show-clause-log
returns-in-Show-clause-log g c =
    let unasked = ap (λ (w : CommandWords). may_log (g.F.Files.view c.args.files.now).told (Some (command_of w))) c.in-Show.is in
    quiet_stop c.work_show.result (g.F.Files.view c.args.files.now).told _ _ _ _ _ unasked c.work_show.ensures.cause refl

pub returns-in-Compose-clause-log : goal.returns-in-Compose-clause-log
returns-in-Compose-clause-log g c =
    let unasked = ap (λ (w : CommandWords). may_log (g.F.Files.view c.args.files.now).told (Some (command_of w))) c.in-Compose.is in
    quiet_stop c.work_compose.result (g.F.Files.view c.args.files.now).told _ _ _ _ _ unasked c.work_compose.ensures.cause refl

pub returns-in-Session-clause-log : goal.returns-in-Session-clause-log
returns-in-Session-clause-log g c =
    let unasked = ap (λ (w : CommandWords). may_log (g.F.Files.view c.args.files.now).told (Some (command_of w))) c.in-Session.is in
    quiet_stop c.work_session.result (g.F.Files.view c.args.files.now).told _ _ _ _ _ unasked c.work_session.ensures.cause refl

pub returns-in-ListSessions-clause-log : goal.returns-in-ListSessions-clause-log
returns-in-ListSessions-clause-log g c =
    let unasked = ap (λ (w : CommandWords). may_log (g.F.Files.view c.args.files.now).told (Some (command_of w))) c.in-ListSessions.is in
    quiet_stop c.work_sessions.result (g.F.Files.view c.args.files.now).told _ _ _ _ _ unasked c.work_sessions.ensures.cause refl

pub returns-in-Help-clause-logged : goal.returns-in-Help-clause-logged
returns-in-Help-clause-logged g c =
    let unasked = ap (λ (w : CommandWords). may_log (g.F.Files.view c.args.files.now).told (Some (command_of w))) c.in-Help.is in
    quiet_done c.work_text.result (g.F.Files.view c.args.files.now).told _ _ unasked

pub returns-in-Session-clause-logged : goal.returns-in-Session-clause-logged
returns-in-Session-clause-logged g c =
    let unasked = ap (λ (w : CommandWords). may_log (g.F.Files.view c.args.files.now).told (Some (command_of w))) c.in-Session.is in
    quiet_done c.work_session.result (g.F.Files.view c.args.files.now).told _ _ unasked

pub returns-in-ListSessions-clause-logged : goal.returns-in-ListSessions-clause-logged
returns-in-ListSessions-clause-logged g c =
    let unasked = ap (λ (w : CommandWords). may_log (g.F.Files.view c.args.files.now).told (Some (command_of w))) c.in-ListSessions.is in
    quiet_done c.work_sessions.result (g.F.Files.view c.args.files.now).told _ _ unasked

pub returns-in-Version-clause-log : goal.returns-in-Version-clause-log
returns-in-Version-clause-log g c =
    let unasked = ap (λ (w : CommandWords). may_log (g.F.Files.view c.args.files.now).told (Some (command_of w))) c.in-Version.is in
    quiet_stop c.work_version.result (g.F.Files.view c.args.files.now).told _ _ _ _ _ unasked c.work_version.ensures.cause refl
