-- What a run's log may be.
use Rattle.std.proofs.Common.{◌≡◌, ◌⊎◌, ◌==◌, inl, inr, ℕ, Bool, true, false, not, if◌then◌else◌, map, nat_lt, length, List, [], ◌∷◌, Option, None, Some, Result, Ok, Err, IfSome, IfErr, OnOk, refl, ap, sym, ◌∙◌}
use Rattle.std.proofs.lemmas.Bool.{true≢false}
use Rattle.std.proofs.lemmas.Grind.{flat_map-append}
use Rattle.link_traits.specs.Told.{added, Part}
use Rattle.link_traits.proofs.Parts.{added-none, part_none, part_so_far}
use Rattle.policy_args.specs.Words.{PolicyOptions}
use Rattle.recording.specs.Recording.{Recording}
use Rattle.recording.specs.Sessions.{Sessions}
use Rattle.replay_output.specs.Output.{history_of}
use Rattle.replay.specs.Logging.{WholeSessionLines}
use Rattle.replay.specs.declared.session_notes.SessionNote.{SessionNote}
use Rattle.explain_log.specs.Lines.{log_line}
use Rattle.replay.specs.SessionsOutput.{in_session, log_of_sessions, noted_in, only_session, session_log, session_mode, sessions_noted}
use Rattle.policy_view.specs.Notes.{notes}
use Rattle.replay_output.specs.Explained.{explained}
use Rattle.session_files.specs.OneSession.{session_file_of}
use Rattle.suggestion.specs.Suggestion.{policy_for, suggestion_of}
use Rattle.proxy_main.specs.declared.Refusal.{Refusal}
use Rattle.proxy_main.specs.declared.Refusal.TheVariants.{TooManyEntries}
use Rattle.proxy_main.specs.Words.{Command, Replay, Explain, Twin, Sample, Audit, Within, Suggest, Show, Compose, Session, ListSessions, Help, Version}
use Rattle.proxy_main.specs.Answers.{Answer, Refused, Wrote, audited, extracted, extracting, listed, suggesting, then_go, then_read, then_recordings, replayed, explaining, answer_to, Agrees, log_of, checked_policy, checked_recording, asks_for_log, may_ask_for_log, may_log, IsLog, checked_message, checked_text, checked_sessions}
use Rattle.proxy_main.specs.declared.Stop.{Stop}
use Rattle.proxy_main.specs.declared.Stop.TheVariants as stop
use Rattle.proxy_main.specs.Loads.{CausedBy, KeepsLog, IsLogged, IsLogFront, IsLogInLines, WholeLinesOf}

-- options that ask for no log give none
none_of_many : (o : PolicyOptions) (r : Sessions) → o.log ≡ false → log_of_sessions o r ≡ []
unfolding log_of_sessions noted_in
none_of_many o r is =
    ap (λ (asked : Bool). session_log (if not asked then [] else (if r.version == 1 then map (in_session 1) (notes o.policy (history_of o (only_session r))) else sessions_noted o.policy (session_mode o r.auth) [] r.events))) is

-- the answer of a replay has a log only if it is asked for
replay_unasked : (o : PolicyOptions) (recording : Result Sessions Refusal) → o.log ≡ false → log_of (then_go recording (replayed o)) ≡ []
unfolding replayed
replay_unasked o (Ok r) is = none_of_many o r is
replay_unasked o (Err refusal) is = refl

read_unasked : (o : PolicyOptions) (recording : Option (List ℕ)) → o.log ≡ false → log_of (then_read recording checked_sessions (replayed o)) ≡ []
read_unasked o None is = refl
read_unasked o (Some bytes) is = replay_unasked o (checked_sessions bytes) is

checked_unasked : (policy : Result PolicyOptions Refusal) (recording : Option (List ℕ)) → asks_for_log policy ≡ false →
    log_of (then_go policy (λ o. then_read recording checked_sessions (replayed o))) ≡ []
checked_unasked (Ok o) recording is = read_unasked o recording is
checked_unasked (Err refusal) recording is = refl

answer_unasked : (policy recording : Option (List ℕ)) → may_ask_for_log policy ≡ false →
    log_of (then_read policy checked_policy (λ o. then_read recording checked_sessions (replayed o))) ≡ []
answer_unasked None recording is = refl
answer_unasked (Some bytes) recording is = checked_unasked (checked_policy bytes) recording is

-- what is explained has none
explaining_none : (o : Option (List ℕ)) → log_of (explaining o) ≡ []
explaining_none None = refl
explaining_none (Some bytes) = refl

go_none : {A : Type 0} (x : Result A Refusal) (go : A → Answer) → ((y : A) → log_of (go y) ≡ []) → log_of (then_go x go) ≡ []
go_none (Ok y) go none = none y
go_none (Err refusal) go none = refl

read_none : {A : Type 0} (t : Option (List ℕ)) (check : List ℕ → Result A Refusal) (go : A → Answer) → ((y : A) → log_of (go y) ≡ []) → log_of (then_read t check go) ≡ []
read_none None check go none = refl
read_none (Some bytes) check go none = go_none (check bytes) go none

recordings_none : (told : List ℕ → Option (List ℕ)) (ps : List (List ℕ)) (work : List Recording → Answer) → ((xs : List Recording) → log_of (work xs) ≡ []) → log_of (then_recordings told ps work) ≡ []
recordings_none told [] work none = none []
recordings_none told (p ∷ ps) work none =
    read_none (told p) checked_recording (λ x. then_recordings told ps (λ others. work (x ∷ others))) (λ x. recordings_none told ps (λ others. work (x ∷ others)) (λ xs. none (x ∷ xs)))

suggesting-none : (xs : List Recording) → log_of (suggesting xs) ≡ []
unfolding suggesting
suggesting-none xs = by (nat_lt 65535 (length (policy_for xs).entries))
  where
    by : (b : Bool) → log_of (if b then Refused TooManyEntries else Wrote (suggestion_of xs) []) ≡ []
    by true = refl
    by false = refl

extracted-none : (file : Option (List ℕ)) → log_of (extracted file) ≡ []
extracted-none None = refl
extracted-none (Some bytes) = refl

extracting-none : (number : ℕ) (s : Sessions) → log_of (extracting number s) ≡ []
unfolding extracting
extracting-none number s = extracted-none (session_file_of s number)

listed-none : (s : Sessions) → log_of (listed s) ≡ []
unfolding listed
listed-none s = refl

unasked : (told : List ℕ → Option (List ℕ)) (command : Option Command) → may_log told command ≡ false → log_of (answer_to told command) ≡ []
unasked told None is = refl
unasked told (Some (Replay p r)) is = answer_unasked (told p) (told r) is
unasked told (Some (Explain p r number)) is = read_none (told p) checked_policy _ (λ o. read_none (told r) checked_recording _ (λ x. explaining_none (explained o x number)))
unasked told (Some (Twin p a b)) is = read_none (told p) checked_policy _ (λ o. read_none (told a) checked_recording _ (λ x. read_none (told b) checked_recording _ (λ y. refl)))
unasked told (Some (Sample n seed)) is = refl
unasked told (Some (Audit p ps)) is = read_none (told p) checked_policy _ (λ o. recordings_none told ps (audited o) (λ xs. refl))
unasked told (Some (Within a b)) is = read_none (told a) checked_policy _ (λ o. read_none (told b) checked_policy _ (λ other. refl))
unasked told (Some (Suggest ps)) is = recordings_none told ps suggesting suggesting-none
unasked told (Some (Show message)) is = read_none (told message) checked_message _ (λ bytes. refl)
unasked told (Some (Compose text)) is = read_none (told text) checked_text _ (λ bytes. refl)
unasked told (Some (Session recording number)) is = read_none (told recording) checked_sessions _ (λ s. extracting-none number s)
unasked told (Some (ListSessions recording)) is = read_none (told recording) checked_sessions _ listed-none
unasked told (Some Help) is = refl
unasked told (Some Version) is = refl

-- nothing is a prefix of the log
pub front_none : (told : List ℕ → Option (List ℕ)) (command : Option Command) (err new_err : Option (List ℕ)) → new_err ≡ err → IsLogFront told command err new_err
front_none told command err new_err same =
    (log_of (answer_to told command), record { settled = λ settled. refl; unasked = unasked told command }, part_none _ _ _ same)

-- .. and it has no line that is cut
pub lines_none : (told : List ℕ → Option (List ℕ)) (command : Option Command) (err new_err : Option (List ℕ)) → new_err ≡ err → IsLogInLines told command err new_err
lines_none told command err new_err same =
    (log_of (answer_to told command), record { settled = λ settled. refl; unasked = unasked told command }, inl same)

-- whole lines are a prefix of the log
lines_part : (err new_err : Option (List ℕ)) (log : List ℕ) → (new_err ≡ err) ⊎ WholeLinesOf err new_err log → Part err new_err log
lines_part err new_err log (inl same) = part_none err new_err log same
lines_part err new_err log (inr (noted, is, lines)) =
    part_so_far err new_err log _ _ lines.is
    (sym is ∙ ap session_log lines.split ∙ flat_map-append (λ (n : SessionNote). log_line n.session n.note) lines.written lines.others)

pub lines_front : (told : List ℕ → Option (List ℕ)) (command : Option Command) (err new_err : Option (List ℕ)) → IsLogInLines told command err new_err → IsLogFront told command err new_err
lines_front told command err new_err lines = (lines.0, lines.1, lines_part err new_err lines.0 lines.2)

-- a run that stops before its work leaves err as it is
pub log_early : (told : List ℕ → Option (List ℕ)) (command : Option Command) (files : Type 0) (err new_err : Option (List ℕ)) (s : Stop) → CausedBy files ⊥ ⊥ s → new_err ≡ err → KeepsLog told command err new_err s
log_early told command files err new_err (stop.Refused refusal) cause same = same
log_early told command files err new_err (stop.File path) cause same = same
log_early told command files err new_err stop.Output cause same = absurd cause
log_early told command files err new_err stop.Log cause same = absurd cause
log_early told command files err new_err stop.Memory cause same = lines_none told command err new_err same

-- ---- a run that may have no log

none_logged : (told : List ℕ → Option (List ℕ)) (command : Option Command) (err new_err : Option (List ℕ)) → may_log told command ≡ false → new_err ≡ err → IsLogged told command err new_err
none_logged told command err new_err is same = ([], record { settled = λ settled. sym (unasked told command is); unasked = λ none. refl }, same ∙ sym (added-none err))

none_kept : (told : List ℕ → Option (List ℕ)) (command : Option Command) (files out : Type 0) (err new_err : Option (List ℕ)) (s : Stop) → may_log told command ≡ false → CausedBy files out ⊥ s → new_err ≡ err →
    KeepsLog told command err new_err s
none_kept told command files out err new_err (stop.Refused refusal) is cause same = same
none_kept told command files out err new_err (stop.File path) is cause same = same
none_kept told command files out err new_err stop.Output is cause same = none_logged told command err new_err is same
none_kept told command files out err new_err stop.Log is cause same = absurd cause
none_kept told command files out err new_err stop.Memory is cause same = lines_none told command err new_err same

pub quiet_done : {A : Type 0} (result : Result A Stop) (told : List ℕ → Option (List ℕ)) (command : Option Command) (err : Option (List ℕ)) → may_log told command ≡ false →
    OnOk result (IsLogged told command err err)
quiet_done (Ok done) told command err is = none_logged told command err err is refl
quiet_done (Err stop) told command err is = tt

pub quiet_stop : {A : Type 0} (result : Result A Stop) (told : List ℕ → Option (List ℕ)) (command : Option Command) (files out : Type 0) (err new_err : Option (List ℕ)) → may_log told command ≡ false →
    IfErr result (λ stop. CausedBy files out ⊥ stop) → new_err ≡ err → IfErr result (λ stop. KeepsLog told command err new_err stop)
quiet_stop (Ok done) told command files out err new_err is cause same = tt
quiet_stop (Err stop) told command files out err new_err is cause same = none_kept told command files out err new_err stop is cause same

-- ---- the log of a recording that was played

asks_where_told : (policy : Option (List ℕ)) (o : PolicyOptions) → IfSome policy (λ bytes. checked_policy bytes ≡ Ok o) → may_ask_for_log policy ≡ false → o.log ≡ false
asks_where_told None o is none = absurd (true≢false none)
asks_where_told (Some bytes) o is none = ap asks_for_log (sym is) ∙ none

log_played : (told : List ℕ → Option (List ℕ)) (p r : List ℕ) (o : PolicyOptions) (recording : Sessions) → Agrees (answer_to told (Some (Replay p r))) (replayed o recording) →
    IfSome (told p) (λ bytes. checked_policy bytes ≡ Ok o) → IsLog told (Some (Replay p r)) (log_of_sessions o recording)
unfolding replayed
log_played told p r o recording agrees is = record {
  settled = λ settled. sym (ap log_of (agrees settled));
  unasked = λ none. none_of_many o recording (asks_where_told (told p) o is none);
}

pub logged_of : (told : List ℕ → Option (List ℕ)) (p r : List ℕ) (o : PolicyOptions) (recording : Sessions) (err new_err : Option (List ℕ)) → Agrees (answer_to told (Some (Replay p r))) (replayed o recording) →
    IfSome (told p) (λ bytes. checked_policy bytes ≡ Ok o) → new_err ≡ added (log_of_sessions o recording) err → IsLogged told (Some (Replay p r)) err new_err
logged_of told p r o recording err new_err agrees is got = (log_of_sessions o recording, log_played told p r o recording agrees is, got)

pub log_front_of : (told : List ℕ → Option (List ℕ)) (p r : List ℕ) (o : PolicyOptions) (recording : Sessions) (err new_err : Option (List ℕ)) → Agrees (answer_to told (Some (Replay p r))) (replayed o recording) →
    IfSome (told p) (λ bytes. checked_policy bytes ≡ Ok o) → Part err new_err (log_of_sessions o recording) → IsLogFront told (Some (Replay p r)) err new_err
log_front_of told p r o recording err new_err agrees is got = (log_of_sessions o recording, log_played told p r o recording agrees is, got)

pub log_lines_of : (told : List ℕ → Option (List ℕ)) (p r : List ℕ) (o : PolicyOptions) (recording : Sessions) (err new_err : Option (List ℕ)) → Agrees (answer_to told (Some (Replay p r))) (replayed o recording) →
    IfSome (told p) (λ bytes. checked_policy bytes ≡ Ok o) → WholeSessionLines err new_err (noted_in o recording) → IsLogInLines told (Some (Replay p r)) err new_err
unfolding log_of_sessions
log_lines_of told p r o recording err new_err agrees is lines = (log_of_sessions o recording, log_played told p r o recording agrees is, inr (noted_in o recording, refl, lines))

asked_where_told : (policy : Option (List ℕ)) (o : PolicyOptions) → IfSome policy (λ bytes. checked_policy bytes ≡ Ok o) → o.log ≡ true → may_ask_for_log policy ≡ true
asked_where_told None o is asked = refl
asked_where_told (Some bytes) o is asked = ap asks_for_log is ∙ asked

pub may_log_played : (told : List ℕ → Option (List ℕ)) (p r : List ℕ) (o : PolicyOptions) → IfSome (told p) (λ bytes. checked_policy bytes ≡ Ok o) → o.log ≡ true → may_log told (Some (Replay p r)) ≡ true
may_log_played told p r o is asked = asked_where_told (told p) o is asked
