-- What a run answers, by its words and by what is told of the files.
--
-- The files are read in the order of the words, and each is read and checked before the next. The first fault is the
-- answer.
use Rattle.std.specs.Prelude.{◌≡◌, ◌≢◌, ◌⊎◌, ℕ, Bool, true, false, nat_lt, List, [], ◌∷◌, ◌++◌, length, codes, Option, Some, None, Result, Ok, Err, if◌then◌else◌}
use Rattle.std.specs.Fmt.{decimal}
use Rattle.policy_args.specs.declared.BadWord.{BadWord}
use Rattle.audit.specs.Audit.{audit_of}
use Rattle.message_files.specs.Files.{text_shown, bytes_composed}
use Rattle.policy_args.specs.Policy.{Policy}
use Rattle.policy_args.specs.Requests.{Within}
use Rattle.policy_args.specs.Words.{PolicyOptions, options_of, words_in, ◌>>=◌}
use Rattle.policy_within.specs.Within.{answer_of as within_answer}
use Rattle.recording.specs.Recording.{Recording, recording_of}
use Rattle.recording.specs.Sessions.{Sessions, sessions_of}
use Rattle.replay_output.specs.Output.{output_of_recording}
use Rattle.replay.specs.SessionsOutput.{output_of_sessions, log_of_sessions}
use Rattle.replay_output.specs.Explained.{explained}
use Rattle.replay.specs.Twins.{compared_under, part_of_recording, Compares}
use Rattle.replay.specs.declared.comparing.TwinAnswer.{TwinAnswer}
use Rattle.replay.specs.declared.comparing.TwinAnswer.TheVariants.{Same, Differ}
use Rattle.session_files.specs.Listing.{listing_of}
use Rattle.session_files.specs.OneSession.{session_file_of}
use Rattle.sample.specs.Summary.{sample_history, sample_options, summary_of}
use Rattle.suggestion.specs.Suggestion.{policy_for, suggestion_of}
pub use Rattle.line_words.specs.Stops.{without}
use Rattle.proxy_main.specs.declared.Refusal.{Refusal}
use Rattle.proxy_main.specs.declared.Refusal.TheVariants.{Usage, LineWord, ArgsTooLong, PolicyWord, PolicyTooLong, Recording as BadFile, NoSuchMessage, NoSuchSession, TooManyEntries, Message as BadMessageFile, Text as BadTextFile}
use Rattle.proxy_main.specs.declared.TheConstants.{POLICY_LIMIT}
use Rattle.proxy_main.specs.declared.texts.TheConstants.{HELP, VERSION}
use Rattle.proxy_main.specs.Lines.{is_policy_kind}
use Rattle.proxy_main.specs.WithinText.{within_text}
use Rattle.proxy_main.specs.Words.{Command, Replay, Explain, Twin, Sample, Audit, Within as IsWithin, Suggest, Show, Compose, Session, ListSessions, Help, Version, reading}

pub data Answer : Type 0 where
  -- a file is needed of which nothing is told: the answer is not settled
  Untold : Answer
  -- the words or a file are refused
  Refused : Refusal → Answer
  -- the work is done, and these are the bytes of its output and of its log
  Wrote : List ℕ → List ℕ → Answer
  -- two recordings are compared under a policy
  Compared : Policy → Recording → Recording → Answer
  -- whether a policy is within another
  Contained : Policy → Policy → Answer

-- ---- reading and checking

-- what follows a check, if that refuses nothing
abbrev pub then_go : {A : Type 0} → Result A Refusal → (A → Answer) → Answer
then_go (Ok x) go = go x
then_go (Err refusal) go = Refused refusal

-- a file is read and checked, before what follows
abbrev pub then_read : {A : Type 0} → Option (List ℕ) → (List ℕ → Result A Refusal) → (A → Answer) → Answer
then_read None check go = Untold
then_read (Some bytes) check go = then_go (check bytes) go

abbrev pub or_refused : {A E : Type 0} → (E → Refusal) → Result A E → Result A Refusal
or_refused refusal (Ok x) = Ok x
or_refused refusal (Err e) = Err (refusal e)

-- the options of a policy file: it is cut into words, and the words are options
abbrev pub options_in : List ℕ → Result PolicyOptions BadWord
options_in bytes = words_in bytes >>= options_of

-- a policy file: it is within its limit, and has options
unfoldable pub checked_policy : List ℕ → Result PolicyOptions Refusal
checked_policy bytes =
    if nat_lt POLICY_LIMIT (length bytes) then Err PolicyTooLong else or_refused PolicyWord (options_in bytes)

-- a recording: it is refused by its first fault, which may be that it is above its limit
unfoldable pub checked_recording : List ℕ → Result Recording Refusal
checked_recording bytes = or_refused BadFile (recording_of bytes)

-- a recording of one session or of many: it is refused by its first fault, which may be that it is above its limit
unfoldable pub checked_sessions : List ℕ → Result Sessions Refusal
checked_sessions bytes = or_refused BadFile (sessions_of bytes)

-- the file of a message: its text, unless it isn't one valid message
unfoldable pub checked_message : List ℕ → Result (List ℕ) Refusal
checked_message bytes = or_refused BadMessageFile (text_shown bytes)

-- the file of a message's text: the message's bytes, unless it is the text of none
unfoldable pub checked_text : List ℕ → Result (List ℕ) Refusal
checked_text bytes = or_refused BadTextFile (bytes_composed bytes)

-- ---- answers

unfoldable pub replayed : PolicyOptions → Sessions → Answer
replayed options sessions = Wrote (output_of_sessions options sessions) (log_of_sessions options sessions)

-- a message of that number is explained, if there is one
abbrev pub explaining : Option (List ℕ) → Answer
explaining None = Refused NoSuchMessage
explaining (Some bytes) = Wrote bytes []

abbrev pub explained_at : ℕ → PolicyOptions → Recording → Answer
explained_at number options recording = explaining (explained options recording number)

-- the sum of a sample's session
abbrev pub sampled : ℕ → ℕ → Answer
sampled n seed = Wrote (summary_of sample_options.policy (sample_history n seed)) []

-- the program's name and version
abbrev pub version_line : List ℕ
version_line = codes "zamtigarn " ++ VERSION.now ++ codes "\n"

-- the policy file and then the recording are read and checked, before the work on both
abbrev pub then_load : (List ℕ → Option (List ℕ)) → List ℕ → List ℕ → (PolicyOptions → Recording → Answer) → Answer
then_load told policy recording work = then_read (told policy) checked_policy (λ options. then_read (told recording) checked_recording (λ events. work options events))

-- .. or the recording has one session or many
abbrev pub then_sessions : (List ℕ → Option (List ℕ)) → List ℕ → List ℕ → (PolicyOptions → Sessions → Answer) → Answer
then_sessions told policy recording work = then_read (told policy) checked_policy (λ options. then_read (told recording) checked_sessions (work options))

-- .. and then the other recording, before both are compared
abbrev pub then_compare : (List ℕ → Option (List ℕ)) → List ℕ → PolicyOptions → Recording → Answer
then_compare told other options one = then_read (told other) checked_recording (Compared options.policy one)

-- recordings are read and checked, one after the other, before the work on all of them
abbrev pub then_recordings : (List ℕ → Option (List ℕ)) → List (List ℕ) → (List Recording → Answer) → Answer
then_recordings told [] work = work []
then_recordings told (path ∷ paths) work = then_read (told path) checked_recording (λ recording. then_recordings told paths (λ others. work (recording ∷ others)))

-- what a policy denies of recordings, counted
abbrev pub audited : PolicyOptions → List Recording → Answer
audited options recordings = Wrote (audit_of options recordings) []

-- the policy file that is suggested for recordings, unless its policy has too many entries
unfoldable pub suggesting : List Recording → Answer
suggesting recordings = if nat_lt 65535 (length (policy_for recordings).entries) then Refused TooManyEntries else Wrote (suggestion_of recordings) []

-- one policy file and then another are read and checked, before they are compared
abbrev pub then_contain : (List ℕ → Option (List ℕ)) → List ℕ → PolicyOptions → Answer
then_contain told other one = then_read (told other) checked_policy (λ options. Contained one.policy options.policy)

-- what the one file of a command comes to is written
abbrev pub then_write : (List ℕ → Option (List ℕ)) → List ℕ → (List ℕ → Result (List ℕ) Refusal) → Answer
then_write told path check = then_read (told path) check (λ bytes. Wrote bytes [])

-- the file of the session of a number, if the recording has that session
abbrev pub extracted : Option (List ℕ) → Answer
extracted None = Refused NoSuchSession
extracted (Some bytes) = Wrote bytes []

unfoldable pub extracting : ℕ → Sessions → Answer
extracting number sessions = extracted (session_file_of sessions number)

-- the sessions of a recording, a line for each
unfoldable pub listed : Sessions → Answer
listed sessions = Wrote (listing_of sessions) []

abbrev pub answer_to : (List ℕ → Option (List ℕ)) → Option Command → Answer
answer_to told None = Refused Usage
answer_to told (Some (Replay policy recording)) = then_sessions told policy recording replayed
answer_to told (Some (Explain policy recording number)) = then_load told policy recording (explained_at number)
answer_to told (Some (Twin policy one other)) = then_load told policy one (then_compare told other)
answer_to told (Some (Sample n seed)) = sampled n seed
answer_to told (Some (Audit policy recordings)) = then_read (told policy) checked_policy (λ options. then_recordings told recordings (audited options))
answer_to told (Some (IsWithin one other)) = then_read (told one) checked_policy (then_contain told other)
answer_to told (Some (Suggest recordings)) = then_recordings told recordings suggesting
answer_to told (Some (Show message)) = then_write told message checked_message
answer_to told (Some (Compose text)) = then_write told text checked_text
answer_to told (Some (Session recording number)) = then_read (told recording) checked_sessions (extracting number)
answer_to told (Some (ListSessions recording)) = then_read (told recording) checked_sessions listed
answer_to told (Some Help) = Wrote HELP.now []
answer_to told (Some Version) = Wrote version_line []

abbrev pub answer_of : List (List ℕ) → (List ℕ → Option (List ℕ)) → Answer
answer_of words told = answer_to told (reading words)

-- all that the answer needs is told
abbrev pub IsSettled : Answer → Type 0
IsSettled Untold = ⊥
IsSettled (Refused refusal) = Unit {0}
IsSettled (Wrote out log) = Unit {0}
IsSettled (Compared policy one other) = Unit {0}
IsSettled (Contained one other) = Unit {0}

-- where the answer is settled it is this one
abbrev pub Agrees : Answer → Answer → Type 0
Agrees answer this = IsSettled answer → answer ≡ this

-- ---- what an answer means

-- the status of a refusal
abbrev pub refusal_code : Refusal → ℕ
refusal_code Usage = 1
refusal_code (LineWord bad) = if is_policy_kind bad.kind then 2 else 1
refusal_code ArgsTooLong = 1
refusal_code (PolicyWord bad) = 2
refusal_code PolicyTooLong = 2
refusal_code (BadFile fault) = 3
refusal_code NoSuchMessage = 9
refusal_code NoSuchSession = 9
refusal_code TooManyEntries = 7
refusal_code (BadMessageFile bad) = 3
refusal_code (BadTextFile bad) = 3

-- An answer has this status: of two recordings, by whether the same is left of both when all that the policy hides is
-- erased, and of two policies, by whether the one permits nothing that the other doesn't permit.
abbrev pub HasCode : Answer → ℕ → Type 0
HasCode Untold code = ⊥
HasCode (Refused refusal) code = refusal_code refusal ≡ code
HasCode (Wrote out log) code = 0 ≡ code
HasCode (Compared policy one other) code =
    ((part_of_recording policy one ≡ part_of_recording policy other) × (0 ≡ code)) ⊎ ((part_of_recording policy one ≢ part_of_recording policy other) × (7 ≡ code))
HasCode (Contained one other) code = (Within one other × (0 ≡ code)) ⊎ ((Within one other → ⊥) × (7 ≡ code))

-- the status of a comparison, and its line
abbrev pub twin_code : TwinAnswer → ℕ
twin_code Same = 0
twin_code (Differ place) = 7

abbrev pub twin_line : TwinAnswer → List ℕ
twin_line Same = codes "same\n"
twin_line (Differ place) = codes "differ " ++ decimal place ++ codes "\n"

-- an answer has these bytes of output
abbrev pub HasOut : Answer → List ℕ → Type 0
HasOut Untold bytes = ⊥
HasOut (Refused refusal) bytes = [] ≡ bytes
HasOut (Wrote out log) bytes = out ≡ bytes
HasOut (Compared policy one other) bytes = (answer : TwinAnswer) × Compares (part_of_recording policy one) (part_of_recording policy other) answer × (twin_line answer ≡ bytes)
HasOut (Contained one other) bytes = within_text (within_answer one other) ≡ bytes

-- neither the words nor a file are refused: the work is done, whatever it comes to
abbrev pub IsWork : Answer → Type 0
IsWork Untold = ⊥
IsWork (Refused refusal) = ⊥
IsWork (Wrote out log) = Unit {0}
IsWork (Compared policy one other) = Unit {0}
IsWork (Contained one other) = Unit {0}

-- where two recordings are compared, all bytes that either gives out are those of the other
abbrev pub GivesOutTheSame : Answer → Type 0
GivesOutTheSame Untold = Unit {0}
GivesOutTheSame (Refused refusal) = Unit {0}
GivesOutTheSame (Wrote out log) = Unit {0}
GivesOutTheSame (Compared policy one other) = output_of_recording (compared_under policy) one ≡ output_of_recording (compared_under policy) other
GivesOutTheSame (Contained one other) = Unit {0}

-- the log of an answer
abbrev pub log_of : Answer → List ℕ
log_of Untold = []
log_of (Refused refusal) = []
log_of (Wrote out log) = log
log_of (Compared policy one other) = []
log_of (Contained one other) = []

-- ---- the log

abbrev pub asks_for_log : Result PolicyOptions Refusal → Bool
asks_for_log (Ok options) = options.log
asks_for_log (Err refusal) = false

-- a policy file may ask for a log unless it is told and does not
abbrev pub may_ask_for_log : Option (List ℕ) → Bool
may_ask_for_log None = true
may_ask_for_log (Some bytes) = asks_for_log (checked_policy bytes)

-- whether a run may have a log, as far as the policy file is told: only a replay may
abbrev pub may_log : (List ℕ → Option (List ℕ)) → Option Command → Bool
may_log told None = false
may_log told (Some (Replay policy recording)) = may_ask_for_log (told policy)
may_log told (Some (Explain policy recording number)) = false
may_log told (Some (Twin policy one other)) = false
may_log told (Some (Sample n seed)) = false
may_log told (Some (Audit policy recordings)) = false
may_log told (Some (IsWithin one other)) = false
may_log told (Some (Suggest recordings)) = false
may_log told (Some (Show message)) = false
may_log told (Some (Compose text)) = false
may_log told (Some (Session recording number)) = false
may_log told (Some (ListSessions recording)) = false
may_log told (Some Help) = false
may_log told (Some Version) = false

-- a run's log is the answer's if that is settled, and empty if no log may be asked for
pub record IsLog (told : List ℕ → Option (List ℕ)) (command : Option Command) (log : List ℕ) : Type 0 where
  pub settled : IsSettled (answer_to told command) → log ≡ log_of (answer_to told command)
  pub unasked : may_log told command ≡ false → log ≡ []
