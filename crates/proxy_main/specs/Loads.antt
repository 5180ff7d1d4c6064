-- What reading the files gives, and why a run stops before its work is done.
use Rattle.std.specs.Prelude.{◌≡◌, ◌⊎◌, ℕ, true, List, Option, Some, None, Result, Ok, Err, IfSome}
use Rattle.link_traits.specs.Told.{added, Part}
use Rattle.proxy_main.specs.declared.Refusal.{Refusal}
use Rattle.proxy_main.specs.declared.Refusal.TheVariants.{Usage, LineWord, ArgsTooLong, PolicyWord, PolicyTooLong, Recording, NoSuchMessage, NoSuchSession, TooManyEntries, Message, Text}
use Rattle.proxy_main.specs.declared.Stop.{Stop}
use Rattle.proxy_main.specs.declared.Stop.TheVariants.{Refused as Refuses, File, Output, Log, Memory}
use Rattle.proxy_main.specs.Words.{Command, Replay, Explain, Twin, Sample, Audit, Within, Suggest, Show, Compose, Session, ListSessions, Help, Version}
use Rattle.policy_args.specs.Words.{PolicyOptions}
use Rattle.recording.specs.Recording.{Recording as RecordingValue}
use Rattle.replay.specs.Logging.{WholeSessionLines}
use Rattle.replay.specs.SessionsOutput.{session_log}
use Rattle.replay.specs.declared.session_notes.SessionNote.{SessionNote}
use Rattle.proxy_main.specs.Answers.{Answer, Untold, Refused, then_load, answer_to, Agrees, without, HasCode, HasOut, IsWork, GivesOutTheSame, IsSettled, may_log, IsLog}

-- ---- one file

-- a refusal of a policy file or of a recording
abbrev pub IsOfFile : Refusal → Type 0
IsOfFile Usage = ⊥
IsOfFile (LineWord bad) = ⊥
IsOfFile ArgsTooLong = ⊥
IsOfFile (PolicyWord bad) = Unit {0}
IsOfFile PolicyTooLong = Unit {0}
IsOfFile (Recording fault) = Unit {0}
IsOfFile NoSuchMessage = ⊥
IsOfFile NoSuchSession = ⊥
IsOfFile TooManyEntries = ⊥
IsOfFile (Message bad) = ⊥
IsOfFile (Text bad) = ⊥

-- the file at the path is why a run stops: its check refuses what is told of it, or it was not read
abbrev pub LoadStops : {A : Type 0} → (List ℕ → Result A Refusal) → Option (List ℕ) → List ℕ → Stop → Type 0
LoadStops check told path (Refuses refusal) = IfSome told (λ bytes. check bytes ≡ Err refusal) × IsOfFile refusal
LoadStops check told path (File p) = p.now ≡ path
LoadStops check told path Output = ⊥
LoadStops check told path Log = ⊥
LoadStops check told path Memory = Unit {0}

-- the file at the path was read and checked, or it is why a run stops
abbrev pub Loads : {A X : Type 0} → (X → A) → (List ℕ → Result A Refusal) → Option (List ℕ) → List ℕ → Result X Stop → Type 0
Loads view check told path (Ok x) = IfSome told (λ bytes. check bytes ≡ Ok (view x))
Loads view check told path (Err stop) = LoadStops check told path stop

-- ---- both files

-- one of both files is why a run stops, whatever the work on them: what is told settles it so, or the file was not read
abbrev pub FilesStop : (List ℕ → Option (List ℕ)) → List ℕ → List ℕ → Stop → Type 0
FilesStop told policy recording (Refuses refusal) = ((work : PolicyOptions → RecordingValue → Answer) → Agrees (then_load told policy recording work) (Refused refusal)) × IsOfFile refusal
FilesStop told policy recording (File path) = (work : PolicyOptions → RecordingValue → Answer) → then_load (without path.now told) policy recording work ≡ Untold
FilesStop told policy recording Output = ⊥
FilesStop told policy recording Log = ⊥
FilesStop told policy recording Memory = Unit {0}

-- ---- a whole run

-- the words ask for a message of a recording
abbrev pub IsExplain : Option Command → Type 0
IsExplain None = ⊥
IsExplain (Some (Replay policy recording)) = ⊥
IsExplain (Some (Explain policy recording number)) = Unit {0}
IsExplain (Some (Twin policy one other)) = ⊥
IsExplain (Some (Sample n seed)) = ⊥
IsExplain (Some (Audit policy recordings)) = ⊥
IsExplain (Some (Within one other)) = ⊥
IsExplain (Some (Suggest recordings)) = ⊥
IsExplain (Some (Show message)) = ⊥
IsExplain (Some (Compose text)) = ⊥
IsExplain (Some (Session recording number)) = ⊥
IsExplain (Some (ListSessions recording)) = ⊥
IsExplain (Some Help) = ⊥
IsExplain (Some Version) = ⊥

-- the words ask for a policy
abbrev pub IsSuggest : Option Command → Type 0
IsSuggest None = ⊥
IsSuggest (Some (Replay policy recording)) = ⊥
IsSuggest (Some (Explain policy recording number)) = ⊥
IsSuggest (Some (Twin policy one other)) = ⊥
IsSuggest (Some (Sample n seed)) = ⊥
IsSuggest (Some (Audit policy recordings)) = ⊥
IsSuggest (Some (Within one other)) = ⊥
IsSuggest (Some (Suggest recordings)) = Unit {0}
IsSuggest (Some (Show message)) = ⊥
IsSuggest (Some (Compose text)) = ⊥
IsSuggest (Some (Session recording number)) = ⊥
IsSuggest (Some (ListSessions recording)) = ⊥
IsSuggest (Some Help) = ⊥
IsSuggest (Some Version) = ⊥

-- the words ask for a message's text
abbrev pub IsShow : Option Command → Type 0
IsShow None = ⊥
IsShow (Some (Replay policy recording)) = ⊥
IsShow (Some (Explain policy recording number)) = ⊥
IsShow (Some (Twin policy one other)) = ⊥
IsShow (Some (Sample n seed)) = ⊥
IsShow (Some (Audit policy recordings)) = ⊥
IsShow (Some (Within one other)) = ⊥
IsShow (Some (Suggest recordings)) = ⊥
IsShow (Some (Show message)) = Unit {0}
IsShow (Some (Compose text)) = ⊥
IsShow (Some (Session recording number)) = ⊥
IsShow (Some (ListSessions recording)) = ⊥
IsShow (Some Help) = ⊥
IsShow (Some Version) = ⊥

-- the words ask for the message of a text
abbrev pub IsCompose : Option Command → Type 0
IsCompose None = ⊥
IsCompose (Some (Replay policy recording)) = ⊥
IsCompose (Some (Explain policy recording number)) = ⊥
IsCompose (Some (Twin policy one other)) = ⊥
IsCompose (Some (Sample n seed)) = ⊥
IsCompose (Some (Audit policy recordings)) = ⊥
IsCompose (Some (Within one other)) = ⊥
IsCompose (Some (Suggest recordings)) = ⊥
IsCompose (Some (Show message)) = ⊥
IsCompose (Some (Compose text)) = Unit {0}
IsCompose (Some (Session recording number)) = ⊥
IsCompose (Some (ListSessions recording)) = ⊥
IsCompose (Some Help) = ⊥
IsCompose (Some Version) = ⊥

-- the words ask for one session of a recording
abbrev pub IsSession : Option Command → Type 0
IsSession None = ⊥
IsSession (Some (Replay policy recording)) = ⊥
IsSession (Some (Explain policy recording number)) = ⊥
IsSession (Some (Twin policy one other)) = ⊥
IsSession (Some (Sample n seed)) = ⊥
IsSession (Some (Audit policy recordings)) = ⊥
IsSession (Some (Within one other)) = ⊥
IsSession (Some (Suggest recordings)) = ⊥
IsSession (Some (Show message)) = ⊥
IsSession (Some (Compose text)) = ⊥
IsSession (Some (Session recording number)) = Unit {0}
IsSession (Some (ListSessions recording)) = ⊥
IsSession (Some Help) = ⊥
IsSession (Some Version) = ⊥

-- the words are refused only if they name nothing, a message's number only if they ask for a message, a session's only
-- if they ask for a session, a policy only if they ask for one, and the file of a message or of a text only if they ask
-- for the other
abbrev pub IsOfWords : Refusal → Option Command → Type 0
IsOfWords Usage command = command ≡ None
IsOfWords (LineWord bad) command = ⊥
IsOfWords ArgsTooLong command = ⊥
IsOfWords (PolicyWord bad) command = Unit {0}
IsOfWords PolicyTooLong command = Unit {0}
IsOfWords (Recording fault) command = Unit {0}
IsOfWords NoSuchMessage command = IsExplain command
IsOfWords NoSuchSession command = IsSession command
IsOfWords TooManyEntries command = IsSuggest command
IsOfWords (Message bad) command = IsShow command
IsOfWords (Text bad) command = IsCompose command

-- why a run stops: what is told settles it so, or a file failed without which nothing is settled, or the work had
-- begun, with a log if it was that which failed
abbrev pub StopsBy : (List ℕ → Option (List ℕ)) → Option Command → Stop → Type 0
StopsBy told command (Refuses refusal) = Agrees (answer_to told command) (Refused refusal) × IsOfWords refusal command
StopsBy told command (File path) = answer_to (without path.now told) command ≡ Untold
StopsBy told command Output = IsSettled (answer_to told command) → IsWork (answer_to told command)
StopsBy told command Log = (IsSettled (answer_to told command) → IsWork (answer_to told command)) × (may_log told command ≡ true)
StopsBy told command Memory = Unit {0}

-- the count of faults that rose
abbrev pub CausedBy : Type 0 → Type 0 → Type 0 → Stop → Type 0
CausedBy files out err (Refuses refusal) = Unit {0}
CausedBy files out err (File path) = files
CausedBy files out err Output = out
CausedBy files out err Log = err
CausedBy files out err Memory = Unit {0}

-- a prefix of the output was written
abbrev pub IsFront : Answer → Option (List ℕ) → Option (List ℕ) → Type 0
IsFront answer out new_out = IsSettled answer → (bytes : List ℕ) × HasOut answer bytes × Part out new_out bytes

-- what out got before a run stopped: nothing, unless out itself failed
abbrev pub Keeps : Answer → Option (List ℕ) → Option (List ℕ) → Stop → Type 0
Keeps answer out new_out (Refuses refusal) = new_out ≡ out
Keeps answer out new_out (File path) = new_out ≡ out
Keeps answer out new_out Output = IsFront answer out new_out
Keeps answer out new_out Log = new_out ≡ out
Keeps answer out new_out Memory = new_out ≡ out

-- the whole output was written
abbrev pub IsWritten : Answer → Option (List ℕ) → Option (List ℕ) → Type 0
IsWritten answer out new_out = (bytes : List ℕ) × HasOut answer bytes × (new_out ≡ added bytes out)

-- .. with this status of the answer
abbrev pub IsDone : Answer → Option (List ℕ) → Option (List ℕ) → ℕ → Type 0
IsDone answer out new_out code = IsSettled answer → HasCode answer code × IsWritten answer out new_out × (code ≡ 0 → GivesOutTheSame answer)

-- the words ask for a comparison, of two recordings or of two policies
abbrev pub IsComparison : Option Command → Type 0
IsComparison None = ⊥
IsComparison (Some (Replay policy recording)) = ⊥
IsComparison (Some (Explain policy recording number)) = ⊥
IsComparison (Some (Twin policy one other)) = Unit {0}
IsComparison (Some (Sample n seed)) = ⊥
IsComparison (Some (Audit policy recordings)) = ⊥
IsComparison (Some (Within one other)) = Unit {0}
IsComparison (Some (Suggest recordings)) = ⊥
IsComparison (Some (Show message)) = ⊥
IsComparison (Some (Compose text)) = ⊥
IsComparison (Some (Session recording number)) = ⊥
IsComparison (Some (ListSessions recording)) = ⊥
IsComparison (Some Help) = ⊥
IsComparison (Some Version) = ⊥

-- the status of work that is done: 0, or that of a difference if there is a comparison
abbrev pub IsEnd : Option Command → ℕ → Type 0
IsEnd command code = (code ≡ 0) ⊎ ((code ≡ 7) × IsComparison command)

-- ---- the log

-- the whole log was written
abbrev pub IsLogged : (List ℕ → Option (List ℕ)) → Option Command → Option (List ℕ) → Option (List ℕ) → Type 0
IsLogged told command err new_err = (log : List ℕ) × IsLog told command log × (new_err ≡ added log err)

-- a prefix of the log was written
abbrev pub IsLogFront : (List ℕ → Option (List ℕ)) → Option Command → Option (List ℕ) → Option (List ℕ) → Type 0
IsLogFront told command err new_err = (log : List ℕ) × IsLog told command log × Part err new_err log

-- whole lines of these bytes were written, from the first on
abbrev pub WholeLinesOf : Option (List ℕ) → Option (List ℕ) → List ℕ → Type 0
WholeLinesOf err new_err log = (noted : List SessionNote) × (session_log noted ≡ log) × WholeSessionLines err new_err noted

-- whole lines of the log were written, or none
abbrev pub IsLogInLines : (List ℕ → Option (List ℕ)) → Option Command → Option (List ℕ) → Option (List ℕ) → Type 0
IsLogInLines told command err new_err = (log : List ℕ) × IsLog told command log × ((new_err ≡ err) ⊎ WholeLinesOf err new_err log)

-- what err got before a run stopped: nothing before the work, all of the log where out failed, and whole lines of it
-- where memory ran out
abbrev pub KeepsLog : (List ℕ → Option (List ℕ)) → Option Command → Option (List ℕ) → Option (List ℕ) → Stop → Type 0
KeepsLog told command err new_err (Refuses refusal) = new_err ≡ err
KeepsLog told command err new_err (File path) = new_err ≡ err
KeepsLog told command err new_err Output = IsLogged told command err new_err
KeepsLog told command err new_err Log = IsLogFront told command err new_err
KeepsLog told command err new_err Memory = IsLogInLines told command err new_err
