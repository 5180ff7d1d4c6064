-- The files that a run reads: those that its words name and no other, each once and in the order of the words, up to
-- the one at which it stops. None is read after one that is bad.
use Rattle.std.specs.Prelude.{◌≡◌, ◌≤◌, ◌⊎◌, ℕ, zero, suc, List, [], ◌∷◌, ◌++◌, take, Option, Some, None, Result, Ok, Err}
use Rattle.link_traits.specs.Told.{ReadFront, ReadTo}
use Rattle.proxy_main.specs.declared.Refusal.{Refusal}
use Rattle.proxy_main.specs.declared.Refusal.TheVariants.{Usage, LineWord, ArgsTooLong, PolicyWord, PolicyTooLong, Recording, NoSuchMessage, NoSuchSession, TooManyEntries, Message, Text}
use Rattle.proxy_main.specs.declared.Stop.{Stop}
use Rattle.proxy_main.specs.declared.Stop.TheVariants.{Refused as Refuses, File, Output, Log, Memory}
use Rattle.proxy_main.specs.Words.{Command, Replay, Explain, Twin, Sample, Audit, Within, Suggest, Show, Compose, Session, ListSessions, Help, Version}
use Rattle.proxy_main.specs.Answers.{checked_policy, checked_recording}
use Rattle.proxy_main.specs.Lines.{file_line}
use Rattle.proxy_main.specs.Endings.{Said}

-- the paths that a command names, in the order in which they are read
abbrev pub paths_of : Option Command → List (List ℕ)
paths_of None = []
paths_of (Some (Replay policy recording)) = policy ∷ recording ∷ []
paths_of (Some (Explain policy recording number)) = policy ∷ recording ∷ []
paths_of (Some (Twin policy one other)) = policy ∷ one ∷ other ∷ []
paths_of (Some (Sample n seed)) = []
paths_of (Some (Audit policy recordings)) = policy ∷ recordings
paths_of (Some (Within one other)) = one ∷ other ∷ []
paths_of (Some (Suggest recordings)) = recordings
paths_of (Some (Show message)) = message ∷ []
paths_of (Some (Compose text)) = text ∷ []
paths_of (Some (Session recording number)) = recording ∷ []
paths_of (Some (ListSessions recording)) = recording ∷ []
paths_of (Some Help) = []
paths_of (Some Version) = []

-- how many of these are policy files; they are the first
abbrev pub policies_of : Option Command → ℕ
policies_of None = 0
policies_of (Some (Replay policy recording)) = 1
policies_of (Some (Explain policy recording number)) = 1
policies_of (Some (Twin policy one other)) = 1
policies_of (Some (Sample n seed)) = 0
policies_of (Some (Audit policy recordings)) = 1
policies_of (Some (Within one other)) = 2
policies_of (Some (Suggest recordings)) = 0
policies_of (Some (Show message)) = 0
policies_of (Some (Compose text)) = 0
policies_of (Some (Session recording number)) = 0
policies_of (Some (ListSessions recording)) = 0
policies_of (Some Help) = 0
policies_of (Some Version) = 0

-- ---- the files that are needed

-- more files are needed after a check that refuses nothing, ..
abbrev pub unless_refused : {A : Type 0} → Result A Refusal → List (List ℕ) → List (List ℕ)
unless_refused (Ok x) more = more
unless_refused (Err refusal) more = []

-- .. and after a file that isn't bad, by what is told of it
abbrev pub behind : {A : Type 0} → Option (List ℕ) → (List ℕ → Result A Refusal) → List (List ℕ) → List (List ℕ)
behind None check more = more
behind (Some bytes) check more = unless_refused (check bytes) more

-- recordings, up to the first that is bad
abbrev pub recordings_up_to_bad : (List ℕ → Option (List ℕ)) → List (List ℕ) → List (List ℕ)
recordings_up_to_bad told [] = []
recordings_up_to_bad told (path ∷ others) = path ∷ behind (told path) checked_recording (recordings_up_to_bad told others)

-- this many policy files and the recordings after them, up to the first that is bad
abbrev pub up_to_bad : ℕ → (List ℕ → Option (List ℕ)) → List (List ℕ) → List (List ℕ)
up_to_bad zero told paths = recordings_up_to_bad told paths
up_to_bad (suc policies) told [] = []
up_to_bad (suc policies) told (policy ∷ others) = policy ∷ behind (told policy) checked_policy (up_to_bad policies told others)

-- The files that a command needs: those that it names, up to the first that is bad, if its content is known. The last
-- one is needed whatever it holds, as are the recording of a replay or of one session, and the file of a message or of
-- a text.
abbrev pub needed : (List ℕ → Option (List ℕ)) → Option Command → List (List ℕ)
needed told command = up_to_bad (policies_of command) told (paths_of command)

-- ---- where a run stopped

-- a file that was not read was the last, and err got its line
abbrev pub LastFailed : List (List ℕ) → List (List ℕ) → List (List ℕ) → Type 0 → Option (List ℕ) → Option (List ℕ) → Type 0
LastFailed named reads new_reads err_rose err new_err = (path : List ℕ) × ReadTo path named reads new_reads × Said err_rose err new_err (file_line path)

-- of the files that are named one of the first was the last, which are policy files
pub record EndsAtPolicy (policies : ℕ) (named reads new_reads : List (List ℕ)) : Type 0 where
  pub count : ℕ
  pub some : 1 ≤ count
  pub within : count ≤ policies
  pub are : new_reads ≡ reads ++ take count named

-- which files a tool's run read of those that its words name, of which the first are policy files, by its status
pub record ToolReads (policies : ℕ) (named reads new_reads : List (List ℕ)) (err_rose : Type 0) (err new_err : Option (List ℕ)) (code : ℕ) : Type 0 where
  -- Those that were read are a prefix of them, and no other file was read.
  pub front : ReadFront named reads new_reads
  -- With 0, 6, 7 and 9 all were, with 2 the last is a policy file, and with 4 it is the one that could not be.
  pub all : (code ≡ 0) ⊎ ((code ≡ 6) ⊎ ((code ≡ 7) ⊎ (code ≡ 9))) → new_reads ≡ reads ++ named
  pub policy : code ≡ 2 → EndsAtPolicy policies named reads new_reads
  pub last : code ≡ 4 → LastFailed named reads new_reads err_rose err new_err

-- which files of words a proxy line's run read, by its status
pub record LineReads (named reads new_reads : List (List ℕ)) (err_rose : Type 0) (err new_err : Option (List ℕ)) (code : ℕ) : Type 0 where
  -- Those that were read are a prefix of those that the words name, and no other file was read.
  pub front : ReadFront named reads new_reads
  -- With 0 and 5 all were, and with 4 the last is the one that could not be, or all were, and the file of a recording
  -- failed.
  pub all : (code ≡ 0) ⊎ (code ≡ 5) → new_reads ≡ reads ++ named
  pub last : code ≡ 4 → LastFailed named reads new_reads err_rose err new_err ⊎ (new_reads ≡ reads ++ named)

-- ---- why a run stopped

-- a refusal of a policy file
abbrev pub IsOfPolicy : Refusal → Type 0
IsOfPolicy Usage = ⊥
IsOfPolicy (LineWord bad) = ⊥
IsOfPolicy ArgsTooLong = ⊥
IsOfPolicy (PolicyWord bad) = Unit {0}
IsOfPolicy PolicyTooLong = Unit {0}
IsOfPolicy (Recording fault) = ⊥
IsOfPolicy NoSuchMessage = ⊥
IsOfPolicy NoSuchSession = ⊥
IsOfPolicy TooManyEntries = ⊥
IsOfPolicy (Message bad) = ⊥
IsOfPolicy (Text bad) = ⊥

-- a refusal of a recording, or of the file of a message or of a text
abbrev pub IsOfInput : Refusal → Type 0
IsOfInput Usage = ⊥
IsOfInput (LineWord bad) = ⊥
IsOfInput ArgsTooLong = ⊥
IsOfInput (PolicyWord bad) = ⊥
IsOfInput PolicyTooLong = ⊥
IsOfInput (Recording fault) = Unit {0}
IsOfInput NoSuchMessage = ⊥
IsOfInput NoSuchSession = ⊥
IsOfInput TooManyEntries = ⊥
IsOfInput (Message bad) = Unit {0}
IsOfInput (Text bad) = Unit {0}

-- a refusal of the work on files that were read: of the number of a message or of a session, or of a policy that would
-- have too many entries
abbrev pub IsOfWork : Refusal → Type 0
IsOfWork Usage = ⊥
IsOfWork (LineWord bad) = ⊥
IsOfWork ArgsTooLong = ⊥
IsOfWork (PolicyWord bad) = ⊥
IsOfWork PolicyTooLong = ⊥
IsOfWork (Recording fault) = ⊥
IsOfWork NoSuchMessage = Unit {0}
IsOfWork NoSuchSession = Unit {0}
IsOfWork TooManyEntries = Unit {0}
IsOfWork (Message bad) = ⊥
IsOfWork (Text bad) = ⊥

-- the file at the path is why, or memory
abbrev pub StopsAt : (Refusal → Type 0) → List ℕ → Stop → Type 0
StopsAt refuses path (Refuses refusal) = refuses refusal
StopsAt refuses path (File p) = p.now ≡ path
StopsAt refuses path Output = ⊥
StopsAt refuses path Log = ⊥
StopsAt refuses path Memory = Unit {0}

-- what is done once all files are read is why
abbrev pub StopsWork : Stop → Type 0
StopsWork (Refuses refusal) = IsOfWork refusal
StopsWork (File path) = ⊥
StopsWork Output = Unit {0}
StopsWork Log = Unit {0}
StopsWork Memory = Unit {0}

-- what was read of the named files before a refusal ..
abbrev pub ReadBefore : ℕ → List (List ℕ) → List (List ℕ) → List (List ℕ) → Refusal → Type 0
ReadBefore policies named reads new_reads Usage = ReadFront named reads new_reads
ReadBefore policies named reads new_reads (LineWord bad) = ⊥
ReadBefore policies named reads new_reads ArgsTooLong = ⊥
ReadBefore policies named reads new_reads (PolicyWord bad) = EndsAtPolicy policies named reads new_reads
ReadBefore policies named reads new_reads PolicyTooLong = EndsAtPolicy policies named reads new_reads
ReadBefore policies named reads new_reads (Recording fault) = ReadFront named reads new_reads
ReadBefore policies named reads new_reads NoSuchMessage = new_reads ≡ reads ++ named
ReadBefore policies named reads new_reads NoSuchSession = new_reads ≡ reads ++ named
ReadBefore policies named reads new_reads TooManyEntries = new_reads ≡ reads ++ named
ReadBefore policies named reads new_reads (Message bad) = ReadFront named reads new_reads
ReadBefore policies named reads new_reads (Text bad) = ReadFront named reads new_reads

-- .. and before a tool's run stopped
abbrev pub ReadUntil : ℕ → List (List ℕ) → List (List ℕ) → List (List ℕ) → Stop → Type 0
ReadUntil policies named reads new_reads (Refuses refusal) = ReadBefore policies named reads new_reads refusal
ReadUntil policies named reads new_reads (File path) = ReadTo path.now named reads new_reads
ReadUntil policies named reads new_reads Output = new_reads ≡ reads ++ named
ReadUntil policies named reads new_reads Log = new_reads ≡ reads ++ named
ReadUntil policies named reads new_reads Memory = ReadFront named reads new_reads

-- ---- which of the needed files were read ..

-- .. before a tool's run stopped: all, if a refusal is settled by what is told or the work had begun
abbrev pub NeededUntil : Type 0 → List (List ℕ) → List (List ℕ) → List (List ℕ) → Stop → Type 0
NeededUntil settled files reads new_reads (Refuses refusal) = ReadFront files reads new_reads × (settled → new_reads ≡ reads ++ files)
NeededUntil settled files reads new_reads (File path) = ReadFront files reads new_reads
NeededUntil settled files reads new_reads Output = new_reads ≡ reads ++ files
NeededUntil settled files reads new_reads Log = new_reads ≡ reads ++ files
NeededUntil settled files reads new_reads Memory = ReadFront files reads new_reads

-- .. and before it ended, if it didn't stop: all
abbrev pub ReadsNeeded : {A : Type 0} → Type 0 → List (List ℕ) → List (List ℕ) → List (List ℕ) → Result A Stop → Type 0
ReadsNeeded settled files reads new_reads (Ok done) = new_reads ≡ reads ++ files
ReadsNeeded settled files reads new_reads (Err stop) = NeededUntil settled files reads new_reads stop
