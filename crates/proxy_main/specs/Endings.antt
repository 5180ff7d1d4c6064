-- The ways in which a run ends.
--
--     0    the whole output was written, and the whole log on err; of two recordings: they are the same to the policy
--     1    the words name nothing
--     2    the policy file is refused
--     3    a recording, or the file of a message or of a text, is refused
--     4    a file could not be read
--     6    the output or the log could not be written
--     7    two recordings differ to the policy, and the whole line that says where was written
--     8    memory ran out
--     9    the recording has no message, or no session, of the number
--
-- The log is written before the output. A fault of err while a status's line is said changes no status: err got a front
-- of that line. Only what is told of the files settles what they hold.
use Rattle.std.specs.Prelude.{◌≡◌, ◌⊎◌, ℕ, true, List, [], Option}
use Rattle.link_traits.specs.Told.{added, Part}
use Rattle.link_traits.specs.Views.{FilesView, SinkView, FilesRose, SinkRose}
use Rattle.proxy_main.specs.declared.Refusal.{Refusal}
use Rattle.proxy_main.specs.declared.Stop.{Stop}
use Rattle.proxy_main.specs.declared.Stop.TheVariants as stop
use Rattle.proxy_main.specs.Words.{Command}
use Rattle.proxy_main.specs.Answers.{Untold, Refused, answer_to, IsSettled, Agrees, without, IsWork, refusal_code, may_log}
use Rattle.proxy_main.specs.Lines.{refusal_line, file_line, memory_line}
use Rattle.proxy_main.specs.Loads.{IsOfWords, IsEnd, IsDone, IsFront, IsLogged, IsLogFront, IsLogInLines}

-- a sink got a line, or a prefix of it if its count of faults rose
pub data Said (rose : Type 0) (old new : Option (List ℕ)) (line : List ℕ) : Type 0 where
  Whole : new ≡ added line old → Said rose old new line
  Cut : rose → Part old new line → Said rose old new line

-- err got whole lines of the log, and then a line
pub record SaidAfterLog (told : List ℕ → Option (List ℕ)) (command : Option Command) (rose : Type 0) (err new_err : Option (List ℕ)) (line : List ℕ) : Type 0 where
  pub between : Option (List ℕ)
  pub log : IsLogInLines told command err between
  pub said : Said rose between new_err line

-- how the run of a command ended, by the files, out and err before it and, with a prime, after it
pub data Ends (command : Option Command) (files files' : FilesView) (out out' err err' : SinkView) (code : ℕ) : Type 0 where
  -- the whole log and the whole output were written
  Done : IsEnd command code
      → IsDone (answer_to files.told command) out.told out'.told code
      → IsLogged files.told command err.told err'.told
      → Ends command files files' out out' err err' code
  -- the words or a file were refused
  Refuses : (refusal : Refusal) → code ≡ refusal_code refusal
      → Agrees (answer_to files.told command) (Refused refusal) → IsOfWords refusal command
      → out'.told ≡ out.told → Said (SinkRose err err') err.told err'.told (refusal_line refusal)
      → Ends command files files' out out' err err' code
  -- a file failed without which nothing is settled
  NoFile : (path : List ℕ) → code ≡ 4 → FilesRose files files'
      → answer_to (without path files.told) command ≡ Untold
      → out'.told ≡ out.told → Said (SinkRose err err') err.told err'.told (file_line path)
      → Ends command files files' out out' err err' code
  -- out failed while the output was written, after the whole log
  OutFails : code ≡ 6 → SinkRose out out'
      → (IsSettled (answer_to files.told command) → IsWork (answer_to files.told command))
      → IsFront (answer_to files.told command) out.told out'.told
      → IsLogged files.told command err.told err'.told
      → Ends command files files' out out' err err' code
  -- err failed while a log was written, before any output
  LogFails : code ≡ 6 → SinkRose err err' → may_log files.told command ≡ true
      → (IsSettled (answer_to files.told command) → IsWork (answer_to files.told command))
      → out'.told ≡ out.told
      → IsLogFront files.told command err.told err'.told
      → Ends command files files' out out' err err' code
  -- memory ran out
  NoMemory : code ≡ 8
      → out'.told ≡ out.told → SaidAfterLog files.told command (SinkRose err err') err.told err'.told memory_line
      → Ends command files files' out out' err err' code

-- ---- what err got, whatever the ending

-- the line of a status: none with 0, 6 and the 7 of a comparison
pub data LineOf (code : ℕ) (line : List ℕ) : Type 0 where
  NoLine : (code ≡ 0) ⊎ ((code ≡ 6) ⊎ (code ≡ 7)) → line ≡ [] → LineOf code line
  OfRefusal : (refusal : Refusal) → code ≡ refusal_code refusal → line ≡ refusal_line refusal → LineOf code line
  OfFile : (path : List ℕ) → code ≡ 4 → line ≡ file_line path → LineOf code line
  OfMemory : code ≡ 8 → line ≡ memory_line → LineOf code line

-- err got a prefix of the log, then a prefix of the status's line, and nothing else
pub record ErrFront (told : List ℕ → Option (List ℕ)) (command : Option Command) (err new_err : Option (List ℕ)) (code : ℕ) : Type 0 where
  pub between : Option (List ℕ)
  pub log : IsLogFront told command err between
  pub line : List ℕ
  pub is_line : LineOf code line
  pub front : Part between new_err line

-- ---- one status

-- a status comes exactly if its cause stands, unless memory ran out
abbrev pub Exactly : ℕ → ℕ → Type 0 → Type 0
Exactly code this cause = (code ≡ this → cause) × (cause → (code ≡ this) ⊎ (code ≡ 8))

-- .. or a file failed
abbrev pub ExactlyOfFiles : ℕ → ℕ → Type 0 → Type 0
ExactlyOfFiles code this cause = (code ≡ this → cause) × (cause → (code ≡ this) ⊎ ((code ≡ 4) ⊎ (code ≡ 8)))

-- the statuses that a fault of the outside or of memory may give in place of another
abbrev pub IsFree : ℕ → Type 0
IsFree code = (code ≡ 4) ⊎ ((code ≡ 6) ⊎ (code ≡ 8))

-- a status comes exactly if its cause stands, unless such a fault gave another
abbrev pub ExactlyOfWork : ℕ → ℕ → Type 0 → Type 0
ExactlyOfWork code this cause = (code ≡ this → cause) × (cause → (code ≡ this) ⊎ IsFree code)

-- ---- saying why a run stopped

-- a line was said with its status, or there was no memory for it and the line of 8 was
abbrev pub IsTold : ℕ → List ℕ → Type 0 → Option (List ℕ) → Option (List ℕ) → ℕ → Type 0
IsTold this line rose old new code = ((code ≡ this) × Said rose old new line) ⊎ ((code ≡ 8) × Said rose old new memory_line)

-- a run stops since the file at this path failed
abbrev pub IsStopOf : List ℕ → Stop → Type 0
IsStopOf path (stop.Refused refusal) = ⊥
IsStopOf path (stop.File shown) = shown.now ≡ path
IsStopOf path stop.Output = ⊥
IsStopOf path stop.Log = ⊥
IsStopOf path stop.Memory = ⊥

abbrev pub StopTold : Type 0 → Option (List ℕ) → Option (List ℕ) → ℕ → Stop → Type 0
StopTold rose old new code (stop.Refused refusal) = IsTold (refusal_code refusal) (refusal_line refusal) rose old new code
StopTold rose old new code (stop.File path) = IsTold 4 (file_line path.now) rose old new code
StopTold rose old new code stop.Output = (code ≡ 6) × (new ≡ old)
StopTold rose old new code stop.Log = (code ≡ 6) × (new ≡ old)
StopTold rose old new code stop.Memory = (code ≡ 8) × Said rose old new memory_line
