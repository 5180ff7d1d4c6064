-- Reading recordings one after the other: what it gives, and why a run stops at one of them.
use Rattle.std.specs.Prelude.{◌≡◌, ℕ, List, Option}
use Rattle.recording.specs.Recording.{Recording}
use Rattle.proxy_main.specs.declared.Stop.{Stop}
use Rattle.proxy_main.specs.declared.Stop.TheVariants.{Refused as Refuses, File, Output, Log, Memory}
use Rattle.proxy_main.specs.Answers.{Answer, Untold, Refused, then_recordings, Agrees, IsSettled, without}
use Rattle.proxy_main.specs.Loads.{IsOfFile}
use Rattle.proxy_main.specs.FilesRead.{NeededUntil, ReadUntil, recordings_up_to_bad}

-- the same is told of each file
abbrev pub IsTold : (List ℕ → Option (List ℕ)) → (List ℕ → Option (List ℕ)) → Type 0
IsTold told other = (path : List ℕ) → told path ≡ other path

-- all of these recordings were read and are good, whatever the work on them
pub record AreGood (told : List ℕ → Option (List ℕ)) (paths : List (List ℕ)) (recordings : List Recording) : Type 0 where
  pub loaded : (work : List Recording → Answer) → Agrees (then_recordings told paths work) (work recordings)
  pub needed : recordings_up_to_bad told paths ≡ paths

-- one of the recordings is why a run stops, whatever the work on them
abbrev pub OneStops : (List ℕ → Option (List ℕ)) → List (List ℕ) → Stop → Type 0
OneStops told paths (Refuses refusal) = ((work : List Recording → Answer) → Agrees (then_recordings told paths work) (Refused refusal)) × IsOfFile refusal
OneStops told paths (File path) = (work : List Recording → Answer) → then_recordings (without path.now told) paths work ≡ Untold
OneStops told paths Output = ⊥
OneStops told paths Log = ⊥
OneStops told paths Memory = Unit {0}

-- .. and what was read until then
pub record StopsIn (told : List ℕ → Option (List ℕ)) (paths reads new_reads : List (List ℕ)) (stop : Stop) : Type 0 where
  pub stops : OneStops told paths stop
  pub until : ReadUntil 0 paths reads new_reads stop
  pub needed : (work : List Recording → Answer) → NeededUntil (IsSettled (then_recordings told paths work)) (recordings_up_to_bad told paths) reads new_reads stop
