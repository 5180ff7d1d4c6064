-- What reading answers.
use Rattle.std.specs.Prelude.{◌≡◌, Result, Ok, Err}
use Rattle.recording.specs.declared.BadRecording.{BadRecording}
use Rattle.recording.specs.declared.RecordingRefusal.{RecordingRefusal}
use Rattle.recording.specs.declared.RecordingRefusal.TheVariants.{Bad, Memory}

-- a fault is the one of the file, and memory runs out only if there is none
abbrev pub Fails : {Y : Type 0} → RecordingRefusal → Result Y BadRecording → Type 0
Fails {Y} Memory read = (y : Y) × (read ≡ Ok y)
Fails (Bad fault) read = read ≡ Err fault

-- an answer is what the file gives, seen so
abbrev pub Gives : {X Y : Type 0} → (X → Y) → Result X RecordingRefusal → Result Y BadRecording → Type 0
Gives view (Ok x) read = read ≡ Ok (view x)
Gives view (Err e) read = Fails e read

-- the same, if memory may run out before the first fault is found
abbrev pub GivesUnlessMemory : {X Y : Type 0} → (X → Y) → Result X RecordingRefusal → Result Y BadRecording → Type 0
GivesUnlessMemory view (Ok x) read = read ≡ Ok (view x)
GivesUnlessMemory view (Err (Bad fault)) read = read ≡ Err fault
GivesUnlessMemory view (Err Memory) read = Unit {0}
