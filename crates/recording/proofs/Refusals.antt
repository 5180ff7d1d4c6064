-- A refusal that is passed on.
use Rattle.std.proofs.Common.{◌≡◌, Result, Err}
use Rattle.recording.specs.declared.BadRecording.{BadRecording}
use Rattle.recording.specs.declared.RecordingRefusal.{RecordingRefusal}
use Rattle.recording.specs.declared.RecordingRefusal.TheVariants.{Bad, Memory}
use Rattle.recording.specs.Gives.{GivesUnlessMemory}

pub passed_on : {X Y V W : Type 0} (refusal : RecordingRefusal) (u : X → Y) (v : V → W) (one : Result Y BadRecording) (other : Result W BadRecording) →
    GivesUnlessMemory u (Err refusal) one → ((fault : BadRecording) → one ≡ Err fault → other ≡ Err fault) → GivesUnlessMemory v (Err refusal) other
passed_on (Bad fault) u v one other g h = h fault g
passed_on Memory u v one other g h = tt
