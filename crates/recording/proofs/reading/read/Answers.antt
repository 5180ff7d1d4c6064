use Rattle.std.proofs.Common.{arith, ℕ, ◌≡◌, List, map, Result, Ok}
use Rattle.std.specs.Result.{IsErrAnd}
use Rattle.std.proofs.lemmas.Result.{err_from_is_err_and}
use Rattle.recording.specs.Gives.{Gives}
use Rattle.recording.specs.Recording.{recording_of, Recording as Read}
use Rattle.recording.specs.declared.Recording.{Recording}
use Rattle.recording.specs.declared.RecordingRefusal.{RecordingRefusal}
use Rattle.recording.specs.declared.RecordingRefusal.TheVariants.{Memory}
use Rattle.recording.specs.Seen.{seen, recording_seen}
use Rattle.recording.proofs.RecordingRead.{recording-is}
use Rattle.recording.proofs.Sizes.{recording-size, fits}
use Rattle.recording.proofs.Walk.{recording-is_passed, recording-without_fault}
use Rattle.recording.proofs.reading.read.Goals as goal

pub returns-clause-exact : goal.returns-clause-exact
returns-clause-exact c =
    recording-is_passed c.args.bytes.now c.in_ok-file.file c.in_ok-checked.checked.auth c.in_ok-checked.checked.records (map seen c.in_ok-events.events.items) c.in_ok-checked.ensures.ok c.in_ok-file.ensures c.in_ok-events.ensures

pub returns-clause-spelled : goal.returns-clause-spelled
returns-clause-spelled c =
    (recording-is c.args.bytes.now _ (λ i. omega (arith, c.type_inv.bytes i)) (recording-is_passed c.args.bytes.now c.in_ok-file.file c.in_ok-checked.checked.auth c.in_ok-checked.checked.records (map seen c.in_ok-events.events.items) c.in_ok-checked.ensures.ok c.in_ok-file.ensures c.in_ok-events.ensures)).is

pub returns-clause-size : goal.returns-clause-size
returns-clause-size c =
    recording-size c.args.bytes.now _ (recording-is_passed c.args.bytes.now c.in_ok-file.file c.in_ok-checked.checked.auth c.in_ok-checked.checked.records (map seen c.in_ok-events.events.items) c.in_ok-checked.ensures.ok c.in_ok-file.ensures c.in_ok-events.ensures)

pub returns-clause-fits : goal.returns-clause-fits
returns-clause-fits c =
    fits (map seen c.in_ok-events.events.items) (recording-size c.args.bytes.now _ (recording-is_passed c.args.bytes.now c.in_ok-file.file c.in_ok-checked.checked.auth c.in_ok-checked.checked.records (map seen c.in_ok-events.events.items) c.in_ok-checked.ensures.ok c.in_ok-file.ensures c.in_ok-events.ensures))

-- memory is refused where the first pass found no fault
refused : (result : Result Recording RecordingRefusal) (bytes : List ℕ) → IsErrAnd result (λ e. e ≡ Memory) → (r : Read) × (recording_of bytes ≡ Ok r) → Gives recording_seen result (recording_of bytes)
refused result bytes e sound = let p = err_from_is_err_and result e in rw (p.1, p.2) sound

pub returns-in_err-file-clause-exact : goal.returns-in_err-file-clause-exact
returns-in_err-file-clause-exact c =
    refused c.from_residual-in_err-file.result c.args.bytes.now c.from_residual-in_err-file.ensures.1
    (recording-without_fault c.args.bytes.now c.in_ok-checked.checked.auth c.in_ok-checked.checked.records c.in_ok-checked.ensures.ok)

pub returns-in_err-events-clause-exact : goal.returns-in_err-events-clause-exact
returns-in_err-events-clause-exact c =
    refused c.from_residual-in_err-events.result c.args.bytes.now c.from_residual-in_err-events.ensures.1
    (recording-without_fault c.args.bytes.now c.in_ok-checked.checked.auth c.in_ok-checked.checked.records c.in_ok-checked.ensures.ok)
