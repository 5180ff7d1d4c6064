use Rattle.std.proofs.Common.{◌≡◌, take}
use Rattle.std.specs.List.{AllZip}
use Rattle.note_gathering.proofs.jobs_of.Given as goal

abbrev pub invariant-loop-recording : goal.invariant-loop-recording
invariant-loop-recording g l =
    AllZip (λ recording job. (job.gather.now ≡ l.gather) × (job.options.now ≡ l.options) × (job.recording.now ≡ recording)) (take l.recording-index l.recordings) l.jobs.items
