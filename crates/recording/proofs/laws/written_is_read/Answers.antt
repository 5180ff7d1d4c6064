use Rattle.std.proofs.lemmas.List.Elements.{recursion_from_All}
use Rattle.recording.specs.Seen.{Fits}
use Rattle.recording.proofs.RecordingLaws.{recording_again}
use Rattle.recording.proofs.laws.written_is_read.Goals as goal

pub returns : goal.returns
returns c r fits short = recording_again r (recursion_from_All Fits r.events fits) short
