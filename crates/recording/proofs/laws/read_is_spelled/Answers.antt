use Rattle.byte_lists.proofs.Bytes.{AreBytes-from_All}
use Rattle.recording.proofs.RecordingRead.{recording-is}
use Rattle.recording.proofs.laws.read_is_spelled.Goals as goal

pub returns : goal.returns
returns c bytes r are e = (recording-is bytes r (AreBytes-from_All bytes are) e).is
