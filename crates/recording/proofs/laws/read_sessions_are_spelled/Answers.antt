use Rattle.byte_lists.proofs.Bytes.{AreBytes-from_All}
use Rattle.recording.proofs.SessionsRead.{sessions-readable, sessions-are}
use Rattle.recording.proofs.laws.read_sessions_are_spelled.Goals as goal

pub returns-clause-readable : goal.returns-clause-readable
returns-clause-readable c bytes s are e = sessions-readable bytes s (AreBytes-from_All bytes are) e

pub returns-clause-spelled : goal.returns-clause-spelled
returns-clause-spelled c bytes s are e two = sessions-are bytes s (AreBytes-from_All bytes are) e two
