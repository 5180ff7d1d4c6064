use Rattle.recording.proofs.OneSession.{one_session}
use Rattle.recording.proofs.SessionsRead.{only_recording}
use Rattle.recording.proofs.laws.version_1_is_migrated.Goals as goal

pub returns-clause-same : goal.returns-clause-same
returns-clause-same c bytes r e = one_session bytes r e

pub returns-clause-only : goal.returns-clause-only
returns-clause-only c bytes s e v = only_recording bytes s e v
