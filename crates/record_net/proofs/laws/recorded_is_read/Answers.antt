use Rattle.record_net.proofs.SessionLaws.{recorded_spelled, recorded_read}
use Rattle.record_net.proofs.laws.recorded_is_read.Goals as goal

pub returns-clause-spelled : goal.returns-clause-spelled
returns-clause-spelled c = recorded_spelled

pub returns-clause-read : goal.returns-clause-read
returns-clause-read c = recorded_read c.written_sessions_are_read.ensures
