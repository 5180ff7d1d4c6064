use Rattle.record_net.proofs.SessionLaws.{records_spelled, events_told}
use Rattle.record_net.proofs.laws.records_tell_each_session.Goals as goal

pub returns-clause-records : goal.returns-clause-records
returns-clause-records c = records_spelled

pub returns-clause-sessions : goal.returns-clause-sessions
returns-clause-sessions c = events_told
