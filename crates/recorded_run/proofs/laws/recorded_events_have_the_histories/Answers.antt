use Rattle.recorded_run.proofs.Histories.{histories}
use Rattle.recorded_run.proofs.laws.recorded_events_have_the_histories.Goals as goal

pub returns : goal.returns
returns c = histories c.records_tell_each_session.ensures.sessions
