use Rattle.replay.proofs.OneSession.{one-log, one-output}
use Rattle.replay.proofs.laws.one_session_replays_alike.Goals as goal

pub returns-clause-output : goal.returns-clause-output
returns-clause-output c = one-output

pub returns-clause-log : goal.returns-clause-log
returns-clause-log c = one-log c.bytes_only_grow.ensures
