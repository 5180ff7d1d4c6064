use Rattle.replay.proofs.OnlySession.{version-1-log, version-1-output}
use Rattle.replay.proofs.laws.version_1_is_replayed.Goals as goal

pub returns-clause-output : goal.returns-clause-output
returns-clause-output c = version-1-output

pub returns-clause-log : goal.returns-clause-log
returns-clause-log c = version-1-log
