use Rattle.recorded_run.proofs.Replays.{replayed_alike}
use Rattle.recorded_run.proofs.laws.recorded_histories_are_replayed.Goals as goal

pub returns : goal.returns
returns c = replayed_alike
