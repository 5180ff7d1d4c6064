use Rattle.recording.specs.Seen.{recording_seen}
use Rattle.replay.proofs.Twins.{equal-outputs}
use Rattle.replay.proofs.comparing.twin.Goals as goal

pub returns-clause-output : goal.returns-clause-output
returns-clause-output c =
    equal-outputs c.args.policy.now (recording_seen c.args.one.now) (recording_seen c.args.other.now) c.compare.result (c.what_is_hidden_changes_nothing.ensures c.args.policy.now _ _ _ _) c.compare.ensures
