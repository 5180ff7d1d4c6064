use Rattle.recording.specs.Seen.{recording_seen}
use Rattle.replay.proofs.Elements.{gave-start}
use Rattle.replay.proofs.watching.Watched.new.Goals as goal

pub returns : goal.returns
returns c = gave-start c.args.policy.now (recording_seen c.args.recording.now) c.in_ok-watching.field-0 c.in_ok-watching.ensures.start c.in_ok-watching.ensures.stands
