use Rattle.recording.specs.Seen.{recording_seen}
use Rattle.replay.proofs.Twins.{GaveBoth}
use Rattle.replay.proofs.comparing.compare_watched.Given as goal

abbrev pub invariant-loop-same : goal.invariant-loop-same
invariant-loop-same l = GaveBoth l.policy (recording_seen l.one) (recording_seen l.other) l.first l.second l.same
