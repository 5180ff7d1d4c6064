use Rattle.std.proofs.Common.{◌≡◌, ◌+◌}
use Rattle.replay_output.specs.Explained.{note_at}
use Rattle.replay.proofs.explaining.note_of.Given as goal

abbrev pub invariant-loop-before : goal.invariant-loop-before
invariant-loop-before l = note_at l.session.notes (l.before + 1) ≡ note_at l.fn.session.notes l.number

abbrev pub decreases-loop-before : goal.decreases-loop-before
decreases-loop-before l = l.before
