use Rattle.std.proofs.Common.{◌≡◌, ◌++◌, length}
use Rattle.replay.proofs.listing.waiting_notes.Given as goal

-- the notes that were taken, and then those that wait
abbrev pub invariant-loop-note : goal.invariant-loop-note
invariant-loop-note l = l.notes.items ++ l.session.notes ≡ l.fn.session.notes

abbrev pub decreases-loop-note : goal.decreases-loop-note
decreases-loop-note l = length l.session.notes
