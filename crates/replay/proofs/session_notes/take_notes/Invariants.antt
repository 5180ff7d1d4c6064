use Rattle.std.proofs.Common.{List, length}
use Rattle.policy_view.specs.Notes.{Note}
use Rattle.replay.proofs.GatheredNotes.{Gathered}
use Rattle.replay.proofs.session_notes.take_notes.Given as goal

abbrev pub invariant-loop-note : goal.invariant-loop-note
invariant-loop-note l = record {
  taken : List Note;
  gathered : Gathered l.fn.session l.session l.number l.fn.notes.items l.notes.items taken;
}

abbrev pub decreases-loop-note : goal.decreases-loop-note
decreases-loop-note l = length l.session.notes
