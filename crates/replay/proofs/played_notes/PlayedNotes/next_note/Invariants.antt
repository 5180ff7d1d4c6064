use Rattle.std.proofs.Common.{List}
use Rattle.policy_args.specs.Seen.{options_seen}
use Rattle.policy_view.specs.Notes.{Note}
use Rattle.recording.specs.Seen.{recording_seen}
use Rattle.replay.specs.PlayedNotes.{GaveNotes, left_of, most_pieces}
use Rattle.replay.proofs.played_notes.PlayedNotes.next_note.Given as goal

abbrev pub invariant-loop-note : goal.invariant-loop-note
invariant-loop-note l = (given : List Note) → GaveNotes (options_seen l.options) (recording_seen l.recording) l.fn.self given → GaveNotes (options_seen l.options) (recording_seen l.recording) l.self given

abbrev pub decreases-loop-note : goal.decreases-loop-note
decreases-loop-note l = most_pieces (left_of (recording_seen l.recording).events l.self)
