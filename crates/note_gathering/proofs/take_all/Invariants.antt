use Rattle.std.proofs.Common.{List}
use Rattle.policy_args.specs.Seen.{options_seen}
use Rattle.policy_view.specs.Notes.{Note}
use Rattle.recording.specs.Seen.{recording_seen}
use Rattle.replay.specs.PlayedNotes.{GaveNotes}
use Rattle.note_gathering.proofs.take_all.Given as goal

abbrev pub invariant-loop-item : goal.invariant-loop-item
invariant-loop-item g l = record {
  given : List Note;
  gave : GaveNotes (options_seen l.options) (recording_seen l.recording) l.played given;
  gathered : g.G.Gatherer.stands_for l.gather given l.gathered;
}
