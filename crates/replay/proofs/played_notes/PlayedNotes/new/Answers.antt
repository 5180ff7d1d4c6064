use Rattle.std.proofs.Common.{arith}
use Rattle.std.proofs.lemmas.List.{length-map}
use Rattle.policy_args.specs.Seen.{options_seen}
use Rattle.recording.specs.Seen.{recording_seen, seen}
use Rattle.replay.proofs.NotesGiven.{notes-start}
use Rattle.replay.proofs.played_notes.PlayedNotes.new.Goals as goal

pub returns : goal.returns
returns c = notes-start c.an_unfiltered_session_passes_all.ensures.with_each_event (options_seen c.args.options.now) (recording_seen c.args.recording.now) c.in_ok-new.field-0 c.first_event.result c.in_ok-new.ensures.start c.in_ok-new.ensures.stands
    c.first_event.ensures.all (λ off. omega (arith, c.first_event.ensures.none off, length-map c.args.recording.now.events.items seen))
