use Rattle.std.proofs.Common.{arith}
use Rattle.std.proofs.lemmas.List.{length-map}
use Rattle.policy_args.specs.Seen.{options_seen}
use Rattle.recording.specs.Seen.{recording_seen, seen}
use Rattle.replay.proofs.NotesGiven.{no-next-note}
use Rattle.replay.proofs.played_notes.PlayedNotes.next_note.Goals as goal

pub returns-then-self-len : goal.returns-then-self-len
returns-then-self-len c = λ given gave.
    let options = options_seen c.args.options.now in
    let recording = recording_seen c.args.recording.now in
    no-next-note options recording c.next_waiting.new.self given c.ended.result c.none_unless_memory.result
    (omega (arith, length-map c.args.recording.now.events.items seen, c.len.ensures))
    (c.in_default.ensures.gave options recording given (c.loop-note.invariant given gave)) c.ended.ensures c.none_unless_memory.ensures.ok
