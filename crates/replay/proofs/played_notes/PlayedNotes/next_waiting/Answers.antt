use Rattle.replay.proofs.NotesGiven.{notes-waiting}
use Rattle.replay.proofs.played_notes.PlayedNotes.next_waiting.Goals as goal

pub returns-clause-gave : goal.returns-clause-gave
returns-clause-gave c = λ options recording given gave.
    notes-waiting options recording c.args.self.now c.next_note.new.self given c.next_note.result c.next_note.ensures.none c.next_note.ensures.some (c.next_note.ensures.stands options.policy) gave
