use Rattle.replay.proofs.NotesGiven.{notes-let-go}
use Rattle.replay.proofs.played_notes.PlayedNotes.let_go.Goals as goal

pub returns-clause-gave : goal.returns-clause-gave
returns-clause-gave c = λ options recording given gave.
    notes-let-go options recording c.args.self.now c.let_go_bytes.new.session given c.let_go_bytes.ensures.view (c.let_go_bytes.ensures.stands options.policy) gave
