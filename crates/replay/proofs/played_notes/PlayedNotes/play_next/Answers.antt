use Rattle.std.proofs.Common.{◌≡◌, ◌∷◌, ◌+◌, ◌∙◌, List, ap, sym, arith, drop, map}
use Rattle.policy_args.specs.Seen.{options_seen}
use Rattle.recording.specs.Recording as recorded
use Rattle.recording.specs.Seen.{recording_seen, seen}
use Rattle.replay.proofs.NotesGiven.{fewer-end, fewer-piece, next_left, notes-end, notes-piece}
use Rattle.replay.proofs.played_notes.PlayedNotes.play_next.Goals as goal

pub returns-in-Bytes-clause-gave : goal.returns-in-Bytes-clause-gave
returns-in-Bytes-clause-gave c = λ given gave.
    let old = c.args.self.now in
    let es = map seen c.args.recording.now.events.items in
    let next : drop old.played es ≡ recorded.Bytes c.in-Bytes.side c.as_slice.result.now ∷ drop (old.played + 1) es =
    next_left c.args.recording.now.events.items old.played c.index.result.now c.requires c.index.ensures
    ∙ ap (λ e. seen e ∷ drop (old.played + 1) es) c.in-Bytes.is ∙ ap (λ b. recorded.Bytes c.in-Bytes.side b ∷ drop (old.played + 1) es) (sym c.as_slice.ensures) in
    notes-piece (options_seen c.args.options.now) (recording_seen c.args.recording.now) old c.play_piece.new.self c.in-Bytes.side c.as_slice.result.now _ given c.cuts_change_no_bytes.ensures next
    c.play_piece.ensures.mode c.play_piece.ensures.stands (c.play_piece.ensures.whole, c.play_piece.ensures.begun) gave

pub returns-in-Bytes-clause-less : goal.returns-in-Bytes-clause-less
returns-in-Bytes-clause-less c =
    let old = c.args.self.now in
    let es = map seen c.args.recording.now.events.items in
    let next : drop old.played es ≡ recorded.Bytes c.in-Bytes.side c.as_slice.result.now ∷ drop (old.played + 1) es =
    next_left c.args.recording.now.events.items old.played c.index.result.now c.requires c.index.ensures
    ∙ ap (λ e. seen e ∷ drop (old.played + 1) es) c.in-Bytes.is ∙ ap (λ b. recorded.Bytes c.in-Bytes.side b ∷ drop (old.played + 1) es) (sym c.as_slice.ensures) in
    fewer-piece es old c.play_piece.new.self c.in-Bytes.side c.as_slice.result.now 65536 next (omega arith) (c.play_piece.ensures.whole, c.play_piece.ensures.begun)

pub returns-in-Finished-clause-gave : goal.returns-in-Finished-clause-gave
returns-in-Finished-clause-gave c = λ given gave.
    let old = c.args.self.now in
    let es = map seen c.args.recording.now.events.items in
    let next : drop old.played es ≡ recorded.Finished c.in-Finished.side ∷ drop (old.played + 1) es =
    next_left c.args.recording.now.events.items old.played c.index.result.now c.requires c.index.ensures ∙ ap (λ e. seen e ∷ drop (old.played + 1) es) c.in-Finished.is in
    notes-end (options_seen c.args.options.now) (recording_seen c.args.recording.now) old c.play_end.new.self c.in-Finished.side given next c.play_end.ensures.mode (c.play_end.ensures.stands c.args.options.now.policy) c.play_end.ensures.played gave

pub returns-in-Finished-clause-less : goal.returns-in-Finished-clause-less
returns-in-Finished-clause-less c =
    let old = c.args.self.now in
    let es = map seen c.args.recording.now.events.items in
    let next : drop old.played es ≡ recorded.Finished c.in-Finished.side ∷ drop (old.played + 1) es =
    next_left c.args.recording.now.events.items old.played c.index.result.now c.requires c.index.ensures ∙ ap (λ e. seen e ∷ drop (old.played + 1) es) c.in-Finished.is in
    fewer-end es old c.play_end.new.self c.in-Finished.side next c.play_end.ensures.played
