use Rattle.std.proofs.Common.{◌++◌, ◌∷◌, []}
use Rattle.replay.proofs.GatheredNotes.{gathered-all, gathered-left, gathered-stands, gathered-start, gathered-step}
use Rattle.replay.proofs.session_notes.take_notes.Goals as goal

pub loop-note-init : goal.loop-note-init
loop-note-init c = record { taken = []; gathered = gathered-start c.args.session.now c.args.number c.args.notes.now.items }

pub loop-note-preserved : goal.loop-note-preserved
loop-note-preserved c =
    let gathered = c.loop-note.invariant.gathered in
    record {
      taken = c.loop-note.invariant.taken ++ c.in-Some.note ∷ [];
      gathered = gathered-step _ _ _ _ _ _ _ c.loop-note.invariant.taken c.in-Some.ensures.some.0 c.in-Some.note gathered c.in-Some.ensures.some.1 c.in-Some.ensures.some.2 c.in_ok-push.ensures.items c.in-Some.ensures.stands;
    }

pub returns : goal.returns
returns c =
    let gathered = c.loop-note.invariant.gathered in
    record {
      taken = gathered-all _ _ _ _ _ _ c.loop-note.invariant.taken gathered c.in_default.ensures.none.0 c.in_default.ensures.none.1;
      session = gathered-left _ _ _ _ _ _ c.loop-note.invariant.taken gathered c.in_default.ensures.none.0 c.in_default.ensures.none.1;
      stands = gathered-stands _ _ _ _ _ _ c.loop-note.invariant.taken gathered c.in_default.ensures.none.0 c.in_default.ensures.none.1;
    }
