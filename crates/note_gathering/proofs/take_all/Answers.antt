use Rattle.std.proofs.Common.{◌≡◌, [], subst, sym}
use Rattle.policy_args.specs.Seen.{options_seen}
use Rattle.recording.specs.Seen.{recording_seen}
use Rattle.replay.specs.PlayedNotes.{GaveNextNote, notes_under}
use Rattle.note_gathering.proofs.take_all.Goals as goal

pub loop-item-init : goal.loop-item-init
loop-item-init g c = record { given = []; gave = c.requires.unplayed; gathered = c.requires.none }

pub returns-in-None : goal.returns-in-None
returns-in-None g c =
    let options = options_seen c.args.options.now in
    let recording = recording_seen c.args.recording.now in
    let so_far = c.loop-item.invariant in
    let all : notes_under options recording ≡ so_far.given = subst (λ o. GaveNextNote options recording c.next_note.new.self so_far.given o) c.in-None.is (c.in_ok-note.ensures so_far.given so_far.gave) in
    subst (λ notes. g.G.Gatherer.stands_for c.args.gather.now notes c.loop-item.gathered) (sym all) so_far.gathered
