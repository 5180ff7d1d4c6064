use Rattle.std.proofs.Common.{map, string_bytes, subst, sym}
use Rattle.std.specs.List.{AllZip}
use Rattle.std.proofs.lemmas.Result.{IfOk-weaker}
use Rattle.policy_args.specs.Seen.{options_seen}
use Rattle.recording.specs.Seen.{recording_seen}
use Rattle.recording.specs.declared.Recording.{Recording}
use Rattle.replay.specs.PlayedNotes.{notes_under}
use Rattle.audit.specs.Tallies.{TallyOf}
use Rattle.audit.proofs.Texts.{audit-is, of_notes}
use Rattle.audit.proofs.audit.Goals as goal

pub returns : goal.returns
returns g c =
    let options = options_seen c.args.options.now in
    let notes = λ (r : Recording). notes_under options (recording_seen r) in
    IfOk-weaker c.audit_text.result _ _ (λ text is. audit-is options c.args.recordings.now (string_bytes text) is)
    (c.audit_text.ensures (map notes c.args.recordings.now)
    (subst (λ tallies. AllZip (TallyOf options.policy) (map notes c.args.recordings.now) tallies) (sym c.deref.ensures.value) (of_notes options.policy notes c.args.recordings.now c.in_ok-tallies.tallies.items c.in_ok-tallies.ensures)))
