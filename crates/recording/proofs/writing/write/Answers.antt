use Rattle.std.proofs.Common.{◌∙◌, arith, ap, map, length}
use Rattle.std.specs.List.{flat_map}
use Rattle.recording.specs.Seen.{seen, size_of, recording_seen}
use Rattle.recording.specs.Recording.{spelled_event}
use Rattle.recording.proofs.Spellings.{length-spelled_recording, next-within, whole}
use Rattle.recording.proofs.writing.write.Goals as goal

pub file_len-requires : goal.file_len-requires
file_len-requires c = omega (arith, c.requires, length-spelled_recording (recording_seen c.args.recording.now), ap (λ es. length (flat_map spelled_event (map seen es))) c.deref.ensures.value)

pub put_event-requires : goal.put_event-requires
put_event-requires c =
    let events = c.deref-event-items.result.now in
    let next = next-within events c.loop-event.event-index c.event-item.result (omega arith) in
    let all = ap (λ es. length (flat_map spelled_event (map seen es))) c.deref-event-items.ensures.value in
    omega (arith, next, all, ap (λ e. size_of (seen e)) c.event-item.is, c.requires, length-spelled_recording (recording_seen c.args.recording.now))

pub returns : goal.returns
returns c =
    c.in_ok-from_vec.ensures.ok
    ∙ whole c.args.recording.now c.loop-event.event-index c.loop-event.file.items (omega (arith, ap length c.deref-event-items.ensures.value)) c.loop-event.invariant
