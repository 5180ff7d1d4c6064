use Rattle.std.proofs.Common.{arith, ap}
use Rattle.recording.specs.Seen.{seen, size_of}
use Rattle.recording.proofs.Spellings.{next-within}
use Rattle.recording.proofs.writing.file_len.Goals as goal

pub overflow_add-len : goal.overflow_add-len
overflow_add-len c =
    let next = next-within c.args.events.now c.loop-event.event-index c.event-item.result (omega arith) in
    omega (arith, next, ap (λ e. size_of (seen e)) c.event-item.is, c.payload_len.ensures, c.requires)

pub overflow_add-len-in-loop-event : goal.overflow_add-len-in-loop-event
overflow_add-len-in-loop-event c =
    let next = next-within c.args.events.now c.loop-event.event-index c.event-item.result (omega arith) in
    omega (arith, next, ap (λ e. size_of (seen e)) c.event-item.is, c.payload_len.ensures, c.requires, c.loop-event.invariant)
