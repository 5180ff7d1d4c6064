use Rattle.std.proofs.Common.{arith}
use Rattle.std.proofs.lemmas.List.{length-map}
use Rattle.recording.specs.Seen.{recording_seen, seen}
use Rattle.replay.proofs.Elements.{none-next}
use Rattle.replay.proofs.watching.Watched.next_element.Goals as goal

pub returns-then-self-len : goal.returns-then-self-len
returns-then-self-len c = λ given gave.
    let recording = recording_seen c.args.recording.now in
    none-next c.args.policy.now recording c.next_waiting.new.self given c.ended.result c.none_unless_memory.result
    (omega (arith, length-map c.args.recording.now.events.items seen, c.len.ensures))
    (c.in_default.ensures.gave c.args.policy.now recording given (c.loop-element.invariant given gave)) c.ended.ensures c.none_unless_memory.ensures.ok
