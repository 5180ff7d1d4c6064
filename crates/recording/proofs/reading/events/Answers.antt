use Rattle.std.proofs.Common.{◌≡◌, ◌+◌, ◌∷◌, [], ◌++◌, drop, length, arith, refl, sym, ◌∙◌, ap, cond, is_ok}
use Rattle.std.proofs.lemmas.List.{length-append}
use Rattle.recording.specs.Passes.{counted, records}
use Rattle.recording.proofs.Walk.{sound, sound-slice, counted-on, counted-le, events-on, events-end, tail}
use Rattle.recording.proofs.reading.events.Goals as goal

pub length_field-requires : goal.length_field-requires
length_field-requires c =
    let at = c.loop-at.at in
    let file = c.args.file.now in
    let s = sound (length c.loop-at.events.items) c.args.count at _ file (omega arith) c.loop-at.invariant.sound refl in
    omega (arith, s.head, ap length (tail at c.as_slice.result.now file c.as_slice.ensures))

pub event-requires-clause-within : goal.event-requires-clause-within
event-requires-clause-within c =
    (sound-slice (length c.loop-at.events.items) c.args.count c.loop-at.at c.length_field.result c.as_slice.result.now c.args.file.now
    c.as_slice.ensures (omega arith) c.loop-at.invariant.sound c.length_field.ensures.value).all

pub unwrap-requires : goal.unwrap-requires
unwrap-requires c =
    let at = c.loop-at.at in
    let file = c.args.file.now in
    let len = c.length_field.result in
    let n = length c.loop-at.events.items in
    let s = sound-slice n c.args.count at len c.as_slice.result.now file c.as_slice.ensures (omega arith) c.loop-at.invariant.sound c.length_field.ensures.value in
    let left = counted-on n at len (at + 5 + len) file (omega arith) s.read refl ∙ c.loop-at.invariant.sound in
    let below = counted-le (n + 1) c.args.count (records (at + 5 + len) (drop (at + 5 + len) file)) left in
    c.push.ensures.succeeds (omega (arith, below, c.loop-at.invariant.room, c.loop-at.events.ok.0))

pub loop-at-preserved : goal.loop-at-preserved
loop-at-preserved c =
    let at = c.loop-at.at in
    let file = c.args.file.now in
    let len = c.length_field.result in
    let es = c.loop-at.events.items in
    let fs = c.push.new.self.items in
    let e = c.in_ok-event.event in
    let s = sound-slice (length es) c.args.count at len c.as_slice.result.now file c.as_slice.ensures (omega arith) c.loop-at.invariant.sound c.length_field.ensures.value in
    let more : fs ≡ es ++ e ∷ [] = c.push.ensures.items ∙ ap (λ r. cond (is_ok r) (es ++ e ∷ []) es) c.unwrap.ensures in
    record {
      same = events-on es fs e at len (at + 5 + len) file more (omega arith) s refl c.in_ok-event.ensures ∙ c.loop-at.invariant.same;
      sound = ap (λ n. counted n (records (at + 5 + len) (drop (at + 5 + len) file))) (omega (arith, ap length more, length-append es (e ∷ [])))
          ∙ counted-on (length es) at len (at + 5 + len) file (omega arith) s.read refl ∙ c.loop-at.invariant.sound;
      within = s.all;
      room = omega (arith, c.loop-at.invariant.room, c.push.ensures.capacity);
    }

pub returns : goal.returns
returns c = sym c.loop-at.invariant.same ∙ events-end _ c.loop-at.at c.args.file.now (omega arith)
