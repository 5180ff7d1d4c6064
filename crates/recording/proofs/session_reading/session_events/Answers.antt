use Rattle.std.proofs.Common.{◌≡◌, ◌+◌, ◌∷◌, [], ◌++◌, drop, length, arith, refl, sym, ◌∙◌, ap, cond, is_ok}
use Rattle.std.proofs.lemmas.List.{length-append, length-drop}
use Rattle.recording.specs.Passes.{counted}
use Rattle.recording.specs.SessionPasses.{session_records}
use Rattle.recording.proofs.SessionWalk.{found, found-slice, goes_on, named, session_events-end, session_counted-on}
use Rattle.recording.proofs.Walk.{counted-le, tail}
use Rattle.recording.proofs.session_reading.session_events.Goals as goal

pub number-len-requires : goal.number-len-requires
number-len-requires c =
    let at = c.loop-at.at in
    let file = c.args.file.now in
    let s = found (length c.loop-at.events.items) c.args.count (named c.loop-at.events.items) at _ file (omega arith) c.loop-at.invariant.sound refl in
    omega (arith, s.within.head, length-drop at file, ap length (tail at c.as_slice.result.now file c.as_slice.ensures))

pub session_event-requires-clause-within : goal.session_event-requires-clause-within
session_event-requires-clause-within c =
    (found-slice (length c.loop-at.events.items) c.args.count (named c.loop-at.events.items) c.loop-at.at c.number-len.result c.as_slice.result.now c.args.file.now
    c.as_slice.ensures (omega arith) c.loop-at.invariant.sound c.number-len.ensures).within.all

pub session_event-requires-clause-stop : goal.session_event-requires-clause-stop
session_event-requires-clause-stop c k =
    let s = found-slice (length c.loop-at.events.items) c.args.count (named c.loop-at.events.items) c.loop-at.at c.number-len.result c.as_slice.result.now c.args.file.now
    c.as_slice.ensures (omega arith) c.loop-at.invariant.sound c.number-len.ensures in
    omega (arith, s.within.stop k)

pub unwrap-requires : goal.unwrap-requires
unwrap-requires c =
    let at = c.loop-at.at in
    let file = c.args.file.now in
    let len = c.number-len.result in
    let es = c.loop-at.events.items in
    let s = found-slice (length es) c.args.count (named es) at len c.as_slice.result.now file c.as_slice.ensures (omega arith) c.loop-at.invariant.sound c.number-len.ensures in
    let left = session_counted-on (length es) (named es) _ at _ len (at + 9 + len) file (omega arith) s.sound refl refl ∙ c.loop-at.invariant.sound in
    let below = counted-le (length es + 1) c.args.count _ left in
    c.push.ensures.succeeds (omega (arith, below, c.loop-at.invariant.room, c.loop-at.events.ok.0))

pub loop-at-preserved : goal.loop-at-preserved
loop-at-preserved c =
    let at = c.loop-at.at in
    let file = c.args.file.now in
    let len = c.number-len.result in
    let es = c.loop-at.events.items in
    let fs = c.push.new.self.items in
    let e = c.in_ok-event.event in
    let s = found-slice (length es) c.args.count (named es) at len c.as_slice.result.now file c.as_slice.ensures (omega arith) c.loop-at.invariant.sound c.number-len.ensures in
    let more : fs ≡ es ++ e ∷ [] = c.push.ensures.items ∙ ap (λ r. cond (is_ok r) (es ++ e ∷ []) es) c.unwrap.ensures in
    let g = goes_on es fs e at len (at + 9 + len) file more (omega arith) s refl c.in_ok-event.ensures in
    record {
      same = g.same ∙ c.loop-at.invariant.same;
      sound = ap (λ n. counted n (session_records (named fs) (at + 9 + len) (drop (at + 9 + len) file))) (omega (arith, ap length more, length-append es (e ∷ []))) ∙ g.sound ∙ c.loop-at.invariant.sound;
      within = s.within.all;
      room = omega (arith, c.loop-at.invariant.room, c.push.ensures.capacity);
    }

pub returns : goal.returns
returns c = sym c.loop-at.invariant.same ∙ session_events-end _ _ c.loop-at.at c.args.file.now (omega arith)
