use Rattle.std.proofs.Common.{◌++◌, ◌+◌, ◌∙◌, ap, arith, string_bytes, sym}
use Rattle.std.specs.Prelude.{slice_get}
use Rattle.audit.specs.Audit.{unless_named, unnamed_line}
use Rattle.audit.proofs.Texts.{found_at, put-step, same_place, unnamed-drop}
use Rattle.audit.proofs.lines.push_all_unnamed.Goals as goal

pub loop-place-preserved : goal.loop-place-preserved
loop-place-preserved c = λ names marked.
    let entries = c.args.policy.now.entries in
    let place = c.loop-place.place in
    let there = found_at entries place (omega (arith, c.loop-place-test.true, c.len-place-end.ensures.count)) in
    put-step _ _ _ _ _
    (c.in_ok-push_unnamed.ensures there.0 (ap (slice_get entries) (same_place place) ∙ there.1)
    ∙ ap (λ b. string_bytes c.loop-place.text ++ unless_named b (unnamed_line (place + 1) there.0)) (c.is_marked.ensures ∙ marked.at place there.0 there.1))
    (ap (λ t. string_bytes c.loop-place.text ++ t) (sym (unnamed-drop names (place + 1) entries place there.0 there.1)) ∙ c.loop-place.invariant names marked)
