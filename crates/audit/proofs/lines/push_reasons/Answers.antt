use Rattle.std.proofs.Common.{◌++◌, ◌∙◌, ap, ap₂, arith, get_or, string_bytes, sym}
use Rattle.std.proofs.lemmas.Option.{get_or_from_slice_get}
use Rattle.audit.specs.Audit.{reason_line, reason_place, reasons, where_any}
use Rattle.audit.proofs.Texts.{found_at, put-step, reasons-drop}
use Rattle.audit.proofs.lines.push_reasons.Goals as goal

pub loop-reason-preserved : goal.loop-reason-preserved
loop-reason-preserved c =
    let index = c.loop-reason.reason-index in
    let there = found_at reasons index (omega (arith, c.loop-reason-test.true)) in
    put-step _ _ _ _ _
    (c.in_ok-push_reason.ensures
    ∙ ap₂ (λ n reason. string_bytes c.loop-reason.text ++ where_any n (reason_line reason n))
    (c.get.ensures ∙ ap (λ place. get_or c.args.counters.now place 0) (c.reason_place.ensures.place ∙ ap reason_place (get_or_from_slice_get reasons index there.0 _ there.1)))
    (get_or_from_slice_get reasons index there.0 _ there.1))
    (ap (λ t. string_bytes c.loop-reason.text ++ t) (sym (reasons-drop (λ reason. get_or c.args.counters.now (reason_place reason) 0) reasons index there.0 there.1)) ∙ c.loop-reason.invariant)
