use Rattle.std.proofs.Common.{◌++◌, ◌+◌, ◌∙◌, ap, arith, get_or, string_bytes, sym}
use Rattle.audit.specs.Audit.{denied_line, where_any}
use Rattle.audit.proofs.Texts.{denied-drop, put-step}
use Rattle.audit.proofs.lines.push_all_denied.Goals as goal

pub loop-place-preserved : goal.loop-place-preserved
loop-place-preserved c =
    let number = c.loop-place.place + 1 in
    put-step _ _ _ _ _ (c.in_ok-push_denied.ensures ∙ ap (λ n. string_bytes c.loop-place.text ++ where_any n (denied_line number n)) c.get.ensures)
    (ap (λ t. string_bytes c.loop-place.text ++ t) (sym (denied-drop (λ n. get_or c.args.counters.now n 0) number c.args.policy.now.entries c.loop-place.place (omega (arith, c.loop-place-test.true, c.len-place-end.ensures.count))))
    ∙ c.loop-place.invariant)
