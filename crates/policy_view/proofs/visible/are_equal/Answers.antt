use Rattle.std.proofs.Common.{◌≡◌, ◌<◌, length, ap₂, sym, ◌∙◌, ◌∷◌, [], ◌++◌, List, ℕ, arith}
use Rattle.std.proofs.lemmas.Bool.{not-false}
use Rattle.std.proofs.lemmas.Grind.{take_at_read}
use Rattle.byte_lists.proofs.Bytes.{bytes_eq-true}
use Rattle.policy_view.proofs.visible.are_equal.Goals as goal

-- src/visible.rt:130:5
pub loop-index-preserved : goal.loop-index-preserved
loop-index-preserved c =
    let same : c.as_str.result.now ≡ c.as_str-in-loop-index.result.now = bytes_eq-true _ _ (not-false _ (sym c.ne.ensures ∙ c.if-ne.false)) in
    let inside = c.loop-index-test.true in
    let other_inside : c.loop-index.index < length c.args.other.now = omega (arith, inside, c.if-names-other.false) in
    (take_at_read c.args.names.now c.loop-index.index c.index-names-index.result inside).1
    ∙ ap₂ (λ (front : List (List ℕ)) (last : List ℕ). front ++ last ∷ []) c.loop-index.invariant (sym c.index-names-index.is ∙ sym c.as_str.ensures ∙ same ∙ c.as_str-in-loop-index.ensures ∙ c.index-other-index.is)
    ∙ sym (take_at_read c.args.other.now c.loop-index.index c.index-other-index.result other_inside).1
