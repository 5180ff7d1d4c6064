use Rattle.std.proofs.Common.{◌∷◌, ◌++◌, [], ap, ap₂, ◌∙◌, List, ℕ, append_assoc}
use Rattle.policy_args.specs.Addresses.{unescaped}
use Rattle.policy_args.proofs.Scanning.{unescape-start, unescape-more, unescape-fails, less-left}
use Rattle.policy_args.proofs.address.unescape.Goals as goal

pub loop-rest-init : goal.loop-rest-init
loop-rest-init c =
    unescape-start c.args.text.now c.part.result.0.now c.extend_from_slice.new.self.items _ c.part.ensures.front c.part.ensures.behind
    (c.in_ok-extend_from_slice.ensures.items ∙ ap₂ (λ (a b : List ℕ). a ++ b) c.new-bytes.ensures.items c.as_bytes.ensures.value)

pub returns-in-None : goal.returns-in-None
returns-in-None c =
    unescape-fails c.loop-rest.rest c.in-Some.text c.in-Some.is c.loop-rest.bytes.items (unescaped c.args.text.now) c.as_bytes-in-Some.result.now
    c.loop-rest.invariant (c.as_bytes-in-Some.ensures.value ∙ c.part-in-Some.ensures.front) c.in-None.ensures

pub loop-rest-smaller : goal.loop-rest-smaller
loop-rest-smaller c = less-left 37 c.args.text.now c.loop-rest.rest c.in-Some.text c.in-Some.is _ c.part-in-Some.ensures.behind

pub loop-rest-preserved : goal.loop-rest-preserved
loop-rest-preserved c =
    unescape-more c.loop-rest.rest c.in-Some.text c.in-Some.is c.loop-rest.bytes.items (unescaped c.args.text.now) c.as_bytes-in-Some.result.now
    c.loop-rest.invariant (c.as_bytes-in-Some.ensures.value ∙ c.part-in-Some.ensures.front)
    (c.in-Some-escaped.byte ∷ c.in-Some-escaped.plain.now) c.extend_from_slice-in-Some-escaped.new.self.items _ c.part-in-Some.ensures.behind c.in-Some-escaped.ensures
    (c.in_ok-extend_from_slice-in-Some-escaped.ensures.items ∙ ap (λ bs. bs ++ c.in-Some-escaped.plain.now) c.in_ok-push-in-Some-escaped.ensures.items
    ∙ append_assoc c.loop-rest.bytes.items (c.in-Some-escaped.byte ∷ []) c.in-Some-escaped.plain.now)
