use Rattle.std.proofs.Common.{◌∙◌, List, ℕ, ◌<◌, sym, ap, take, drop, arith, ltb-true}
use Rattle.dbus_header.proofs.KnownHeaders.{alike-some, not_unequal}
use Rattle.dbus_header.proofs.headers.KnownHeader.is_alike.Goals as goal

pub returns : goal.returns
returns c = λ above.
    let front = not_unequal c.split_at.result.0.now c.split_at-2.result.0.now (sym c.ne.ensures ∙ c.if-ne.false) in
    let back = not_unequal c.split_at-3.result.1.now c.split_at-4.result.1.now (sym c.ne-2.ensures ∙ c.if-ne-2.false) in
    let low : 0 < c.read_u32.result = ltb-true 0 c.read_u32.result above in
    let kept = sym c.as_slice-kept.ensures.value in
    alike-some c.args.self.now.order c.args.self.now.places.reply_serial c.args.self.now.bytes.items c.args.bytes.now c.in-Some.at c.in-Some.is
    (ap (take c.in-Some.at) kept ∙ sym c.split_at.ensures.front ∙ front ∙ c.split_at-2.ensures.front)
    (ap (λ (b : List ℕ). drop 4 (drop c.in-Some.at b)) kept ∙ ap (drop 4) (sym c.split_at.ensures.back) ∙ sym c.split_at-3.ensures.back ∙ back ∙ c.split_at-4.ensures.back ∙ ap (drop 4) c.split_at-2.ensures.back)
    (omega (arith, low, c.read_u32.ensures))
