use Rattle.std.proofs.Common.{ap, sym, ◌∙◌}
use Rattle.message_text.specs.Printing.{print_within}
use Rattle.message_text.specs.Seen.{place_seen, typed_seen}
use Rattle.message_text.proofs.PrintSteps.{value_printed, not_empty}
use Rattle.message_text.proofs.print_message.values.Goals as goal

pub loop-most-preserved : goal.loop-most-preserved
loop-most-preserved c =
    value_printed c.args.order c.loop-most.most c.loop-most.out.items c.loop-most.types.now (place_seen c.loop-most.at) (typed_seen c.value.new.out.items (c.in_ok-others.others, c.in_ok-others.after)) c.loop-most-test.true (not_empty c.loop-most.types.now c.if-not-is_empty.ensures)
    (ap (λ text. print_within 65 c.args.order text c.loop-most.types.now (place_seen c.loop-most.at)) (sym c.in_ok-push.ensures.items) ∙ sym c.in_ok-others.ensures)
    ∙ c.loop-most.invariant
