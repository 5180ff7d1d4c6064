use Rattle.std.proofs.Common.{ap, sym, ◌∙◌, arith}
use Rattle.message_text.specs.Printing.{print_within, print_element}
use Rattle.message_text.specs.Seen.{place_seen, typed_seen}
use Rattle.message_text.proofs.PrintSteps.{printed_none, printed_down, item_printed, member_printed, not_empty}
use Rattle.message_text.proofs.print_values.+print_value.Goals as goal

pub value-returns-then-containers-eq0 : goal.value-returns-then-containers-eq0
value-returns-then-containers-eq0 t c = printed_none c.args.order c.args.containers c.args.out.now.items c.args.types.now (place_seen c.args.at) c.if-containers-eq0.true

pub value-returns : goal.value-returns
value-returns t c = rw (printed_down c.args.order c.args.containers c.args.out.now.items c.args.types.now (place_seen c.args.at) c.if-containers-eq0.false) c.value_within.ensures

pub elements-loop-most-preserved : goal.elements-loop-most-preserved
elements-loop-most-preserved t c =
    item_printed (λ text place. print_element (print_within c.args.containers c.args.order) text c.args.types.now place) c.loop-most.most c.loop-most.out.items (place_seen c.loop-most.at) (typed_seen c.element-in-loop-most.new.out.items (c.in_ok-after.field-0-0, c.in_ok-after.after)) c.loop-most-test.true (not_empty c.loop-most.at.bytes.now c.if-not-is_empty.ensures)
    (ap (λ text. print_element (print_within c.args.containers c.args.order) text c.args.types.now (place_seen c.loop-most.at)) (sym c.in_ok-push.ensures.items) ∙ sym c.in_ok-after.ensures)
    ∙ c.loop-most.invariant

pub members-loop-most-preserved : goal.members-loop-most-preserved
members-loop-most-preserved t c =
    member_printed (print_within c.args.containers c.args.order) c.loop-most.most c.loop-most.out.items c.loop-most.types.now (place_seen c.loop-most.at) (typed_seen c.value.new.out.items (c.in_ok-others.others, c.in_ok-others.after)) c.loop-most-test.true (grind arith)
    (ap (λ text. print_within c.args.containers c.args.order text c.loop-most.types.now (place_seen c.loop-most.at)) (sym c.in_ok-push.ensures.items) ∙ sym c.in_ok-others.ensures)
    ∙ c.loop-most.invariant
