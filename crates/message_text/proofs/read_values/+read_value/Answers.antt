use Rattle.std.proofs.Common.{option_map, ap, sym, ◌∙◌, arith}
use Rattle.message_text.specs.Reading.{read_within, read_element}
use Rattle.message_text.specs.Seen.{value_seen, rest_seen}
use Rattle.message_text.proofs.ReadSteps.{read_none, read_down, item_read, item_unspaced, items_over, member_read, members_over}
use Rattle.message_text.proofs.read_values.+read_value.Goals as goal

pub value-returns-then-containers-eq0 : goal.value-returns-then-containers-eq0
value-returns-then-containers-eq0 t c = read_none c.args.order c.args.containers c.args.types.now c.args.out.now.items c.args.text.now c.if-containers-eq0.true

pub value-returns : goal.value-returns
value-returns t c = rw (read_down c.args.order c.args.containers c.args.types.now c.args.out.now.items c.args.text.now c.if-containers-eq0.false) c.value_within.ensures

pub items-returns-in-None : goal.items-returns-in-None
items-returns-in-None t c =
    item_unspaced (λ bytes rest. read_element (read_within c.args.containers c.args.order) c.args.types.now bytes rest) c.loop-most.most c.loop-most.out.items c.loop-most.rest.now c.loop-most-test.true (grind arith) (sym c.after_byte.ensures ∙ ap (option_map rest_seen) c.in-None.is)
    ∙ c.loop-most.invariant

pub items-loop-most-preserved : goal.items-loop-most-preserved
items-loop-most-preserved t c =
    item_read (λ bytes rest. read_element (read_within c.args.containers c.args.order) c.args.types.now bytes rest) c.loop-most.most c.loop-most.out.items c.loop-most.rest.now c.in-Some.found.now (value_seen c.element.new.out.items c.in-Some-2.found) c.loop-most-test.true (grind arith) (sym c.after_byte.ensures ∙ ap (option_map rest_seen) c.in-Some.is)
    (sym c.in_ok-found.ensures ∙ ap (option_map (value_seen c.element.new.out.items)) c.in-Some-2.is)
    ∙ c.loop-most.invariant

pub items-returns : goal.items-returns
items-returns t c = items_over (λ bytes rest. read_element (read_within c.args.containers c.args.order) c.args.types.now bytes rest) c.loop-most.most c.loop-most.out.items c.loop-most.rest.now (omega arith) ∙ c.loop-most.invariant

pub members-loop-most-preserved : goal.members-loop-most-preserved
members-loop-most-preserved t c =
    member_read (read_within c.args.containers c.args.order) c.loop-most.most c.loop-most.types.now c.loop-most.out.items c.loop-most.rest.now c.in-Some-after_byte.found.now (value_seen c.value.new.out.items c.in-Some-2.found) c.loop-most-test.true (grind arith) (sym c.after_byte-in-loop-most.ensures ∙ ap (option_map rest_seen) c.in-Some-after_byte.is)
    (sym c.in_ok-found.ensures ∙ ap (option_map (value_seen c.value.new.out.items)) c.in-Some-2.is)
    ∙ c.loop-most.invariant

pub members-returns : goal.members-returns
members-returns t c = members_over (read_within c.args.containers c.args.order) c.loop-most.most c.loop-most.types.now c.loop-most.out.items c.loop-most.rest.now (omega arith) ∙ c.loop-most.invariant
