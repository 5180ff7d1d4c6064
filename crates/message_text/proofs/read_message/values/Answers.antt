use Rattle.std.proofs.Common.{option_map, ap, sym, ◌∙◌, arith}
use Rattle.message_text.specs.Seen.{rest_seen, value_seen}
use Rattle.message_text.proofs.PrintSteps.{not_empty}
use Rattle.message_text.proofs.ReadSteps.{body_value_read, values_over}
use Rattle.message_text.proofs.read_message.values.Goals as goal

pub returns : goal.returns
returns c = values_over c.args.order c.loop-most.most c.loop-most.types.now c.loop-most.out.items c.loop-most.rest.now (omega arith) ∙ c.loop-most.invariant

pub loop-most-preserved : goal.loop-most-preserved
loop-most-preserved c =
    body_value_read c.args.order c.loop-most.most c.loop-most.types.now c.loop-most.out.items c.loop-most.rest.now c.in-Some.found.now (value_seen c.value.new.out.items c.in-Some-2.found) c.loop-most-test.true (not_empty c.loop-most.types.now c.if-is_empty.ensures)
    (sym c.after_byte.ensures ∙ ap (option_map rest_seen) c.in-Some.is) (sym c.in_ok-found.ensures ∙ ap (option_map (value_seen c.value.new.out.items)) c.in-Some-2.is)
    ∙ c.loop-most.invariant
