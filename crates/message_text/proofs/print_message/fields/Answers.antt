use Rattle.std.proofs.Common.{sym, ◌∙◌}
use Rattle.message_text.specs.Seen.{place_seen, printed_seen}
use Rattle.message_text.proofs.PrintSteps.{field_printed, not_empty}
use Rattle.message_text.proofs.print_message.fields.Goals as goal

pub loop-most-preserved : goal.loop-most-preserved
loop-most-preserved c =
    field_printed c.args.order c.loop-most.most c.loop-most.out.items (place_seen c.loop-most.at) (printed_seen c.field.new.out.items c.in_ok-at.at) c.loop-most-test.true (not_empty c.loop-most.at.bytes.now c.if-not-is_empty.ensures) (sym c.in_ok-at.ensures)
    ∙ c.loop-most.invariant
