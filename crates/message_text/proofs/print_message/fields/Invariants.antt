use Rattle.std.proofs.Common.{◌≡◌, length}
use Rattle.message_text.specs.Printing.{print_fields}
use Rattle.message_text.specs.Seen.{place_seen}
use Rattle.message_text.proofs.print_message.fields.Given as goal

abbrev pub invariant-loop-most : goal.invariant-loop-most
invariant-loop-most l = print_fields l.order l.most l.out.items (place_seen l.at) ≡ print_fields l.order (length l.first.bytes.now) l.fn.out.items (place_seen l.first)

abbrev pub decreases-loop-most : goal.decreases-loop-most
decreases-loop-most l = l.most
