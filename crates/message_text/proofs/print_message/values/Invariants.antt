use Rattle.std.proofs.Common.{◌≡◌, length}
use Rattle.message_text.specs.Printing.{print_values}
use Rattle.message_text.specs.Seen.{place_seen}
use Rattle.message_text.proofs.print_message.values.Given as goal

abbrev pub invariant-loop-most : goal.invariant-loop-most
invariant-loop-most l = print_values l.order l.most l.out.items l.types (place_seen l.at) ≡ print_values l.order (length l.first_types) l.fn.out.items l.first_types (place_seen l.first)

abbrev pub decreases-loop-most : goal.decreases-loop-most
decreases-loop-most l = l.most
