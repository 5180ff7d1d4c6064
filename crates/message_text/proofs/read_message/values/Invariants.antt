use Rattle.std.proofs.Common.{◌≡◌, length, suc}
use Rattle.message_text.specs.Reading.{read_values}
use Rattle.message_text.proofs.read_message.values.Given as goal

abbrev pub invariant-loop-most : goal.invariant-loop-most
invariant-loop-most l = read_values l.order l.most l.types l.out.items l.rest ≡ read_values l.order (suc (length l.first_types)) l.first_types l.fn.out.items l.text

abbrev pub decreases-loop-most : goal.decreases-loop-most
decreases-loop-most l = l.most
