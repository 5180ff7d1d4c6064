use Rattle.std.proofs.Common.{◌≡◌, length, suc, option_map}
use Rattle.message_text.specs.Reading.{read_fields}
use Rattle.message_text.proofs.read_message.fields.Given as goal

abbrev pub invariant-loop-most : goal.invariant-loop-most
invariant-loop-most l = read_fields l.order l.most (option_map (λ v. v.items) l.types) l.out.items l.rest ≡ read_fields l.order (suc (length l.text)) (option_map (λ v. v.items) l.fn.types) l.fn.out.items l.text

abbrev pub decreases-loop-most : goal.decreases-loop-most
decreases-loop-most l = l.most
