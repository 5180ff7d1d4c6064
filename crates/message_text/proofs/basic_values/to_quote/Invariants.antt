use Rattle.std.proofs.Common.{◌≡◌, length, suc}
use Rattle.message_text.specs.Reading.{bytes_to_quote}
use Rattle.message_text.proofs.basic_values.to_quote.Given as goal

abbrev pub invariant-loop-most : goal.invariant-loop-most
invariant-loop-most l = bytes_to_quote l.most l.out.items l.rest ≡ bytes_to_quote (suc (length l.text)) l.fn.out.items l.text

abbrev pub decreases-loop-most : goal.decreases-loop-most
decreases-loop-most l = l.most
