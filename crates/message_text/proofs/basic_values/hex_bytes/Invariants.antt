use Rattle.std.proofs.Common.{◌≡◌}
use Rattle.message_text.specs.Reading.{hex_bytes}
use Rattle.message_text.proofs.basic_values.hex_bytes.Given as goal

abbrev pub invariant-loop-left : goal.invariant-loop-left
invariant-loop-left l = hex_bytes l.left l.out.items l.rest ≡ hex_bytes l.len l.fn.out.items l.text

abbrev pub decreases-loop-left : goal.decreases-loop-left
decreases-loop-left l = l.left
