use Rattle.std.proofs.Common.{arith}
use Rattle.message_text.proofs.ReadLaws.{after_gap}
use Rattle.message_text.proofs.read_message.value_place.Goals as goal

pub returns : goal.returns
returns c = grind (arith, after_gap 8 c.args.out.now)
