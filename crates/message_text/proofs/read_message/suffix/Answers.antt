use Rattle.std.proofs.Common.{arith}
use Rattle.std.proofs.lemmas.List.{drop_min}
use Rattle.message_text.proofs.read_message.suffix.Goals as goal

pub returns : goal.returns
returns c = grind (arith, drop_min c.args.start c.args.bytes.now)
