use Rattle.std.proofs.Common.{None, arith}
use Rattle.std.proofs.lemmas.Str.Pattern.{split_once_first}
use Rattle.policy_args.proofs.EntryReading.{no-rule}
use Rattle.policy_args.proofs.entry.cut.Goals as goal

pub returns-in-None-clause-rule : goal.returns-in-None-clause-rule
returns-in-None-clause-rule c = no-rule c.args.text.now (split_once_first 61 c.args.text.now None c.in-None.ensures.cases (omega arith))
