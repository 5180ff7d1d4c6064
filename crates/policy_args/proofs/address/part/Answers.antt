use Rattle.std.proofs.Common.{None}
use Rattle.std.proofs.lemmas.Str.Pattern.{split_once_first}
use Rattle.policy_args.proofs.Cuts.{no-parts}
use Rattle.policy_args.proofs.address.part.Goals as goal

pub returns-in-None-clause-front : goal.returns-in-None-clause-front
returns-in-None-clause-front c = (no-parts c.args.separator c.args.text.now (split_once_first c.args.separator c.args.text.now None c.in-None.ensures.cases c.requires)).0

pub returns-in-None-clause-behind : goal.returns-in-None-clause-behind
returns-in-None-clause-behind c = (no-parts c.args.separator c.args.text.now (split_once_first c.args.separator c.args.text.now None c.in-None.ensures.cases c.requires)).1
