use Rattle.std.proofs.Common.{codes}
use Rattle.verdicts.proofs.Eavesdrop.{stands-contained}
use Rattle.verdicts.proofs.bus_members.speaks_of_eavesdrop.Goals as goal

pub returns : goal.returns
returns c = stands-contained _ (codes "eavesdrop") c.args.text.now c.contains.ensures.cases
