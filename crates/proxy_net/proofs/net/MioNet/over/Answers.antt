use Rattle.proxy_net.proofs.Answering.{bound_none, counted_none}
use Rattle.proxy_net.specs.declared.starters.Starter.TheVariants.{Absent}
use Rattle.proxy_net.proofs.net.MioNet.over.Goals as goal

pub invariant_of-result-clause-counted : goal.invariant_of-result-clause-counted
invariant_of-result-clause-counted g c = counted_none c.requires c.new.ensures.empty.0 c.new.ensures.empty.1

pub invariant_of-result-clause-bound : goal.invariant_of-result-clause-bound
invariant_of-result-clause-bound g c = bound_none (g.S.Sockets.journal c.args.system) c.new.result c.new.ensures.empty.0

pub returns-clause-unused : goal.returns-clause-unused
returns-clause-unused g c = c.new.ensures.unused (g.S.Sockets.journal c.args.system) Absent
