use Rattle.std.proofs.Common.{◌∙◌}
use Rattle.proxy_net.proofs.Going.{goes_through, wished_before}
use Rattle.proxy_net.proofs.Reading.{reports_through}
use Rattle.proxy_net.proofs.Retrying.{stalls_through}
use Rattle.proxy_net.proofs.sockets.SocketSet.next.Goals as goal

pub loop-self-preserved : goal.loop-self-preserved
loop-self-preserved g c = record { goes = goes_through c.loop-self.invariant.goes c.name_first.ensures.goes; reports = reports_through c.loop-self.invariant.reports c.name_first.ensures.reports; stalls = stalls_through c.loop-self.invariant.stalls c.name_first.ensures.stalls; named = c.in_default.ensures.uncounted ∙ c.loop-self.invariant.named }

pub returns-in-Some-clause-wished : goal.returns-in-Some-clause-wished
returns-in-Some-clause-wished g c = wished_before c.args.self.now c.loop-self.self c.name_first.new.self c.in-Some.ready c.loop-self.invariant.goes c.in-Some.ensures.wished

pub returns-in-Some-clause-reports : goal.returns-in-Some-clause-reports
returns-in-Some-clause-reports g c = reports_through c.loop-self.invariant.reports c.name_first.ensures.reports

pub returns-in-Some-clause-goes : goal.returns-in-Some-clause-goes
returns-in-Some-clause-goes g c = goes_through c.loop-self.invariant.goes c.name_first.ensures.goes

pub returns-in-Some-clause-stalls : goal.returns-in-Some-clause-stalls
returns-in-Some-clause-stalls g c = stalls_through c.loop-self.invariant.stalls c.name_first.ensures.stalls
