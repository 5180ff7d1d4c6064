use Rattle.std.proofs.Common.{ap}
use Rattle.proxy_core.specs.Sessions.{SessionView}
use Rattle.replay_output.specs.Output.{events_of}
use Rattle.sample.proofs.Counting.{bus_counted}
use Rattle.sample.proofs.playing.Play.count_bus.Goals as goal

pub returns-clause-counted : goal.returns-clause-counted
returns-clause-counted c = λ policy events counted.
    bus_counted policy events c.args.self.now c.took_bus.new.self c.bus_waits-n.result c.in_ok-self.field-0 c.bus_waits-n.ensures c.in_ok-self.ensures
    (ap (λ (v : SessionView). v.mode) c.took_bus.ensures.view) (λ taken. c.took_bus.ensures.stands policy (events_of events) taken) counted
