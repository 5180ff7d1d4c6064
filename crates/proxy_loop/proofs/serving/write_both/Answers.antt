use Rattle.proxy_loop.specs.Works.{Any}
use Rattle.proxy_loop.proofs.Joining.{both_goes}
use Rattle.proxy_loop.proofs.serving.write_both.Goals as goal

pub returns-clause-goes : goal.returns-clause-goes
returns-clause-goes g c =
    both_goes Any c.args.running.now.number c.args.running.now _ c.write_out-client.new.session
    (g.N.Net.view c.args.net.now) (g.N.Net.view c.write_out-client.new.net) (g.N.Net.view c.write_out-bus.new.net)
    (rw c.client_link.ensures at c.write_out-client.ensures.other)
    (rw c.bus_link.ensures at c.write_out-bus.ensures.other)
    (rw c.client_link.ensures at c.write_out-client.ensures.goes)
    (rw c.bus_link.ensures at c.write_out-bus.ensures.goes)
