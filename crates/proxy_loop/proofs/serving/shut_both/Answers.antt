use Rattle.proxy_loop.proofs.Joining.{shut_flags_goes, now_shut}
use Rattle.proxy_loop.proofs.serving.shut_both.Goals as goal

pub returns-clause-goes : goal.returns-clause-goes
returns-clause-goes g c =
    shut_flags_goes c.args.running.now.number c.args.running.now.session
    (g.N.Net.view c.args.net.now) (g.N.Net.view c.shut_done-client.new.net) (g.N.Net.view c.shut_done-bus.new.net) _ _ _ _
    (now_shut c.args.running.now.client.shut _ c.shut_done-client.result.shut (rw c.client_link.ensures at c.shut_done-client.ensures.shut))
    (now_shut c.args.running.now.bus.shut _ c.shut_done-bus.result.shut (rw c.bus_link.ensures at c.shut_done-bus.ensures.shut))
    (rw c.client_link.ensures at c.shut_done-client.ensures.goes)
    (rw c.bus_link.ensures at c.shut_done-bus.ensures.goes)
