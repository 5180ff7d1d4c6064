use Rattle.std.proofs.Common.{◌∙◌, ap}
use Rattle.proxy_loop.specs.declared.link_work.LinkState.{LinkState}
use Rattle.proxy_loop.proofs.Accepting.{opened_goes}
use Rattle.proxy_loop.proofs.accept.open_new.Goals as goal

pub returns-clause-goes : goal.returns-clause-goes
returns-clause-goes g c =
    opened_goes c.args.number c.args.address.now c.connect_new.new.running c.shut_both.new.running c.args.running.now.session
    (g.N.Net.view c.args.net.now) (g.N.Net.view c.connect_new.new.net) (g.N.Net.view c.shut_both.new.net) (g.N.Net.view c.wish_both.new.net)
    (ap (λ (s : LinkState). s.shut) (c.connect_new.ensures.client ∙ c.requires.open.0)) (c.connect_new.ensures.shut ∙ ap (λ (s : LinkState). s.shut) c.requires.open.1)
    (ap (λ (s : LinkState). s.gone) (c.connect_new.ensures.client ∙ c.requires.open.0))
    c.shut_both.ensures.client_gone c.shut_both.ensures.bus_gone c.shut_both.ensures.session
    c.connect_new.new.running.number c.connect_new.ensures.place.number c.connect_new.ensures.goes c.shut_both.ensures.goes c.wish_both.ensures.told
