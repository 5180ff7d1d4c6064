use Rattle.std.proofs.Common.{sym, ◌∙◌}
use Rattle.proxy_loop.proofs.Holding.{shut_goes, unshut_goes}
use Rattle.proxy_loop.proofs.link_work.shut_done.Goals as goal

pub returns-then-is_to_shut-clause-goes : goal.returns-then-is_to_shut-clause-goes
returns-then-is_to_shut-clause-goes g c =
    shut_goes c.args.link c.args.session.now (g.N.Net.view c.args.net.now) (g.N.Net.view c.shut.new.self) _
    (sym c.is_to_shut.ensures ∙ c.if-is_to_shut.true) c.shut.ensures.told

pub returns-clause-goes : goal.returns-clause-goes
returns-clause-goes g c =
    unshut_goes c.args.link c.args.session.now (g.N.Net.view c.args.net.now) _ (sym c.is_to_shut.ensures ∙ c.if-is_to_shut.false)
