use Rattle.std.proofs.Common.{sym, ◌∙◌}
use Rattle.proxy_loop.specs.Works.{Any, WroteOut}
use Rattle.proxy_loop.specs.Writing.{Written}
use Rattle.proxy_loop.proofs.Holding.{goes_none, goes_map}
use Rattle.proxy_loop.proofs.Written.{written_none, written_out}
use Rattle.proxy_loop.proofs.link_work.write_out.Goals as goal

pub returns-then-is_closed-clause-goes : goal.returns-then-is_closed-clause-goes
returns-then-is_closed-clause-goes g c =
    goes_none Any c.args.link.session c.args.session.now (g.N.Net.view c.args.net.now) (Written c.args.link c.args.session.now c.args.session.now c.args.state c.args.state)
    (written_none c.args.link c.args.session.now c.args.state (sym c.is_closed.ensures ∙ c.if-is_closed.true))

pub returns-clause-goes : goal.returns-clause-goes
returns-clause-goes g c =
    goes_map Any c.args.link.session c.args.session.now c.write_all-failed.new.session (g.N.Net.view c.args.net.now) (g.N.Net.view c.write_all-failed.new.net)
    (WroteOut c.args.link c.args.session.now c.write_all-failed.new.session c.write_all-failed.result) _
    (λ added p. written_out c.args.link c.args.session.now c.write_all-failed.new.session c.args.state c.write_all-failed.result added (sym c.is_closed.ensures ∙ c.if-is_closed.false) p)
    c.write_all-failed.ensures.goes
