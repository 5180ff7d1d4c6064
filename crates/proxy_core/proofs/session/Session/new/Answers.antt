use Rattle.proxy_core.proofs.Standing.{start_stands}
use Rattle.proxy_core.proofs.session.Session.new.Goals as goal

pub returns-clause-stands : goal.returns-clause-stands
returns-clause-stands c = rw (c.new.ensures, c.new-2.ensures, c.new-3.ensures, c.new-4.ensures, c.new-5.ensures, c.new-6.ensures, c.new-7.ensures.empty, c.new-8.ensures.items) (start_stands c.args.policy.now c.args.mode)
