use Rattle.std.proofs.Common.{rules}
use Rattle.proxy_net.proofs.Listening.{retried_in, retried_as, not_retried, retry_fails, opened_before}
use Rattle.proxy_net.proofs.link_sockets.LinkSocket.connect.Goals as goal

pub returns-in-Some-clause-told : goal.returns-in-Some-clause-told
returns-in-Some-clause-told g c = retried_in c.args.self.now.connection c.in-Pending.retry c.in-Pending.is c.connect.ensures.told

pub returns-in-None-clause-told : goal.returns-in-None-clause-told
returns-in-None-clause-told g c = not_retried c.args.self.now.connection (g.S.Sockets.journal c.args.system.now)

pub returns-in-Open-clause-told : goal.returns-in-Open-clause-told
returns-in-Open-clause-told g c = not_retried c.args.self.now.connection (g.S.Sockets.journal c.args.system.now)

pub returns-in-Some-clause-retried : goal.returns-in-Some-clause-retried
returns-in-Some-clause-retried g c = retried_as c.args.self.now.connection c.in-Pending.retry c.args.now c.in-Some.now c.connect.result c.in-Pending.is c.in-Some.is c.connect.ensures.retried

pub returns-in-None-clause-retried : goal.returns-in-None-clause-retried
returns-in-None-clause-retried g c = retry_fails c.args.self.now.connection c.args.now (g.S.Sockets.journal c.args.system.now) c.in-None.is

pub returns-in-Open-clause-retried : goal.returns-in-Open-clause-retried
returns-in-Open-clause-retried g c = opened_before c.args.self.now.connection c.args.now (g.S.Sockets.journal c.args.system.now) (search rules)
