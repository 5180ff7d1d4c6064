use Rattle.std.proofs.Common.{subst, List}
use Rattle.policy_args.specs.declared.line.Block.{Block}
use Rattle.proxy_loop.specs.Tables.{table_of}
use Rattle.proxy_loop.specs.Servers.{GoesOn}
use Rattle.proxy_loop.proofs.LinkFronts.{listen_on}
use Rattle.proxy_loop.proofs.line_server.Server.listen.Goals as goal

pub returns-clause-serves : goal.returns-clause-serves
returns-clause-serves g c =
    subst (λ (blocks : List Block). GoesOn blocks (table_of c.args.self.now.sessions) (table_of c.args.self.now.sessions) (g.N.Net.view c.args.net.now) (g.N.Net.view c.listen.new.net)) c.deref.ensures.value
    (listen_on c.deref.result.now (table_of c.args.self.now.sessions) (g.N.Net.view c.args.net.now) (g.N.Net.view c.listen.new.net) c.listen.result c.listen.ensures.did)
