use Rattle.proxy_loop.specs.Tables.{table_of}
use Rattle.proxy_loop.proofs.LinkFronts.{links_stand, queues_stand}
use Rattle.proxy_loop.proofs.line_server.Server.turn.Goals as goal

pub returns-clause-links : goal.returns-clause-links
returns-clause-links g c = λ journal s. links_stand c.args.self.now.blocks.items (table_of c.take_turn.new.sessions) journal s

pub returns-clause-queues : goal.returns-clause-queues
returns-clause-queues g c = λ journal s. queues_stand c.args.self.now.blocks.items (table_of c.take_turn.new.sessions) journal s
