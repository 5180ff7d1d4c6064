-- What is seen of a server: the blocks of its line, how many sessions it serves in all, and those that aren't over.
use Rattle.std.specs.Prelude.{ℕ, List}
use Rattle.policy_args.specs.declared.line.Block.{Block}
use Rattle.proxy_loop.specs.declared.line_server.Server.{Server}
use Rattle.proxy_loop.specs.Tables.{Table, table_of}

abbrev pub blocks_of : Server → List Block
blocks_of server = server.blocks.items

abbrev pub limit_of : Server → ℕ
limit_of server = server.limit

abbrev pub sessions_of : Server → Table
sessions_of server = table_of server.sessions
