use Rattle.std.proofs.Common.{arith}
use Rattle.proxy_main.proofs.OfSessions.{given_of_file}
use Rattle.proxy_main.proofs.files.sessions_in.Goals as goal

pub returns-clause-of_file : goal.returns-clause-of_file
returns-clause-of_file c = given_of_file c.read_any.result c.args.bytes.now (λ i. omega (arith, c.type_inv.bytes i)) c.read_any.ensures.exact
