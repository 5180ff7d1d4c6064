use Rattle.std.proofs.Common.{arith}
use Rattle.ping_rewrite.proofs.CallBytes.{get_owner_count}
use Rattle.ping_rewrite.proofs.calls.get_owner_len.Goals as goal

pub returns-clause-len : goal.returns-clause-len
returns-clause-len c = λ serial. omega (arith, get_owner_count serial c.args.name.now)
