use Rattle.std.proofs.Common.{arith}
use Rattle.policy_args.proofs.Distincts.{few-patterns}
use Rattle.own_calls.proofs.hello.pattern_count.Goals as goal

pub returns-clause-most : goal.returns-clause-most
returns-clause-most c = omega (arith, few-patterns c.args.policy.now.entries)
