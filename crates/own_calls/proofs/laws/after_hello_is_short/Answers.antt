use Rattle.std.proofs.Common.{arith}
use Rattle.own_calls.proofs.Lengths.{own-calls-short}
use Rattle.own_calls.proofs.laws.after_hello_is_short.Goals as goal

pub returns : goal.returns
returns c = own-calls-short c.args.policy.now c.has_patterns.ensures (omega (arith, c.pattern_count-patterns.ensures.count, c.pattern_count-patterns.ensures.most))
