use Rattle.std.proofs.Common.{arith}
use Rattle.policy_args.proofs.Distincts.{counted, few-patterns}
use Rattle.policy_args.proofs.policy.Policy.pattern_count.Goals as goal

pub overflow_cast-result : goal.overflow_cast-result
overflow_cast-result c =
    let same = counted c.self.inside.entries.items c.self.inside.patterns c.self.invariant.2 in
    let few = few-patterns c.self.inside.entries.items in
    let most = c.self.invariant.1 in
    omega arith
