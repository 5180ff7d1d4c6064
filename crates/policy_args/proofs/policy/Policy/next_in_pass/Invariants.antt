use Rattle.std.proofs.Common.{◌≡◌, ◌+◌}
use Rattle.policy_args.specs.Covering.{next_covering}
use Rattle.policy_args.proofs.policy.Policy.next_in_pass.Given as goal

abbrev pub invariant-loop-index : goal.invariant-loop-index
invariant-loop-index l = next_covering l.self.entries l.name (l.index + 1) ≡ next_covering l.self.entries l.name l.from
