use Rattle.std.proofs.Common.{◌≡◌, drop}
use Rattle.policy_args.specs.Policy.{greater, granted}
use Rattle.policy_args.proofs.policy.Policy.granted_in_pass.Given as goal

abbrev pub invariant-loop-entry : goal.invariant-loop-entry
invariant-loop-entry l =
    greater l.level (granted (drop l.entry-index l.entry-items) l.name) ≡ granted l.self.entries l.name
