use Rattle.std.proofs.Common.{◌≡◌, fold, map}
use Rattle.policy_within.specs.Steps.{with_z}
use Rattle.policy_within.proofs.z_words.ZWords.add_parts.Given as goal

abbrev pub invariant-loop-element : goal.invariant-loop-element
invariant-loop-element l = l.self ≡ fold with_z l.initial.self (map (λ t. t.now) l.yielded)
