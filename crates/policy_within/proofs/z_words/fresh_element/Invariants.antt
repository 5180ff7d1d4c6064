use Rattle.std.proofs.Common.{◌≡◌, fold, true, take, []}
use Rattle.policy_within.specs.Apart.{are_rooted}
use Rattle.policy_within.specs.Elements.{elements}
use Rattle.policy_within.specs.Steps.{with_z}
use Rattle.policy_within.proofs.z_words.fresh_element.Given as goal

abbrev pub invariant-loop-index : goal.invariant-loop-index
invariant-loop-index l = record {
  words : l.taken ≡ fold with_z [] (elements (take l.index l.policy.entries));
  rooted : are_rooted (take l.index l.policy.entries) ≡ true;
}
