use Rattle.std.proofs.Common.{◌≡◌}
use Rattle.std.specs.List.{list_any}
use Rattle.policy_view.specs.Sent.{is_subtree}
use Rattle.own_calls.proofs.Covering.{subtree_from}
use Rattle.own_calls.proofs.hello.has_subtree.Given as goal

abbrev pub invariant-loop-index : goal.invariant-loop-index
invariant-loop-index l = subtree_from l.index l.policy.entries ≡ list_any is_subtree l.policy.entries
