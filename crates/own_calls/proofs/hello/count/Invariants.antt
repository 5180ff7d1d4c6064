use Rattle.std.proofs.Common.{◌≡◌, ◌≤◌, ◌*◌, length}
use Rattle.own_calls.proofs.PatternCalls.{calls_for_first}
use Rattle.own_calls.proofs.hello.count.Given as goal

abbrev pub invariant-loop-index : goal.invariant-loop-index
invariant-loop-index l = record {
  counted : l.count ≡ length (calls_for_first l.index l.policy.entries);
  few : l.count ≤ 2 * l.index;
}
