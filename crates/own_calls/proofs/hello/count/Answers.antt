use Rattle.std.proofs.Common.{true, false, arith, sym, ◌∙◌}
use Rattle.own_calls.proofs.PatternCalls.{next-count, own-count}
use Rattle.own_calls.proofs.hello.count.Goals as goal

pub loop-index-preserved : goal.loop-index-preserved
loop-index-preserved c = record {
  counted = next-count c.args.policy.now.entries c.loop-index.index c.pattern.result.now c.loop-index.count c.calls_for_count-count.result c.pattern.ensures c.loop-index.invariant.counted c.calls_for_count-count.ensures.count;
  few = omega (arith, c.loop-index.invariant.few, c.calls_for_count-count.ensures.few);
}

pub returns-then-has_subtree : goal.returns-then-has_subtree
returns-then-has_subtree c = own-count c.args.policy.now c.loop-index.index c.loop-index.count true (omega arith) (sym c.if-has_subtree.true ∙ c.has_subtree.ensures) c.loop-index.invariant.counted

pub returns-else-has_subtree : goal.returns-else-has_subtree
returns-else-has_subtree c =
    omega (arith, own-count c.args.policy.now c.loop-index.index c.loop-index.count false (omega arith) (sym c.if-has_subtree.false ∙ c.has_subtree.ensures) c.loop-index.invariant.counted)
