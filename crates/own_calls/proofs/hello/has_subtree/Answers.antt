use Rattle.std.proofs.Common.{true, false, ap, sym, ◌∙◌}
use Rattle.std.specs.Prelude.{not}
use Rattle.own_calls.proofs.Covering.{next-subtree}
use Rattle.own_calls.proofs.hello.has_subtree.Goals as goal

pub returns-then-not-is_exact : goal.returns-then-not-is_exact
returns-then-not-is_exact c =
    sym (next-subtree c.args.policy.now.entries c.loop-index.index c.entry.result.now true c.entry.ensures (ap not (sym c.is_exact.ensures ∙ c.if-not-is_exact.true)))
    ∙ c.loop-index.invariant

pub loop-index-preserved : goal.loop-index-preserved
loop-index-preserved c =
    sym (next-subtree c.args.policy.now.entries c.loop-index.index c.entry.result.now false c.entry.ensures (ap not (sym c.is_exact.ensures ∙ c.if-not-is_exact.false)))
    ∙ c.loop-index.invariant
