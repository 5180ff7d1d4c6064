use Rattle.std.proofs.Common.{sym, ◌∙◌}
use Rattle.policy_args.proofs.NextCovering.{next-here, next-later}
use Rattle.policy_args.proofs.policy.Policy.next_in_pass.Goals as goal

pub returns-then-covers-clause-next : goal.returns-then-covers-clause-next
returns-then-covers-clause-next c =
    sym (next-here c.args.self.now.entries c.args.name.now c.loop-index.index c.entry.result.now c.entry.ensures (sym c.covers.ensures ∙ c.if-covers.true)) ∙ c.loop-index.invariant

pub loop-index-preserved : goal.loop-index-preserved
loop-index-preserved c =
    sym (next-later c.args.self.now.entries c.args.name.now c.loop-index.index c.entry.result.now c.entry.ensures (sym c.covers.ensures ∙ c.if-covers.false)) ∙ c.loop-index.invariant
