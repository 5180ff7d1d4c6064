use Rattle.own_calls.proofs.ListedCalls.{cut_at_owner, next-owner}
use Rattle.own_calls.proofs.SendingLaws.{refused}
use Rattle.own_calls.proofs.listed.after_names.Goals as goal

pub loop-name-preserved : goal.loop-name-preserved
loop-name-preserved c = next-owner c.args.names.now c.loop-name.name-index _ c.loop-name-test.true c.loop-name.invariant c.in_ok-put_owner.ensures.sent

pub returns-in_err-put_owner-clause-err : goal.returns-in_err-put_owner-clause-err
returns-in_err-put_owner-clause-err c = refused c.from_residual.result (cut_at_owner c.args.names.now c.loop-name.name-index _ c.loop-name-test.true c.loop-name.invariant c.in_err-put_owner.ensures.cut)
