use Rattle.std.proofs.Common.{arith}
use Rattle.audit_pool.proofs.Zips.{all_zip-append}
use Rattle.audit_pool.proofs.+answers+fn-answers-join+arg2+fn-answers-join+arg3.Goals as goal

pub returns-in_ok-second-in_default : goal.returns-in_ok-second-in_default
returns-in_ok-second-in_default g t c = grind (arith, all_zip-append g.J.Job.allows, c.split_at.ensures, c.join-first.ensures, c.branch-first.ensures, c.branch-second.ensures, c.in_ok-first-in_default.is, c.in_ok-second-in_default.is, c.both.ensures)
