use Rattle.std.proofs.Common.{◌+◌, ◌*◌, length}
use Rattle.audit_pool.proofs.+answers+fn-answers-join+arg2+fn-answers-join+arg3.Given as goal

abbrev pub decreases-answers : goal.decreases-answers
decreases-answers g l = 2 * length l.jobs.now

abbrev pub decreases-join+arg2 : goal.decreases-join+arg2
decreases-join+arg2 g l = 2 * length l.front.now + 1

abbrev pub decreases-join+arg3 : goal.decreases-join+arg3
decreases-join+arg3 g l = 2 * length l.back.now + 1
