use Rattle.std.proofs.Common.{length}
use Rattle.proxy_loop.specs.Logging.{LogsSoFar}
use Rattle.proxy_loop.proofs.log_work.log_new.Given as goal

abbrev pub invariant-loop-note : goal.invariant-loop-note
invariant-loop-note g l = LogsSoFar l.number l.fn.session l.session (g.S.Sink.view l.fn.sink) (g.S.Sink.view l.sink) l.lines

abbrev pub decreases-loop-note : goal.decreases-loop-note
decreases-loop-note g l = length l.session.notes
