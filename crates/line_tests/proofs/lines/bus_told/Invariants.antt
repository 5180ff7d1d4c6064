use Rattle.std.proofs.Common.{◌+◌, ◌≤◌, length}
use Rattle.sasl_watch.specs.Watching.{came}
use Rattle.line_tests.proofs.lines.bus_told.Given as goal

abbrev pub invariant-loop-rest : goal.invariant-loop-rest
invariant-loop-rest l = came l.lines + length l.rest ≤ length l.stream

abbrev pub decreases-loop-rest : goal.decreases-loop-rest
decreases-loop-rest l = length l.rest
