use Rattle.std.proofs.Common.{◌≡◌, length}
use Rattle.sasl_watch.specs.Watching.{came}
use Rattle.line_tests.proofs.lines.take_bus.Given as goal

abbrev pub invariant-loop-line : goal.invariant-loop-line
invariant-loop-line l = came l.lines ≡ came l.initial.lines

abbrev pub decreases-loop-line : goal.decreases-loop-line
decreases-loop-line l = length l.lines.left
