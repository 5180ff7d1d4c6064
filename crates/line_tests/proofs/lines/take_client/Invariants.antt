use Rattle.std.proofs.Common.{◌≡◌, length}
use Rattle.sasl_watch.specs.Watching.{came}
use Rattle.line_tests.proofs.lines.take_client.Given as goal

abbrev pub invariant-loop-given : goal.invariant-loop-given
invariant-loop-given l = came l.lines ≡ came l.initial.lines

abbrev pub decreases-loop-given : goal.decreases-loop-given
decreases-loop-given l = length l.lines.left
