use Rattle.std.proofs.Common.{length}
use Rattle.wire_benchmark.proofs.read_stream.Given as goal

abbrev pub decreases-loop-head : goal.decreases-loop-head
decreases-loop-head l = length l.rest
