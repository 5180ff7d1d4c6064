use Rattle.std.specs.Io.KnownBytes.{Keeps}
use Rattle.process_streams.proofs.retries.write_waiting.Given as goal

-- what the writer holds is what it held before
abbrev pub invariant-loop : goal.invariant-loop
invariant-loop g l = Keeps (g.W.Write.contents l.fn.writer) (g.W.Write.contents l.writer)
