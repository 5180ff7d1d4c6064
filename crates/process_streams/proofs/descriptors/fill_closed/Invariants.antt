use Rattle.std.proofs.Common.{◌≡◌, length, map}
use Rattle.process_streams.proofs.Holding.{Holds}
use Rattle.process_streams.proofs.descriptors.fill_closed.Given as goal

abbrev pub invariant-loop : goal.invariant-loop
invariant-loop g l = record {
  count : length l.held.items ≡ l.counter;
  holds : Holds (g.D.Descriptors.given l.fn.descriptors) (g.D.Descriptors.given l.descriptors) (map g.D.Descriptors.number l.held.items);
}
