use Rattle.std.proofs.Common.{◌≡◌}
use Rattle.proxy_loop.specs.Listening.{Heard}
use Rattle.proxy_loop.proofs.listening.listen.Given as goal

abbrev pub invariant-loop-block : goal.invariant-loop-block
invariant-loop-block g l = record {
  heard : Heard l.blocks l.block-index (g.N.Net.view l.fn.net) (g.N.Net.view l.net);
  counted : l.count ≡ l.block-index;
}
