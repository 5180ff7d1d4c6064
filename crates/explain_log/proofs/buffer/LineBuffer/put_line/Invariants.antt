use Rattle.std.proofs.Common.{◌≤◌, ◌<◌, ◌++◌, length, take}
use Rattle.std.specs.Prelude.{flat_map}
use Rattle.explain_log.specs.Buffers.{GoesOut}
use Rattle.explain_log.specs.declared.buffer.TheConstants.{LONG}
use Rattle.explain_log.proofs.buffer.LineBuffer.put_line.Given as goal

abbrev pub invariant-loop-piece : goal.invariant-loop-piece
invariant-loop-piece g l = record {
  out : GoesOut (l.fn.self ++ flat_map (λ piece. piece.now) (take l.piece-index l.piece-items)) l.self (g.S.Sink.view l.fn.sink).told (g.S.Sink.view l.sink).told;
  most : 0 < l.piece-index → length l.self ≤ LONG;
  count : (g.S.Sink.view l.fn.sink).faults ≤ (g.S.Sink.view l.sink).faults;
}
