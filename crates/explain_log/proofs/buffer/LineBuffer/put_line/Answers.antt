use Rattle.std.proofs.lemmas.Result.{err_from_is_err_and}
use Rattle.std.proofs.Common.{rules, ◌≡◌, ◌≤◌, ◌++◌, arith}
use Rattle.explain_log.proofs.Buffers.{piece_cut, piece_goes}
use Rattle.explain_log.proofs.buffer.LineBuffer.put_line.Goals as goal

pub loop-piece-preserved : goal.loop-piece-preserved
loop-piece-preserved g c = record {
  out = piece_goes c.args.self.now c.as_bytes.result.now c.loop-piece.self c.put.new.self c.pieces.result c.loop-piece.piece-index _ _ _ _
      (omega arith) c.as_bytes.ensures.value c.loop-piece.invariant.out c.in_ok-put.ensures.ok;
  most = λ above. c.in_ok-put.ensures.most;
  count = omega arith;
}

pub returns-in_err-put-clause-err : goal.returns-in_err-put-clause-err
returns-in_err-put-clause-err g c =
    let p = err_from_is_err_and c.from_residual.result c.from_residual.ensures.1 in
    rw p.1 (piece_cut c.args.self.now c.as_bytes.result.now c.loop-piece.self c.pieces.result c.loop-piece.piece-index _ _ _ _ _
    (omega arith) c.as_bytes.ensures.value c.pieces.ensures c.loop-piece.invariant.out c.in_err-put.ensures.err)
