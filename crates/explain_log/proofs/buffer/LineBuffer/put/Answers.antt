use Rattle.std.proofs.Common.{◌≡◌, ◌∙◌}
use Rattle.std.proofs.lemmas.Result.{err_from_is_err_and, on_err_weaker, on_ok_weaker}
use Rattle.link_traits.specs.Told.{added}
use Rattle.explain_log.proofs.Buffers.{both_go, cut_before, then_part}
use Rattle.explain_log.proofs.buffer.LineBuffer.put.Goals as goal

pub returns-in_err-write_out-clause-err : goal.returns-in_err-write_out-clause-err
returns-in_err-write_out-clause-err g c =
    let p = err_from_is_err_and c.from_residual.result c.from_residual.ensures.1 in
    let left : c.keep.new.self ≡ c.args.self.now = c.keep.ensures.left c.if-keep.false in
    rw p.1 (cut_before c.args.self.now c.args.bytes.now _ _ (rw left at c.in_err-write_out.ensures.err))

pub returns-clause-ok : goal.returns-clause-ok
returns-clause-ok g c =
    let left : c.keep.new.self ≡ c.args.self.now = c.keep.ensures.left c.if-keep.false in
    let first : (g.S.Sink.view c.write_out.new.sink).told ≡ added c.args.self.now (g.S.Sink.view c.args.sink.now).told = rw left at c.in_ok-write_out.ensures.ok.1 in
    on_ok_weaker c.write_all.result
    (λ second. both_go c.args.self.now c.args.bytes.now c.keep-2.new.self _ _ _ (c.keep-2.ensures.left c.if-keep-2.false ∙ c.in_ok-write_out.ensures.ok.0) first second)
    c.write_all.ensures.ok

pub returns-clause-err : goal.returns-clause-err
returns-clause-err g c =
    let left : c.keep.new.self ≡ c.args.self.now = c.keep.ensures.left c.if-keep.false in
    let first : (g.S.Sink.view c.write_out.new.sink).told ≡ added c.args.self.now (g.S.Sink.view c.args.sink.now).told = rw left at c.in_ok-write_out.ensures.ok.1 in
    on_err_weaker c.write_all.result (λ cause. then_part c.args.self.now c.args.bytes.now _ _ _ first c.write_all.ensures.part) c.write_all.ensures.cause
