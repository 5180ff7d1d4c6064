use Rattle.std.proofs.Common.{◌+◌, sym, subst, drop, take, string_bytes, refl, arith}
use Rattle.link_traits.proofs.Parts.{part_none}
use Rattle.replay.proofs.Logs.{same_fault}
use Rattle.replay.proofs.SessionLogs.{SessionsLogged, logged-end, logged-last, logged-part, logged-refused, logged-step, notes-at, notes-more}
use Rattle.replay.specs.declared.ReplayFault.TheVariants.{Memory}
use Rattle.replay.proofs.session_logging.write_session_log.Goals as goal

pub returns-in_err-put_line-clause-part : goal.returns-in_err-put_line-clause-part
returns-in_err-put_line-clause-part g c =
    let ns = c.args.notes.now in
    let i = c.loop-noted.noted-index in
    logged-part ns (take i ns) (drop (i + 1) ns) c.noted-item.result _ _ _ _ (notes-at ns i c.noted-item.result c.loop-noted-test.true c.noted-item.is) c.loop-noted.invariant.logged c.put_line.ensures.part

pub returns-in_err-put_line-clause-refused : goal.returns-in_err-put_line-clause-refused
returns-in_err-put_line-clause-refused g c = λ refused.
    let ns = c.args.notes.now in
    let i = c.loop-noted.noted-index in
    logged-refused ns (take i ns) (drop (i + 1) ns) c.noted-item.result _ _ _ _ (notes-at ns i c.noted-item.result c.loop-noted-test.true c.noted-item.is) c.loop-noted.invariant.logged
    (c.put_line.ensures.memory (same_fault c.from_residual.result c.put_line.result c.in_err-put_line.field-0.0 Memory c.from_residual.ensures.1 c.in_err-put_line.was refused))

pub loop-noted-preserved : goal.loop-noted-preserved
loop-noted-preserved g c =
    let ns = c.args.notes.now in
    let i = c.loop-noted.noted-index in
    record {
      logged = subst (λ taken. SessionsLogged (g.E.Sink.view c.args.err.now).told (g.E.Sink.view c.put_line.new.err).told (string_bytes c.put_line.new.lines) taken) (sym (notes-more ns i c.noted-item.result c.loop-noted-test.true c.noted-item.is))
          (logged-step _ _ _ _ _ (take i ns) c.noted-item.result c.loop-noted.invariant.logged c.in_ok-put_line.ensures.ok);
      count = omega arith;
    }

pub returns-then-is_empty-clause-part : goal.returns-then-is_empty-clause-part
returns-then-is_empty-clause-part g c =
    logged-last _ _ _ c.args.notes.now (logged-end _ _ _ c.args.notes.now c.loop-noted.noted-index c.loop-noted-test.false c.loop-noted.invariant.logged) _ (part_none _ _ (string_bytes c.loop-noted.lines) refl)

pub returns-clause-part : goal.returns-clause-part
returns-clause-part g c =
    logged-last _ _ _ c.args.notes.now (logged-end _ _ _ c.args.notes.now c.loop-noted.noted-index c.loop-noted-test.false c.loop-noted.invariant.logged) _ c.write_lines.ensures.part
