use Rattle.std.proofs.Common.{◌++◌, ◌∷◌, [], arith, refl, string_bytes}
use Rattle.link_traits.proofs.Parts.{part_none}
use Rattle.replay.proofs.Logs.{log-start, log-step, log-part, log-refused, same_fault, log-some, log-last}
use Rattle.replay.specs.declared.ReplayFault.TheVariants.{Memory}
use Rattle.replay.proofs.logging.write_log.Goals as goal

pub loop-note-init : goal.loop-note-init
loop-note-init g c = record { taken = []; logged = log-start _ _ _ c.new-lines.ensures.bytes; count = omega arith }

pub returns-in_err-put_line-clause-part : goal.returns-in_err-put_line-clause-part
returns-in_err-put_line-clause-part g c =
    log-part _ _ _ _ _ _ c.loop-note.invariant.taken c.in-Some.ensures.some.0 c.in-Some.note c.loop-note.invariant.logged c.in-Some.ensures.some.1 c.put_line.ensures.part

pub returns-in_err-put_line-clause-some : goal.returns-in_err-put_line-clause-some
returns-in_err-put_line-clause-some g c =
    λ failed. log-some _ _ _ _ _ c.loop-note.invariant.taken c.in-Some.ensures.some.0 c.in-Some.note c.loop-note.invariant.logged c.in-Some.ensures.some.1

pub returns-in_err-put_line-clause-refused : goal.returns-in_err-put_line-clause-refused
returns-in_err-put_line-clause-refused g c =
    λ refused. log-refused _ _ _ _ _ _ _ c.loop-note.invariant.taken c.in-Some.ensures.some.0 c.in-Some.note c.loop-note.invariant.logged c.in-Some.ensures.some.1 c.in-Some.ensures.some.2 (c.put_line.ensures.memory (same_fault c.from_residual.result c.put_line.result c.in_err-put_line.field-0.0 Memory c.from_residual.ensures.1 c.in_err-put_line.was refused))

pub loop-note-preserved : goal.loop-note-preserved
loop-note-preserved g c = record {
  taken = c.loop-note.invariant.taken ++ c.in-Some.note ∷ [];
  logged = log-step _ _ _ _ _ _ _ _ c.loop-note.invariant.taken c.in-Some.ensures.some.0 c.in-Some.note c.loop-note.invariant.logged c.in-Some.ensures.some.1 c.in-Some.ensures.some.2
      c.in_ok-put_line.ensures.ok;
  count = omega arith;
}

pub returns-then-is_empty-clause-part : goal.returns-then-is_empty-clause-part
returns-then-is_empty-clause-part g c =
    log-last _ _ _ _ _ c.loop-note.invariant.taken c.loop-note.invariant.logged c.in_default.ensures.none.0 _ (part_none _ _ (string_bytes c.loop-note.lines) refl)

pub returns-clause-part : goal.returns-clause-part
returns-clause-part g c = log-last _ _ _ _ _ c.loop-note.invariant.taken c.loop-note.invariant.logged c.in_default.ensures.none.0 _ c.write_lines.ensures.part
