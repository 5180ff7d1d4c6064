use Rattle.std.proofs.Common.{◌+◌, arith, refl, sym, ap, ◌∙◌}
use Rattle.std.proofs.lemmas.Result.{err_from_is_err_and}
use Rattle.recording.specs.Recording.{record_len}
use Rattle.recording.proofs.Walk.{counted-on, counted-fault, counted-end, within, tail}
use Rattle.recording.proofs.reading.record_count.Goals as goal

pub returns-in_err-len : goal.returns-in_err-len
returns-in_err-len c =
    let at = c.loop-at.at in
    let file = c.args.file.now in
    let p = err_from_is_err_and c.from_residual.result c.from_residual.ensures.1 in
    let read = ap (record_len at) (sym (tail at file file refl)) ∙ sym c.in_err-len.ensures in
    rw (p.1, p.2) (sym (counted-fault c.loop-at.count at file _ (omega arith) read) ∙ c.loop-at.invariant.same)

pub overflow_add-at : goal.overflow_add-at
overflow_add-at c =
    let at = c.loop-at.at in
    let file = c.args.file.now in
    let read = ap (record_len at) (sym (tail at file file refl)) ∙ sym c.in_ok-len.ensures in
    omega (arith, within at c.in_ok-len.len file (omega arith) read, c.requires.short)

pub overflow_add-at-in-loop-at : goal.overflow_add-at-in-loop-at
overflow_add-at-in-loop-at c =
    let at = c.loop-at.at in
    let file = c.args.file.now in
    let read = ap (record_len at) (sym (tail at file file refl)) ∙ sym c.in_ok-len.ensures in
    omega (arith, within at c.in_ok-len.len file (omega arith) read, c.requires.short)

pub loop-at-preserved : goal.loop-at-preserved
loop-at-preserved c =
    let at = c.loop-at.at in
    let file = c.args.file.now in
    let len = c.in_ok-len.len in
    let read = ap (record_len at) (sym (tail at file file refl)) ∙ sym c.in_ok-len.ensures in
    record {
      same = counted-on c.loop-at.count at len (at + (5 + len)) file (omega arith) read (omega arith) ∙ c.loop-at.invariant.same;
      within = omega (arith, within at len file (omega arith) read);
      few = omega arith;
    }

pub returns : goal.returns
returns c = sym (counted-end c.loop-at.count c.loop-at.at c.args.file.now (omega arith)) ∙ c.loop-at.invariant.same
