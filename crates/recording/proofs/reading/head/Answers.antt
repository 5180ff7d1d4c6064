use Rattle.std.proofs.Common.{sym, ap, ◌∙◌, eq-eqb, Err}
use Rattle.std.proofs.lemmas.Bool.{ne_eqb}
use Rattle.std.proofs.lemmas.Result.{err_from_is_err_and}
use Rattle.recording.specs.declared.BadRecording.{BadRecording}
use Rattle.recording.proofs.Heads.{head-fault, head-other, head-same}
use Rattle.recording.proofs.reading.head.Goals as goal

pub returns-in_err-version : goal.returns-in_err-version
returns-in_err-version c =
    let p = err_from_is_err_and c.from_residual.result c.from_residual.ensures.1 in
    rw (p.1, p.2) (sym (head-fault c.args.bytes.now _ (sym c.in_err-version.ensures)))

pub returns-then-branch-ne-VERSION : goal.returns-then-branch-ne-VERSION
returns-then-branch-ne-VERSION c =
    ap (λ (f : BadRecording). Err f) c.fault.ensures
    ∙ sym (head-other c.args.bytes.now c.in_ok-version.field-0 (sym c.in_ok-version.ensures) (ne_eqb c.in_ok-version.field-0 1 c.if-branch-ne-VERSION.true))

pub returns : goal.returns
returns c =
    c.auth.ensures ∙ sym (head-same c.args.bytes.now c.in_ok-version.field-0 (sym c.in_ok-version.ensures) (eq-eqb c.in_ok-version.field-0 1 c.if-branch-ne-VERSION.false))
