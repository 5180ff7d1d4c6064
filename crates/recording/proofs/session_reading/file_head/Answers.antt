use Rattle.std.proofs.Common.{◌≡◌, true, sym}
use Rattle.std.proofs.lemmas.Bool.{ne_eqb}
use Rattle.std.proofs.lemmas.Result.{err_from_is_err_and}
use Rattle.recording.proofs.Heads.{known, known_1, known_2, file_head-fault, file_head-other, file_head-bad_auth, file_head-is}
use Rattle.recording.proofs.session_reading.file_head.Goals as goal
use Rattle.recording.proofs.session_reading.file_head.Goals.{else-version-ne-VERSION-via-then-version-ne-VERSION+else-version-ne-SESSIONS_VERSION, else-version-ne-VERSION-via-else-version-ne-VERSION}

pub returns-in_err-version-clause-fault : goal.returns-in_err-version-clause-fault
returns-in_err-version-clause-fault c =
    let p = err_from_is_err_and c.from_residual.result c.from_residual.ensures.1 in
    rw (p.1, p.2) (file_head-fault c.args.bytes.now _ (sym c.in_err-version.ensures))

pub returns-then-version-ne-SESSIONS_VERSION-clause-fault : goal.returns-then-version-ne-SESSIONS_VERSION-clause-fault
returns-then-version-ne-SESSIONS_VERSION-clause-fault c =
    let v = c.in_ok-version.version in
    rw c.fault.ensures (file_head-other c.args.bytes.now v (sym c.in_ok-version.ensures) (ne_eqb v 1 c.if-version-ne-VERSION.true) (ne_eqb v 2 c.if-version-ne-SESSIONS_VERSION.true))

pub returns-in_err-auth-clause-fault : goal.returns-in_err-auth-clause-fault
returns-in_err-auth-clause-fault c =
    let v = c.in_ok-version.version in
    let p = err_from_is_err_and c.from_residual-in_err-auth.result c.from_residual-in_err-auth.ensures.1 in
    let k : known v ≡ true = elim c.else-version-ne-VERSION.branch [
      | else-version-ne-VERSION-via-then-version-ne-VERSION+else-version-ne-SESSIONS_VERSION w ↦ known_2 v w.if-version-ne-SESSIONS_VERSION.false
      | else-version-ne-VERSION-via-else-version-ne-VERSION w ↦ known_1 v w.if-version-ne-VERSION.false
    ] in
    rw (p.1, p.2) (file_head-bad_auth c.args.bytes.now v _ (sym c.in_ok-version.ensures) k (sym c.in_err-auth.ensures))

pub returns-clause-ok : goal.returns-clause-ok
returns-clause-ok c =
    let v = c.in_ok-version.version in
    let k : known v ≡ true = elim c.else-version-ne-VERSION.branch [
      | else-version-ne-VERSION-via-then-version-ne-VERSION+else-version-ne-SESSIONS_VERSION w ↦ known_2 v w.if-version-ne-SESSIONS_VERSION.false
      | else-version-ne-VERSION-via-else-version-ne-VERSION w ↦ known_1 v w.if-version-ne-VERSION.false
    ] in
    file_head-is c.args.bytes.now v c.in_ok-auth.auth (sym c.in_ok-version.ensures) k (sym c.in_ok-auth.ensures)
