use Rattle.std.proofs.Common.{arith, sym}
use Rattle.std.proofs.lemmas.Result.{err_from_is_err_and}
use Rattle.recording.proofs.Walk.{head_long, recording-too_long, recording-head_fault, recording-record_fault}
use Rattle.recording.proofs.reading.check.Goals as goal

pub returns-then-bytes-gt-RECORDING_LIMIT-clause-fault : goal.returns-then-bytes-gt-RECORDING_LIMIT-clause-fault
returns-then-bytes-gt-RECORDING_LIMIT-clause-fault c = rw c.fault.ensures (recording-too_long c.args.bytes.now (omega arith))

pub returns-in_err-auth-clause-fault : goal.returns-in_err-auth-clause-fault
returns-in_err-auth-clause-fault c =
    let p = err_from_is_err_and c.from_residual.result c.from_residual.ensures.1 in
    rw (p.1, p.2) (recording-head_fault c.args.bytes.now _ (omega arith) (sym c.in_err-auth.ensures))

pub record_count-requires-clause-long : goal.record_count-requires-clause-long
record_count-requires-clause-long c = head_long c.args.bytes.now c.in_ok-auth.auth (sym c.in_ok-auth.ensures)

pub returns-in_err-records-clause-fault : goal.returns-in_err-records-clause-fault
returns-in_err-records-clause-fault c =
    let p = err_from_is_err_and c.from_residual-in_err-records.result c.from_residual-in_err-records.ensures.1 in
    rw (p.1, p.2) (recording-record_fault c.args.bytes.now c.in_ok-auth.auth _ (omega arith) (sym c.in_ok-auth.ensures) (sym c.in_err-records.ensures))

pub returns-clause-ok : goal.returns-clause-ok
returns-clause-ok c = record {
  short = omega arith;
  long = head_long c.args.bytes.now c.in_ok-auth.auth (sym c.in_ok-auth.ensures);
  head = sym c.in_ok-auth.ensures;
  count = sym c.in_ok-records.ensures;
}
