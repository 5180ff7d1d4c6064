use Rattle.std.proofs.Common.{◌≡◌, ◌++◌, drop, get_or, string_bytes}
use Rattle.audit.specs.Audit.{reason_lines, reason_place, reasons}
use Rattle.audit.proofs.lines.push_reasons.Given as goal

abbrev pub invariant-loop-reason : goal.invariant-loop-reason
invariant-loop-reason l =
    string_bytes l.text ++ reason_lines (λ reason. get_or l.counters (reason_place reason) 0) (drop l.reason-index reasons)
    ≡ string_bytes l.fn.text ++ reason_lines (λ reason. get_or l.counters (reason_place reason) 0) reasons
