use Rattle.std.proofs.Common.{◌≡◌, ◌++◌, ◌+◌, drop, get_or, string_bytes}
use Rattle.audit.specs.Audit.{denied_lines}
use Rattle.audit.proofs.lines.push_all_denied.Given as goal

abbrev pub invariant-loop-place : goal.invariant-loop-place
invariant-loop-place l =
    string_bytes l.text ++ denied_lines (λ number. get_or l.counters number 0) (l.place + 1) (drop l.place l.policy.entries)
    ≡ string_bytes l.fn.text ++ denied_lines (λ number. get_or l.counters number 0) 1 l.policy.entries
