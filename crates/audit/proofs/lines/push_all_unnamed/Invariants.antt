use Rattle.std.proofs.Common.{◌≡◌, ◌++◌, ◌+◌, drop, string_bytes, List}
use Rattle.audit.specs.Audit.{unnamed_lines}
use Rattle.audit.specs.Tallies.{Marked}
use Rattle.dbus_names.specs.Texts.{Text}
use Rattle.audit.proofs.lines.push_all_unnamed.Given as goal

abbrev pub invariant-loop-place : goal.invariant-loop-place
invariant-loop-place l =
    (names : List Text) → Marked l.policy.entries names l.named →
    string_bytes l.text ++ unnamed_lines names (l.place + 1) (drop l.place l.policy.entries) ≡ string_bytes l.fn.text ++ unnamed_lines names 1 l.policy.entries
