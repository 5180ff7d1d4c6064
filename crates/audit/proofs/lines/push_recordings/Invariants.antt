use Rattle.std.proofs.Common.{◌≡◌, ◌++◌, ◌+◌, drop, string_bytes}
use Rattle.audit.specs.Tallies.{tally_lines}
use Rattle.audit.proofs.lines.push_recordings.Given as goal

abbrev pub invariant-loop-place : goal.invariant-loop-place
invariant-loop-place l =
    string_bytes l.text ++ tally_lines (l.place + 1) (drop l.place l.tallies) ≡ string_bytes l.fn.text ++ tally_lines 1 l.tallies
