use Rattle.std.proofs.Common.{◌≡◌, ◌++◌, drop, string_bytes}
use Rattle.suggestion.specs.Suggestion.{entry_words}
use Rattle.suggestion.proofs.file.push_entries.Given as goal

abbrev pub invariant-loop-place : goal.invariant-loop-place
invariant-loop-place l = string_bytes l.text ++ entry_words (drop l.place l.policy.entries) ≡ string_bytes l.fn.text ++ entry_words l.policy.entries
