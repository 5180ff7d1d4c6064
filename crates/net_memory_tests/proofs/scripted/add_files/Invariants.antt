use Rattle.std.proofs.Common.{◌≡◌}
use Rattle.net_memory_tests.proofs.scripted.add_files.Given as goal

abbrev pub invariant-loop-word : goal.invariant-loop-word
invariant-loop-word l = l.system.notes ≡ l.fn.system.notes
