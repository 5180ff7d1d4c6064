use Rattle.std.proofs.Common.{ℕ}
use Rattle.audit.specs.Tallies.{Counts}
use Rattle.audit.proofs.Counted.{added_to}
use Rattle.audit.proofs.counters.Counters.add.Given as goal

abbrev pub invariant-loop-place : goal.invariant-loop-place
invariant-loop-place l = (len : ℕ) (count : ℕ → ℕ) → Counts len count l.fn.self → Counts len (added_to l.place count l.other) l.self
