use Rattle.std.proofs.Common.{◌≤◌, ℕ, List, length, sym, subst, arith}
use Rattle.recording_tests.proofs.recordings.told_bytes.Goals as goal

pub write-requires : goal.write-requires
write-requires c = subst (λ (b : List ℕ). length b ≤ 67108864) (sym c.in-Ok.ensures.spelled) (omega arith)
