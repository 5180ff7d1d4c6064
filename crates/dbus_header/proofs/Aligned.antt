-- Places in a message: a place that is padded to a multiple of 8 needs no padding to a multiple of 4.
use Rattle.std.proofs.Common.{◌≡◌, ℕ, ◌+◌, ◌%◌, arith}
use Rattle.dbus_values.specs.Values.{padding}

pub aligned_8 : (p : ℕ) → (p + padding 8 p) % 8 ≡ 0
aligned_8 p = omega arith

pub no_gap_4 : (q : ℕ) → q % 8 ≡ 0 → padding 4 (q + 4) ≡ 0
no_gap_4 q e = omega arith

pub no_gap_1 : (q : ℕ) → padding 1 q ≡ 0
no_gap_1 q = omega arith
