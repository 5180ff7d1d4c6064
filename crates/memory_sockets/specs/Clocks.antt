-- What a clock in memory reads.
use Rattle.std.specs.Prelude.{ℕ, ◌≡◌, ◌+◌, Option, Some, None}
use Rattle.std.specs.Time.{instant_nanos, FitsClock}
use Rattle.std.specs.declared.time.Instant.{Instant}

-- the time after this number of nanoseconds from a start, unless a clock ends before
abbrev pub IsReading : Option Instant → ℕ → Option Instant → Type 0
IsReading None nanos time = time ≡ None
IsReading (Some start) nanos None = FitsClock (instant_nanos start + nanos) → ⊥
IsReading (Some start) nanos (Some time) = instant_nanos time ≡ instant_nanos start + nanos
