-- Writes of a standard stream: which of them are tried again, and how many have failed.
use Rattle.std.specs.Prelude.{ℕ, Bool, true, false, Ok, Err, Result}
use Rattle.std.specs.declared.io.ErrorKind.{ErrorKind}
use Rattle.std.specs.declared.io.ErrorKind.TheVariants.{WouldBlock, Interrupted}
use Rattle.link_traits.specs.Counts.{one_more}

-- the stream takes nothing at this time, or a signal came first
abbrev pub is_retried : ErrorKind → Bool
is_retried WouldBlock = true
is_retried Interrupted = true
is_retried _ = false

-- the number of failed writes after this one
abbrev pub writes_failed : {A E : Type 0} → Result A E → ℕ → ℕ
writes_failed (Ok n) faults = faults
writes_failed (Err fault) faults = one_more faults
