-- Connects that are tried again.
use Rattle.std.specs.Prelude.{ℕ, ◌≡◌, ◌+◌, Bool, true, false, List, Option, Some, None}
use Rattle.std.specs.String.{string_bytes}
use Rattle.std.specs.Time.{instant_nanos, FitsClock}
use Rattle.std.specs.declared.time.Instant.{Instant}
use Rattle.proxy_net.specs.declared.link_sockets.Connection.{Connection}
use Rattle.proxy_net.specs.declared.link_sockets.Connection.TheVariants.{Open, Pending, Failed}

-- this number of nanoseconds later, or the same time if the clock ends before
pub record IsLater (start : Instant) (nanos : ℕ) (time : Instant) : Type 0 where
  pub fits : FitsClock (instant_nanos start + nanos) → instant_nanos time ≡ instant_nanos start + nanos
  pub ends : (FitsClock (instant_nanos start + nanos) → ⊥) → time ≡ start

abbrev pub is_pending : {T : Type 0} → Connection T → Bool
is_pending (Open stream) = false
is_pending (Pending retry) = true
is_pending Failed = false

abbrev pub is_given_up : {T : Type 0} → Connection T → Bool
is_given_up (Open stream) = false
is_given_up (Pending retry) = false
is_given_up Failed = true

-- when the next try is due, if there is one
abbrev pub due_of : {T : Type 0} → Connection T → Option Instant
due_of (Open stream) = None
due_of (Pending retry) = Some retry.due
due_of Failed = None

-- the path to which a connect is tried again, if there is a try
abbrev pub tried_path : {T : Type 0} → Connection T → Option (List ℕ)
tried_path (Open stream) = None
tried_path (Pending retry) = Some (string_bytes retry.path)
tried_path Failed = None

-- it has a stream
abbrev pub is_open : {T : Type 0} → Connection T → Bool
is_open (Open stream) = true
is_open (Pending retry) = false
is_open Failed = false
