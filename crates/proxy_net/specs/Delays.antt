-- Accepts that are tried again.
use Rattle.std.specs.Prelude.{ℕ, ◌≤◌, ◌-◌, ◌*◌, min, nat_eq, nat_le, nat_lt, if◌then◌else◌, Bool, true, false, ◌&&◌, Option, Some, None}
use Rattle.std.specs.Option.{option_map}
use Rattle.std.specs.Time.{instant_nanos}
use Rattle.std.specs.Duration.{as_nanos}
use Rattle.std.specs.declared.time.Duration.{Duration}
use Rattle.std.specs.declared.time.Instant.{Instant}
use Rattle.proxy_net.specs.declared.listeners.ListenerSocket.{ListenerSocket}

-- how many milliseconds a try is put off, by how many the last one was: 1, 2, 4, 8, 16, 32, 32 ..
abbrev pub next_delay : ℕ → ℕ
next_delay delay = if nat_eq delay 0 then 1 else min (delay * 2) 32

-- it is time for a try that is due then. It is time too if its time isn't known, or the clock can't be read.
abbrev pub is_time : Option Instant → Option Instant → Bool
is_time None now = true
is_time (Some due) None = true
is_time (Some due) (Some now) = nat_le (instant_nanos due) (instant_nanos now)

-- A try is overdue: it was due before now, or it is due and the clock can't be read.
abbrev pub is_overdue : Option Instant → Option Instant → Bool
is_overdue None now = false
is_overdue (Some due) None = true
is_overdue (Some due) (Some now) = nat_lt (instant_nanos due) (instant_nanos now)

-- how many nanoseconds are left until then: 32 milliseconds if its time isn't known, or the clock
-- can't be read
abbrev pub nanos_until : Option Instant → Option Instant → ℕ
nanos_until None now = 32000000
nanos_until (Some due) None = 32000000
nanos_until (Some due) (Some now) = instant_nanos due - instant_nanos now

-- how many nanoseconds are left until a connect is tried again, if one is due
abbrev pub connect_left : Option Instant → Option Instant → Option ℕ
connect_left None now = None
connect_left (Some due) now = Some (nanos_until (Some due) now)

-- a listener is stalled, and it is time to try it again
abbrev pub is_accept_due : {L : Type 0} → Option Instant → ListenerSocket L → Bool
is_accept_due now s = s.stalled && is_time s.due now

-- how many nanoseconds are left until a listener is tried again, if it is stalled
abbrev pub accept_left : {L : Type 0} → Option Instant → ListenerSocket L → Option ℕ
accept_left now s = if s.stalled then Some (nanos_until s.due now) else None

-- a listener is stalled, and was put off by one of the delays
abbrev pub is_put_off : {L : Type 0} → ListenerSocket L → Bool
is_put_off s = s.stalled && (nat_le 1 s.delay && nat_le s.delay 32)

-- a length of time in nanoseconds
abbrev pub nanos_of : Option Duration → Option ℕ
nanos_of duration = option_map (λ (d : Duration). as_nanos d) duration

-- a time that is no longer
abbrev pub IsWithin : ℕ → Option ℕ → Type 0
IsWithin left None = ⊥
IsWithin left (Some nanos) = nanos ≤ left
