-- What the code's recordings of many sessions are seen as, and which of them a file can spell.
use Rattle.std.specs.Prelude.{◌≡◌, ℕ, ◌<◌, ◌≤◌, ◌^◌, ◌⊎◌, List, [], All, length, map}
use Rattle.std.specs.List.{sum_by}
use Rattle.recording.specs.declared.TheConstants.{RECORDING_LIMIT, SESSION_LIMIT}
use Rattle.recording.specs.declared.sessions.SessionEvent.{SessionEvent as DeclaredEvent}
use Rattle.recording.specs.declared.sessions.Sessions.{Sessions as DeclaredSessions}
use Rattle.recording.specs.declared.sessions.What.{What as DeclaredWhat}
use Rattle.recording.specs.declared.sessions.What.TheVariants as declared
use Rattle.recording.specs.Recording.{Recording}
use Rattle.recording.specs.Seen.{Fits, seen}
use Rattle.recording.specs.Sessions.{What, Happened, Stopped, SessionEvent, Sessions, bytes_of, migrated, sessions_named}

abbrev pub what_seen : DeclaredWhat → What
what_seen (declared.Event event) = Happened (seen event)
what_seen (declared.Stopped end) = Stopped end

abbrev pub session_event_seen : DeclaredEvent → SessionEvent
session_event_seen e = record { session = e.session; what = what_seen e.what }

-- a recording of the code
abbrev pub sessions_seen : DeclaredSessions → Sessions
sessions_seen s = record { version = s.version; auth = s.auth; events = map session_event_seen s.events.items }

-- how many bytes the record counts
abbrev pub what_size : What → ℕ
what_size what = length (bytes_of what)

-- how many bytes the records of all sessions count
abbrev pub sessions_size : List SessionEvent → ℕ
sessions_size events = sum_by (λ e. what_size e.what) events

-- a record can count the event's bytes, or the stop has the number of an End that a failed call gives
abbrev pub WhatFits : What → Type 0
WhatFits (Happened event) = Fits event
WhatFits (Stopped end) = (7 ≤ end) × (end ≤ 11)

-- a file can have the event: its session is a number of four bytes above 0
pub record EventFits (e : SessionEvent) : Type 0 where
  pub above_zero : 0 < e.session
  pub below : e.session < 2 ^ 32
  pub what : WhatFits e.what

-- a file can have the events: they are of few enough sessions
pub record EventsFit (events : List SessionEvent) : Type 0 where
  pub each : All EventFits events
  pub few : length (sessions_named [] events) ≤ SESSION_LIMIT

-- what every recording has that was read: its version is known, and one of version 1 is a migrated one
pub record IsReadable (s : Sessions) : Type 0 where
  pub version : (s.version ≡ 1) ⊎ (s.version ≡ 2)
  pub one_session : s.version ≡ 1 → (r : Recording) × (s ≡ migrated r)
  pub fits : EventsFit s.events
  pub size : sessions_size s.events ≤ RECORDING_LIMIT
