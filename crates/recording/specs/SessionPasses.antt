-- What the two passes over a file of version 2 find.
use Rattle.std.specs.Prelude.{ℕ, ◌+◌, List, length, get_or, slice_range, Result}
use Rattle.recording.specs.declared.BadRecording.{BadRecording}
use Rattle.recording.specs.Sessions.{SessionEvent, number_at, session_events_at, what_of}

-- the events of the records that these bytes are, which begin at the place, after records of these sessions
abbrev pub session_records : List ℕ → ℕ → List ℕ → Result (List SessionEvent) BadRecording
session_records before place bytes = session_events_at (length bytes) before place bytes

-- the event of the record that stands from one place to another
abbrev pub session_event_of : List ℕ → ℕ → ℕ → SessionEvent
session_event_of file at end = record { session = number_at (at + 1) file; what = what_of (get_or file at 0) (slice_range file (at + 9) end) }
