-- A recording of one session, as version 2 has it: each event is of the session of one number.
use Rattle.std.specs.Prelude.{ℕ, map}
use Rattle.recording.specs.Recording.{Event, Recording}
use Rattle.recording.specs.Sessions.{SessionEvent, Sessions, Happened}

abbrev pub in_one : ℕ → Event → SessionEvent
in_one session event = record { session = session; what = Happened event }

abbrev pub as_version_2 : ℕ → Recording → Sessions
as_version_2 session recording = record { version = 2; auth = recording.auth; events = map (in_one session) recording.events }
