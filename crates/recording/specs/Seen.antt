-- What the code's events and recordings are seen as, and how many bytes they hold.
use Rattle.std.specs.Prelude.{ℕ, ◌<◌, ◌^◌, List, length, map}
use Rattle.std.specs.List.{sum_by}
use Rattle.recording.specs.declared.Event.{Event as DeclaredEvent}
use Rattle.recording.specs.declared.Event.TheVariants as declared
use Rattle.recording.specs.declared.Recording.{Recording as DeclaredRecording}
use Rattle.recording.specs.Recording.{Event, Bytes, Finished, Recording}

-- an event of the code
abbrev pub seen : DeclaredEvent → Event
seen (declared.Bytes side bytes) = Bytes side bytes
seen (declared.Finished side) = Finished side

-- a recording of the code
abbrev pub recording_seen : DeclaredRecording → Recording
recording_seen r = record { auth = r.auth; events = map seen r.events.items }

-- how many bytes came
abbrev pub size_of : Event → ℕ
size_of (Bytes side bytes) = length bytes
size_of (Finished side) = 0

-- how many bytes came in all
abbrev pub size : List Event → ℕ
size events = sum_by size_of events

-- a record can count the event's bytes
abbrev pub Fits : Event → Type 0
Fits event = size_of event < 2 ^ 32
