-- What a replay writes: a record of the bytes for the bus, one of those for the client, and one of the session's End;
-- and a log, if one is asked for.
use Rattle.std.specs.Prelude.{ℕ, ◌==◌, if◌then◌else◌, List, [], ◌∷◌, ◌++◌, length, map, reverse, Option, Some, None}
use Rattle.std.specs.Int.{w32, w64, to_le_bytes}
use Rattle.dbus_header.specs.Malformed.{kind_number}
use Rattle.sasl_watch.specs.Lines.{line_number}
use Rattle.explain_log.specs.Lines.{log}
use Rattle.policy_args.specs.Words.{PolicyOptions}
use Rattle.policy_view.specs.declared.Side.{Side}
use Rattle.policy_view.specs.declared.Side.TheVariants.{Client, Bus}
use Rattle.policy_view.specs.declared.Mode.{Mode}
use Rattle.policy_view.specs.declared.Fault.{Fault}
use Rattle.policy_view.specs.declared.Fault.TheVariants.{Line, Message}
use Rattle.policy_view.specs.declared.End.{End}
use Rattle.policy_view.specs.declared.End.TheVariants.{ClientMalformed, BusMalformed, ClientEnd, BusEnd, SerialsSpent, Memory, ClientRead, ClientWrite, BusRead, BusWrite, BusConnect, LogFault}
use Rattle.policy_view.specs.History.{Event, Bytes, Finished, history, end_of}
use Rattle.policy_view.specs.Notes.{notes}
use Rattle.policy_view.specs.Outputs.{bus_bytes, client_bytes}
use Rattle.policy_view.specs.Past.{History}
use Rattle.recording.specs.declared.Side.{Side as RecordedSide}
use Rattle.recording.specs.declared.Side.TheVariants as recorded_side
use Rattle.recording.specs.Recording as recorded

-- ---- the events of a recording

abbrev pub side_of : RecordedSide → Side
side_of recorded_side.Client = Client
side_of recorded_side.Bus = Bus

abbrev pub event_of : recorded.Event → Event
event_of (recorded.Bytes side piece) = Bytes (side_of side) piece
event_of (recorded.Finished side) = Finished (side_of side)

-- what happens to the session, the newest first
abbrev pub events_of : List recorded.Event → List Event
events_of events = reverse (map event_of events)

-- ---- records

-- a kind byte and a length in four bytes, the lowest first
unfoldable pub header : ℕ → ℕ → List ℕ
header kind len = kind ∷ to_le_bytes w32 len

abbrev pub record_of : ℕ → List ℕ → List ℕ
record_of kind bytes = header kind (length bytes) ++ bytes

-- a record if there are bytes
abbrev pub record_where_any : ℕ → List ℕ → List ℕ
record_where_any kind bytes = if length bytes == 0 then [] else record_of kind bytes

-- ---- the record of an End

-- a byte for the form of the fault, which is 0 for a line's and 1 for a message's, a byte for its kind, and its place
-- in eight bytes
abbrev pub fault_bytes : Fault → List ℕ
fault_bytes (Line f) = 0 ∷ line_number f.kind ∷ to_le_bytes w64 f.at
fault_bytes (Message m) = 1 ∷ kind_number m.kind ∷ to_le_bytes w64 m.at

-- the End's number, and what is wrong with a malformed stream
abbrev pub end_bytes : End → List ℕ
end_bytes (ClientMalformed fault) = 1 ∷ fault_bytes fault
end_bytes (BusMalformed fault) = 2 ∷ fault_bytes fault
end_bytes ClientEnd = 3 ∷ []
end_bytes BusEnd = 4 ∷ []
end_bytes SerialsSpent = 5 ∷ []
end_bytes Memory = 6 ∷ []
end_bytes ClientRead = 7 ∷ []
end_bytes ClientWrite = 8 ∷ []
end_bytes BusRead = 9 ∷ []
end_bytes BusWrite = 10 ∷ []
end_bytes BusConnect = 11 ∷ []
end_bytes LogFault = 12 ∷ []

abbrev pub end_record : Option End → List ℕ
end_record None = []
end_record (Some end) = record_of 18 (end_bytes end)

-- ---- the output and the log

-- how the session of a recording is held under the options
abbrev pub mode_of : PolicyOptions → recorded.Recording → Mode
mode_of options recording = record { auth = recording.auth; filter = options.filter; notes = options.log }

-- the history that a recording's events have under the options
abbrev pub history_of : PolicyOptions → recorded.Recording → History
history_of options recording = history options.policy (mode_of options recording) (events_of recording.events)

-- of a history all bytes for the bus, all bytes for the client, and the End, if there are any
unfoldable pub output_of_recording : PolicyOptions → recorded.Recording → List ℕ
output_of_recording options recording =
    let h = history_of options recording in
    record_where_any 16 (bus_bytes options.policy h) ++ record_where_any 17 (client_bytes options.policy h) ++ end_record (end_of h)

-- the line of each note, if the options ask for a log; the session is number 1
unfoldable pub log_of_recording : PolicyOptions → recorded.Recording → List ℕ
log_of_recording options recording = if options.log then log 1 (notes options.policy (history_of options recording)) else []
