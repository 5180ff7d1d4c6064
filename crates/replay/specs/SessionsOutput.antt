-- What a replay writes of a recording of many sessions: for each session the records that a replay of it alone writes,
-- with the session's number after the kind; and a log, if one is asked for.
use Rattle.std.specs.Prelude.{ℕ, Bool, not, ◌==◌, if◌then◌else◌, List, [], ◌∷◌, ◌++◌, length, map, reverse, Option, Some, None}
use Rattle.std.specs.List.{filter, flat_map}
use Rattle.explain_log.specs.Lines.{log_line}
use Rattle.policy_args.specs.Policy.{Policy}
use Rattle.policy_args.specs.Words.{PolicyOptions}
use Rattle.policy_view.specs.declared.Mode.{Mode}
use Rattle.policy_view.specs.declared.End.{End}
use Rattle.policy_view.specs.declared.End.TheVariants.{ClientRead, ClientWrite, BusRead, BusWrite, BusConnect}
use Rattle.policy_view.specs.History.{Event, Stopped as StoppedBy, end_of, history, new_in}
use Rattle.policy_view.specs.Notes.{Note, notes}
use Rattle.policy_view.specs.Outputs.{bus_bytes, client_bytes}
use Rattle.policy_view.specs.Past.{History}
use Rattle.recording.specs.Recording as recorded
use Rattle.recording.specs.Sessions.{SessionEvent, Sessions, What, Happened, Stopped, record_head, sessions_named}
use Rattle.replay_output.specs.Output.{end_bytes, event_of, header, history_of, output_of_recording}
use Rattle.replay.specs.declared.session_notes.SessionNote.{SessionNote}

-- ---- the events of a session

-- the End that a failed call gave, by its number from 7 to 11
abbrev pub end_by : ℕ → End
end_by number =
    if number == 7 then ClientRead
    else (if number == 8 then ClientWrite
    else (if number == 9 then BusRead
    else (if number == 10 then BusWrite else BusConnect)))

abbrev pub event_by : What → Event
event_by (Happened event) = event_of event
event_by (Stopped number) = StoppedBy (end_by number)

-- what happens by these events, the newest first
abbrev pub session_events : List SessionEvent → List Event
session_events events = reverse (map (λ e. event_by e.what) events)

abbrev pub is_of : ℕ → SessionEvent → Bool
is_of session event = event.session == session

-- what happens to one session by these events of all sessions
abbrev pub own_events : ℕ → List SessionEvent → List Event
own_events session events = session_events (filter (is_of session) events)

-- how each session of a recording is held under the options
abbrev pub session_mode : PolicyOptions → Bool → Mode
session_mode options auth = record { auth = auth; filter = options.filter; notes = options.log }

-- the history that these events of all sessions give one session
abbrev pub session_history : Policy → Mode → ℕ → List SessionEvent → History
session_history policy mode session events = history policy mode (own_events session events)

-- ---- records, with a session's number or with none

abbrev pub named_header : Option ℕ → ℕ → ℕ → List ℕ
named_header None kind len = header kind len
named_header (Some session) kind len = record_head kind session len

abbrev pub named_record : Option ℕ → ℕ → List ℕ → List ℕ
named_record named kind bytes = named_header named kind (length bytes) ++ bytes

-- a record if there are bytes
abbrev pub named_where_any : Option ℕ → ℕ → List ℕ → List ℕ
named_where_any named kind bytes = if length bytes == 0 then [] else named_record named kind bytes

abbrev pub named_end : Option ℕ → Option End → List ℕ
named_end named None = []
named_end named (Some end) = named_record named 18 (end_bytes end)

-- ---- the output

-- of a session's history all bytes for the bus, all bytes for the client, and the End, if there are any
abbrev pub session_output : Policy → ℕ → History → List ℕ
session_output policy session h =
    named_where_any (Some session) 16 (bus_bytes policy h) ++ named_where_any (Some session) 17 (client_bytes policy h)
    ++ named_end (Some session) (end_of h)

-- the sessions that the events name one after the other, ascending
abbrev pub outputs : Policy → Mode → List SessionEvent → List ℕ
outputs policy mode events =
    flat_map (λ session. session_output policy session (session_history policy mode session events)) (sessions_named [] events)

-- a recording of version 1 has one session
abbrev pub happened : What → List recorded.Event
happened (Happened event) = event ∷ []
happened (Stopped number) = []

abbrev pub only_session : Sessions → recorded.Recording
only_session s = record { auth = s.auth; events = flat_map (λ e. happened e.what) s.events }

unfoldable pub output_of_sessions : PolicyOptions → Sessions → List ℕ
output_of_sessions options s =
    if s.version == 1 then output_of_recording options (only_session s)
    else outputs options.policy (session_mode options s.auth) s.events

-- ---- the log

abbrev pub in_session : ℕ → Note → SessionNote
in_session session note = record { session = session; note = note }

-- the notes that an event brings after earlier events: those that its session's history has more by it
abbrev pub notes_brought : Policy → Mode → List SessionEvent → SessionEvent → List Note
notes_brought policy mode earlier event =
    new_in (notes policy (session_history policy mode event.session earlier)) (notes policy (session_history policy mode event.session (earlier ++ event ∷ [])))

-- the notes of all sessions that the events bring after earlier events, in the order of the events
abbrev pub sessions_noted : Policy → Mode → List SessionEvent → List SessionEvent → List SessionNote
sessions_noted policy mode earlier [] = []
sessions_noted policy mode earlier (event ∷ events) =
    map (in_session event.session) (notes_brought policy mode earlier event) ++ sessions_noted policy mode (earlier ++ event ∷ []) events

-- the line of each note, with the number of its session
abbrev pub session_log : List SessionNote → List ℕ
session_log noted = flat_map (λ n. log_line n.session n.note) noted

-- the notes of a recording, if the options ask for a log; those of version 1 are all of session 1
unfoldable pub noted_in : PolicyOptions → Sessions → List SessionNote
noted_in options s =
    if not options.log then []
    else (if s.version == 1 then map (in_session 1) (notes options.policy (history_of options (only_session s)))
    else sessions_noted options.policy (session_mode options s.auth) [] s.events)

unfoldable pub log_of_sessions : PolicyOptions → Sessions → List ℕ
log_of_sessions options s = session_log (noted_in options s)
