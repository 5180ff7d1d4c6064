-- The events of a session, as a recording of the net tells them.
use Rattle.std.specs.Prelude.{ℕ, nat_eq, ◌==◌, Bool, false, List, map, reverse, if◌then◌else◌}
use Rattle.link_traits.specs.Journals.{Journal}
use Rattle.link_traits.specs.Entries.{Entry, listened, ready, accepted, connected, read, finished, wrote, not_ready, failed, refused, shut}
use Rattle.link_traits.specs.declared.links.Call.{Call}
use Rattle.link_traits.specs.declared.links.Call.TheVariants.{Listen, Accept, Connect, Read, Write}
use Rattle.policy_args.specs.declared.options.Options.{Options}
use Rattle.policy_view.specs.declared.Side.{Side}
use Rattle.policy_view.specs.declared.Side.TheVariants.{Client, Bus}
use Rattle.policy_view.specs.declared.End.{End}
use Rattle.policy_view.specs.declared.End.TheVariants.{ClientRead, ClientWrite, BusRead, BusWrite, BusConnect}
use Rattle.policy_view.specs.History.{Event, Bytes, Finished, Stopped, history}
use Rattle.policy_view.specs.Past.{History}
use Rattle.proxy_loop.specs.Kinds.{some_of}
use Rattle.proxy_loop.specs.Tables.{session_mode}
use Rattle.recording.specs.declared.Side.{Side as RecordedSide}
use Rattle.recording.specs.declared.Side.TheVariants as recorded_side
use Rattle.recording.specs.Recording as recording
use Rattle.recording.specs.Sessions.{What, Happened, Stopped as StoppedBy, SessionEvent}
use Rattle.record_net.specs.Sessions.{events_in}

abbrev pub side_of : RecordedSide → Side
side_of recorded_side.Client = Client
side_of recorded_side.Bus = Bus

-- the End of a call that failed, by its number in a recording
abbrev pub stop_end : ℕ → End
stop_end number =
    if number == 7 then ClientRead
    else (if number == 8 then ClientWrite
    else (if number == 9 then BusRead
    else (if number == 10 then BusWrite
    else BusConnect)))

abbrev pub event_of : What → Event
event_of (Happened (recording.Bytes side bytes)) = Bytes (side_of side) bytes
event_of (Happened (recording.Finished side)) = Finished (side_of side)
event_of (StoppedBy number) = Stopped (stop_end number)

-- the events of session n in a recording, the newest first
abbrev pub recorded_events : ℕ → List SessionEvent → List Event
recorded_events n events = reverse (map event_of (events_in n events))

-- the history that they have under options; a proxy's streams begin with the lines of authentication
abbrev pub recorded_history : Options → ℕ → List SessionEvent → History
recorded_history options n events = history options.policy (session_mode options) (recorded_events n events)

-- ---- what a recording doesn't tell

abbrev pub connects : ℕ → Call → Bool
connects n (Connect session) = nat_eq session n
connects n (Read link) = false
connects n (Write link) = false
connects n (Accept listener) = false
connects n Listen = false

-- the connect of session n was refused memory
abbrev pub refuses_connect : ℕ → Entry → Bool
refuses_connect n (refused call) = connects n call
refuses_connect n (listened listener path) = false
refuses_connect n (ready answer) = false
refuses_connect n (accepted listener session) = false
refuses_connect n (connected session path) = false
refuses_connect n (read link bytes) = false
refuses_connect n (finished link) = false
refuses_connect n (wrote link bytes) = false
refuses_connect n (not_ready call) = false
refuses_connect n (failed call) = false
refuses_connect n (shut link) = false

-- .. by some entry of a journal
abbrev pub is_refused : ℕ → Journal → Bool
is_refused n journal = some_of (refuses_connect n) journal
