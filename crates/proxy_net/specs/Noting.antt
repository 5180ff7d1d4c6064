-- What the system reports, and that it is noted.
use Rattle.std.specs.Prelude.{ℕ, ◌%◌, nat_eq, nat_lt, Bool, true, false, not, ◌&&◌, ◌||◌, if◌then◌else◌, Option, unwrap_or}
use Rattle.std.specs.Option.{option_map}
use Rattle.proxy_net.specs.Naming.{is_awaited, is_ready}
use Rattle.proxy_net.specs.Registering.{listeners_from}
use Rattle.proxy_net.specs.declared.link_sockets.LinkSocket.{LinkSocket}
use Rattle.proxy_net.specs.declared.reports.Report.{Report}
use Rattle.proxy_net.specs.declared.listeners.ListenerSocket.{ListenerSocket}

-- the number of a session's bus link
abbrev pub is_bus_number : ℕ → Bool
is_bus_number number = nat_lt number listeners_from && nat_eq (number % 2) 1

-- a report says that a read of the link of a number wouldn't wait
abbrev pub reports_read : ℕ → Report → Bool
reports_read number report = nat_eq report.number number && report.readable

-- a report is of the socket of a number
abbrev pub reports_number : ℕ → Report → Bool
reports_number number report = nat_eq report.number number

-- both are of buses, or neither is
abbrev pub same_side : Bool → Bool → Bool
same_side one other = if one then other else not other

-- A link is marked as readable, as writable and as ending, as far as it was reported so. One whose peer
-- closed needn't be marked as writable.
abbrev pub is_link_noted : {T : Type 0} → Bool → Bool → Bool → Option (LinkSocket T) → Bool
is_link_noted readable writable ending socket =
    unwrap_or (option_map (λ (s : LinkSocket _). (not readable || s.readable) && ((not writable || (s.writable || s.peer_closed)) && (not ending || s.ending))) socket) true

-- Something of a link may be left after a read of this many bytes into this much room: the bytes filled the room, or
-- the link's end is to be read after them.
abbrev pub may_have_more : {T : Type 0} → ℕ → ℕ → LinkSocket T → Bool
may_have_more n room s = not (nat_lt n room) || (s.ending || s.peer_closed)

-- a listener is to be named, since a client came
abbrev pub is_listener_noted : {L : Type 0} → Option (ListenerSocket L) → Bool
is_listener_noted socket = unwrap_or (option_map is_awaited socket) true

-- a listener that was to be named is marked as named
abbrev pub is_listener_named : {L : Type 0} → Option (ListenerSocket L) → Bool
is_listener_named socket = unwrap_or (option_map (λ (s : ListenerSocket _). (s.ready && not s.stalled) && (s.unheeded && s.queued)) socket) false

-- a link is ready for what is wished
abbrev pub is_link_named : {T : Type 0} → Option (LinkSocket T) → Bool
is_link_named socket = unwrap_or (option_map is_ready socket) false
