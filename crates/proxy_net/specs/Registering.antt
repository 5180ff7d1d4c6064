-- The numbers that sockets are registered by. What the system reports of a socket names its number.
use Rattle.std.specs.Prelude.{ℕ, ◌+◌, nat_eq, Bool, true, Option, unwrap_or}
use Rattle.std.specs.Option.{option_map}
use Rattle.proxy_net.specs.declared.link_sockets.Connection.{Connection}
use Rattle.proxy_net.specs.declared.link_sockets.Connection.TheVariants.{Open, Pending, Failed}
use Rattle.proxy_net.specs.declared.link_sockets.Connected.{Connected}
use Rattle.proxy_net.specs.declared.link_sockets.Connected.TheVariants.{To, NotDue, WouldBlock, Before, Failed as Refused}
use Rattle.proxy_net.specs.declared.link_sockets.LinkSocket.{LinkSocket}
use Rattle.proxy_net.specs.declared.listeners.ListenerSocket.{ListenerSocket}

-- the number of the first listener, above those of all links
abbrev pub listeners_from : ℕ
listeners_from = 0x200000000

-- the stream of a link is registered by this number, or is to be
abbrev pub is_registered_by : {T : Type 0} → ℕ → Connection T → Bool
is_registered_by number (Open stream) = nat_eq stream.number number
is_registered_by number (Pending retry) = nat_eq retry.token number
is_registered_by number Failed = true

-- a stream that was connected is registered by this number
abbrev pub is_connected_by : {T : Type 0} → ℕ → Connected T → Bool
is_connected_by number (To stream) = nat_eq stream.number number
is_connected_by number NotDue = true
is_connected_by number WouldBlock = true
is_connected_by number Before = true
is_connected_by number Refused = true

-- a link is registered by its own number
abbrev pub is_own_link : {T : Type 0} → ℕ → Option (LinkSocket T) → Bool
is_own_link number socket = unwrap_or (option_map (λ (s : LinkSocket _). is_registered_by number s.connection) socket) true

-- a listener is registered by the number of its place
abbrev pub is_own_listener : {L : Type 0} → ℕ → Option (ListenerSocket L) → Bool
is_own_listener place socket = unwrap_or (option_map (λ (s : ListenerSocket _). nat_eq s.listener.number (listeners_from + place)) socket) true
