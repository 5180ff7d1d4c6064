-- What is to be named, and that it has a place in the queue.
use Rattle.std.specs.Prelude.{ℕ, ◌+◌, ◌-◌, ◌%◌, nat_eq, if◌then◌else◌, Bool, true, not, ◌&&◌, ◌||◌, Option, unwrap_or}
use Rattle.std.specs.Option.{option_map}
use Rattle.proxy_net.specs.declared.link_sockets.LinkSocket.{LinkSocket}
use Rattle.proxy_net.specs.declared.listeners.ListenerSocket.{ListenerSocket}

-- the number of the other link of a session
abbrev pub other_of : ℕ → ℕ
other_of number = if nat_eq (number % 2) 0 then number + 1 else number - 1

-- a link is ready for what is wished
abbrev pub is_ready : {T : Type 0} → LinkSocket T → Bool
is_ready s = (s.wishes.read && s.readable) || (s.wishes.write && (s.writable || s.given_up))

-- a client came to a listener, and it is neither stalled nor was left unheeded
abbrev pub is_awaited : {L : Type 0} → ListenerSocket L → Bool
is_awaited s = s.ready && (not s.stalled && not s.unheeded)

-- a link that is ready for what is wished has a place
abbrev pub is_link_placed : {T : Type 0} → Option (LinkSocket T) → Bool
is_link_placed socket = unwrap_or (option_map (λ (s : LinkSocket _). not (is_ready s) || s.queued) socket) true

-- a listener that is to be named has a place
abbrev pub is_listener_placed : {L : Type 0} → Option (ListenerSocket L) → Bool
is_listener_placed socket = unwrap_or (option_map (λ (s : ListenerSocket _). not (is_awaited s) || s.queued) socket) true

-- a link isn't marked as queued, or isn't there
abbrev pub is_link_unmarked : {T : Type 0} → Option (LinkSocket T) → Bool
is_link_unmarked socket = unwrap_or (option_map (λ (s : LinkSocket _). not s.queued) socket) true

-- a listener isn't marked as queued, or isn't there
abbrev pub is_listener_unmarked : {L : Type 0} → Option (ListenerSocket L) → Bool
is_listener_unmarked socket = unwrap_or (option_map (λ (s : ListenerSocket _). not s.queued) socket) true

-- nothing more passes between a link and its peer
abbrev pub is_link_closed : {T : Type 0} → LinkSocket T → Bool
is_link_closed s = s.peer_closed || s.end_read

-- the writes of a link are to fail: its peer closed, and what it wrote was read to its end, or isn't
-- wished to be read while the other link of its session is shut or closed
abbrev pub is_to_fail : {T : Type 0} → Bool → LinkSocket T → Bool
is_to_fail other_closed s = s.peer_closed && (s.end_read || (not s.wishes.read && other_closed))
