-- The room that the queue keeps for what has no place in it yet.
use Rattle.std.specs.Prelude.{ℕ, ◌+◌, Bool, if◌then◌else◌, List, [], ◌∷◌}
use Rattle.proxy_net.specs.declared.link_sockets.LinkSocket.{LinkSocket}
use Rattle.proxy_net.specs.declared.listeners.ListenerSocket.{ListenerSocket}

-- one if it isn't marked as queued
abbrev pub unqueued : Bool → ℕ
unqueued queued = if queued then 0 else 1

-- how many links aren't marked as queued
abbrev pub unqueued_links : {T : Type 0} → List (ℕ × LinkSocket T) → ℕ
unqueued_links [] = 0
unqueued_links (link ∷ links) = unqueued link.1.queued + unqueued_links links

-- how many listeners aren't marked as queued
abbrev pub unqueued_listeners : {L : Type 0} → List (ListenerSocket L) → ℕ
unqueued_listeners [] = 0
unqueued_listeners (listener ∷ listeners) = unqueued listener.queued + unqueued_listeners listeners

-- how much room a queue is to have: for what is in it, for each listener and link that isn't marked
-- as queued, and for this number more
abbrev pub room_for : {T L : Type 0} → ℕ → ℕ → List (ListenerSocket L) → List (ℕ × LinkSocket T) → ℕ
room_for more queued listeners links = queued + (unqueued_listeners listeners + unqueued_links links) + more
