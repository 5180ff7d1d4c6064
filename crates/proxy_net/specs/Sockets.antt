-- What a set of sockets shows, and how that goes on from call to call.
use Rattle.std.specs.Prelude.{ℕ, ◌≡◌, ◌≢◌, ◌≤◌, ◌<◌, ◌+◌, ◌-◌, ◌^◌, ◌⊎◌, nat_eq, nat_lt, ◌||◌, not, if◌then◌else◌, false, true, Bool, List, [], Option, Some, None, slice_get, unwrap_or, is_some, map, vec_len}
use Rattle.std.specs.Option.{option_map}
use Rattle.std.specs.List.{list_any}
use Rattle.std.specs.Ordering.{nat_cmp}
use Rattle.std.specs.BTreeMap as tree
use Rattle.std.specs.Time.{instant_nanos}
use Rattle.std.specs.declared.time.Instant.{Instant}
use Rattle.link_traits.specs.Journals.{same_link}
use Rattle.link_traits.specs.Numbers.{number_of}
use Rattle.link_traits.specs.Tables.{HasWish}
use Rattle.link_traits.specs.Views.{NetView}
use Rattle.link_traits.specs.Told.{Rose}
use Rattle.link_traits.specs.declared.links.Link.{Link}
use Rattle.link_traits.specs.declared.links.Wishes.{Wishes}
use Rattle.link_traits.specs.declared.links.Count.{Count}
use Rattle.link_traits.specs.declared.links.Count.TheVariants.{Own, Listener, Link as OfLink, Waits}
use Rattle.link_traits.specs.declared.links.Ready.{Ready}
use Rattle.link_traits.specs.declared.links.Ready.TheVariants.{Listener as OfListener, Link as IsLink, Quiet, Failed}
use Rattle.link_traits.specs.declared.links.Accepted.{Accepted}
use Rattle.link_traits.specs.declared.links.Accepted.TheVariants.{New, NotReady, Failed as Refused, Memory}
use Rattle.link_traits.specs.Answers.{client_link}
use Rattle.proxy_net.specs.Answers.{net_journal}
use Rattle.proxy_net.specs.Starters.{is_gone}
use Rattle.proxy_net.specs.SystemCalls.{SystemCall, was_bound}
use Rattle.proxy_net.specs.Room.{room_for}
use Rattle.std.specs.VecDeque.{deque_len, deque_capacity}
use Rattle.proxy_net.specs.Naming.{other_of, is_link_placed, is_listener_placed, is_link_unmarked, is_listener_unmarked, is_link_closed, is_to_fail}
use Rattle.proxy_net.specs.declared.reports.Report.{Report}
use Rattle.proxy_net.specs.Connecting.{is_pending, is_open, due_of, tried_path}
use Rattle.proxy_net.specs.Delays.{is_time, is_overdue, connect_left, is_accept_due, accept_left, is_put_off, IsWithin}
use Rattle.std.specs.String.{string_bytes}
use Rattle.proxy_net.specs.Registering.{is_own_link, is_own_listener, listeners_from}
use Rattle.proxy_net.specs.Noting.{is_link_noted, is_listener_noted, is_listener_named, is_link_named, is_bus_number, may_have_more, same_side}
use Rattle.proxy_net.specs.declared.link_sockets.LinkSocket.{LinkSocket}
use Rattle.proxy_net.specs.declared.bound_files.BoundFile.{BoundFile}
use Rattle.proxy_net.specs.declared.listeners.ListenerSocket.{ListenerSocket}
use Rattle.proxy_net.specs.declared.sockets.SocketSet.{SocketSet}
use Rattle.proxy_net.specs.declared.sockets.naming.TheConstants.{NAMED_BETWEEN_ASKS}
use Rattle.proxy_net.specs.declared.starters.Starter.{Starter}

-- the socket of a link that was made and isn't shut
abbrev pub socket_in : {T L : Type 0} → SocketSet T L → Link → Option (LinkSocket T)
socket_in sockets link = tree.get nat_cmp sockets.links (number_of link)

-- a link that isn't connected yet
abbrev pub is_pending_in : {T L : Type 0} → SocketSet T L → Link → Bool
is_pending_in sockets link = unwrap_or (option_map (λ (s : LinkSocket _). is_pending s.connection) (socket_in sockets link)) false

abbrev pub wishes_in : {T L : Type 0} → SocketSet T L → Link → Option Wishes
wishes_in sockets link = option_map (λ (s : LinkSocket _). s.wishes) (socket_in sockets link)

abbrev pub count_in : {T L : Type 0} → SocketSet T L → Count → ℕ
count_in sockets Own = sockets.own
count_in sockets Waits = sockets.waits
count_in sockets (Listener listener) = unwrap_or (option_map (λ (s : ListenerSocket _). s.faults) (slice_get sockets.listeners.items listener)) sockets.absent
count_in sockets (OfLink link) = unwrap_or (option_map (λ (s : LinkSocket _). s.faults) (socket_in sockets link)) sockets.absent

-- what a net shows of its sockets, of the journal of its system and of its starter
abbrev pub shown : {T L : Type 0} → SocketSet T L → Option (List SystemCall) → Starter → NetView
shown sockets calls starter = record {
  journal = net_journal calls;
  counts = count_in sockets;
  wishes = wishes_in sockets;
  script_done = is_gone starter;
}

abbrev pub RoseIn : {T L : Type 0} → Count → SocketSet T L → SocketSet T L → Type 0
RoseIn count old new = Rose (count_in old count) (count_in new count)

-- a link that is ready for what is wished is marked as queued
abbrev pub has_link_placed : {T L : Type 0} → SocketSet T L → Link → Bool
has_link_placed sockets link = is_link_placed (socket_in sockets link)

-- a listener that is to be named is marked as queued
abbrev pub has_listener_placed : {T L : Type 0} → SocketSet T L → ℕ → Bool
has_listener_placed sockets listener = is_listener_placed (slice_get sockets.listeners.items listener)

-- a number is in the queue
abbrev pub has_place : {T L : Type 0} → SocketSet T L → ℕ → Bool
has_place sockets number = list_any (nat_eq number) sockets.ready.items

-- the queue has room for what is in it, for each listener and link that isn't marked as queued, and for
-- this number more
abbrev pub HasRoomFor : {T L : Type 0} → ℕ → SocketSet T L → Type 0
HasRoomFor more sockets = room_for more (deque_len sockets.ready) sockets.listeners.items sockets.links.entries ≤ deque_capacity sockets.ready

-- a link that is marked as queued is in the queue
abbrev pub is_link_queued : {T L : Type 0} → SocketSet T L → ℕ → Bool
is_link_queued sockets number = is_link_unmarked (tree.get nat_cmp sockets.links number) || has_place sockets number

-- a listener that is marked as queued is in the queue
abbrev pub is_listener_queued : {T L : Type 0} → SocketSet T L → ℕ → Bool
is_listener_queued sockets place = is_listener_unmarked (slice_get sockets.listeners.items place) || has_place sockets (listeners_from + place)

-- the link of a number is registered by it, or there is no such link
abbrev pub is_link_registered : {T L : Type 0} → SocketSet T L → ℕ → Bool
is_link_registered sockets number = is_own_link number (tree.get nat_cmp sockets.links number)

-- the listener at a place is registered by the number of the place, or there is no such listener
abbrev pub is_listener_registered : {T L : Type 0} → SocketSet T L → ℕ → Bool
is_listener_registered sockets place = is_own_listener place (slice_get sockets.listeners.items place)

-- the path at which the bind of a listener made a file that isn't removed yet
abbrev pub path_in : {L : Type 0} → Option (ListenerSocket L) → Option (List ℕ)
path_in socket = unwrap_or (option_map (λ (s : ListenerSocket _). option_map (λ (f : BoundFile). string_bytes f.path) s.file) socket) None

abbrev pub path_at : {T L : Type 0} → SocketSet T L → ℕ → Option (List ℕ)
path_at sockets place = path_in (slice_get sockets.listeners.items place)

-- the link of a number isn't connected yet
abbrev pub is_pending_at : {T L : Type 0} → SocketSet T L → ℕ → Bool
is_pending_at sockets number = unwrap_or (option_map (λ (s : LinkSocket _). is_pending s.connection) (tree.get nat_cmp sockets.links number)) false

-- the path to which the connect of the link of a number is tried again, if there is a try
abbrev pub tried_path_at : {T L : Type 0} → SocketSet T L → ℕ → Option (List ℕ)
tried_path_at sockets number = unwrap_or (option_map (λ (s : LinkSocket _). tried_path s.connection) (tree.get nat_cmp sockets.links number)) None

-- a link that isn't connected yet is among those whose connect is tried again
abbrev pub is_retried : {T L : Type 0} → SocketSet T L → ℕ → Bool
is_retried sockets number = not (is_pending_at sockets number) || list_any (nat_eq number) sockets.pending.items

-- what is ready for a wish is marked as queued, what is marked so is in the queue, each socket is
-- registered by its own number, and each connect that isn't made yet is tried again
pub record IsConsistent {T L : Type 0} (sockets : SocketSet T L) : Type 0 where
  pub links : (link : Link) → has_link_placed sockets link ≡ true
  pub listeners : (listener : ℕ) → has_listener_placed sockets listener ≡ true
  pub link_places : (number : ℕ) → number < listeners_from → is_link_queued sockets number ≡ true
  pub listener_places : (place : ℕ) → place < 2 ^ 32 → is_listener_queued sockets place ≡ true
  pub link_tokens : (number : ℕ) → is_link_registered sockets number ≡ true
  pub listener_tokens : (place : ℕ) → is_listener_registered sockets place ≡ true
  pub retries : (number : ℕ) → is_retried sockets number ≡ true

-- no count falls, nothing that is ready for a wish falls out of the queue, what is marked as queued
-- is in it, what is registered by its own number stays so, no connect is forgotten, and no listener
-- gets another file
pub record Grows {T L : Type 0} (old new : SocketSet T L) : Type 0 where
  pub each : (count : Count) → count_in old count ≤ count_in new count
  pub links : (link : Link) → has_link_placed old link ≡ true → has_link_placed new link ≡ true
  pub listeners : (listener : ℕ) → has_listener_placed old listener ≡ true → has_listener_placed new listener ≡ true
  pub link_places : (number : ℕ) → number < listeners_from → is_link_queued old number ≡ true → is_link_queued new number ≡ true
  pub listener_places : (place : ℕ) → place < 2 ^ 32 → is_listener_queued old place ≡ true → is_listener_queued new place ≡ true
  pub link_tokens : (number : ℕ) → is_link_registered old number ≡ true → is_link_registered new number ≡ true
  pub listener_tokens : (place : ℕ) → is_listener_registered old place ≡ true → is_listener_registered new place ≡ true
  pub files : (place : ℕ) (path : List ℕ) → place < vec_len old.listeners → path_at new place ≡ Some path → path_at old place ≡ Some path
  pub retries : (number : ℕ) → is_retried old number ≡ true → is_retried new number ≡ true

-- no count falls, the wishes of all links and the numbers of listeners and sessions are as before,
-- nothing that is ready for a wish falls out of the queue, what is marked as queued is in it, what
-- is registered by its own number stays so, no connect is forgotten or tried at another path, and no
-- listener gets another file
pub record GoesOn {T L : Type 0} (old new : SocketSet T L) : Type 0 where
  pub counts : (count : Count) → count_in old count ≤ count_in new count
  pub wishes : (link : Link) → wishes_in new link ≡ wishes_in old link
  pub sessions : new.sessions ≡ old.sessions
  pub number : vec_len new.listeners ≡ vec_len old.listeners
  pub links : (link : Link) → has_link_placed old link ≡ true → has_link_placed new link ≡ true
  pub listeners : (listener : ℕ) → has_listener_placed old listener ≡ true → has_listener_placed new listener ≡ true
  pub link_places : (number : ℕ) → number < listeners_from → is_link_queued old number ≡ true → is_link_queued new number ≡ true
  pub listener_places : (place : ℕ) → place < 2 ^ 32 → is_listener_queued old place ≡ true → is_listener_queued new place ≡ true
  pub link_tokens : (number : ℕ) → is_link_registered old number ≡ true → is_link_registered new number ≡ true
  pub listener_tokens : (place : ℕ) → is_listener_registered old place ≡ true → is_listener_registered new place ≡ true
  pub files : (place : ℕ) (path : List ℕ) → place < vec_len old.listeners → path_at new place ≡ Some path → path_at old place ≡ Some path
  pub retries : (number : ℕ) → is_retried old number ≡ true → is_retried new number ≡ true
  pub paths : (number : ℕ) (path : List ℕ) → tried_path_at new number ≡ Some path → tried_path_at old number ≡ Some path

-- the link of a number has a stream
abbrev pub is_open_at : {T L : Type 0} → SocketSet T L → ℕ → Bool
is_open_at sockets number = unwrap_or (option_map (λ (s : LinkSocket _). is_open s.connection) (tree.get nat_cmp sockets.links number)) false

-- when the next try to connect a link is due, if there is a link and a try
abbrev pub due_in : {T : Type 0} → Option (LinkSocket T) → Option Instant
due_in None = None
due_in (Some socket) = due_of socket.connection

-- when the next try to connect the link of a number is due, if there is one
abbrev pub due_at : {T L : Type 0} → SocketSet T L → ℕ → Option Instant
due_at sockets number = due_in (tree.get nat_cmp sockets.links number)

-- there is a link of a number
abbrev pub has_link_at : {T L : Type 0} → SocketSet T L → ℕ → Bool
has_link_at sockets number = is_some (tree.get nat_cmp sockets.links number)

abbrev pub HasLink : {T L : Type 0} → SocketSet T L → ℕ → Type 0
HasLink sockets number = has_link_at sockets number ≡ true

-- the connect of the link of a number is tried again to a path
abbrev pub IsTriedTo : {T L : Type 0} → SocketSet T L → ℕ → List ℕ → Type 0
IsTriedTo sockets number path = tried_path_at sockets number ≡ Some path

-- the wishes of all links are as before
pub record KeepsWishesIn {T L : Type 0} (old new : SocketSet T L) : Type 0 where
  pub each : (link : Link) → wishes_in new link ≡ wishes_in old link

-- the wishes of all links but one are as before
pub record KeepsOthersIn {T L : Type 0} (link : Link) (old new : SocketSet T L) : Type 0 where
  pub each : (other : Link) → same_link link other ≡ false → wishes_in new other ≡ wishes_in old other

-- an accept that answered so keeps the wishes of all links, but for that of a new session's client
abbrev pub AfterAcceptIn : {T L : Type 0} → Accepted → SocketSet T L → SocketSet T L → Type 0
AfterAcceptIn (New session) old new = KeepsOthersIn (client_link session) old new
AfterAcceptIn NotReady old new = KeepsWishesIn old new
AfterAcceptIn Refused old new = KeepsWishesIn old new
AfterAcceptIn Memory old new = KeepsWishesIn old new

-- how many sessions were accepted after an accept that answered so
abbrev pub sessions_after : Accepted → ℕ → ℕ
sessions_after (New session) before = session
sessions_after NotReady before = before
sessions_after Refused before = before
sessions_after Memory before = before

-- whether the writes of the link of a number fail by now, if there is one
abbrev pub given_up_at : {T L : Type 0} → SocketSet T L → ℕ → Option Bool
given_up_at sockets number = option_map (λ (s : LinkSocket _). s.given_up) (tree.get nat_cmp sockets.links number)

-- the peer of the link of a number is known to have closed
abbrev pub is_peer_closed_at : {T L : Type 0} → SocketSet T L → ℕ → Bool
is_peer_closed_at sockets number = unwrap_or (option_map (λ (s : LinkSocket _). s.peer_closed) (tree.get nat_cmp sockets.links number)) false

-- the link of a number is to be read, since something of it may be there
abbrev pub is_readable_at : {T L : Type 0} → SocketSet T L → ℕ → Bool
is_readable_at sockets number = unwrap_or (option_map (λ (s : LinkSocket _). s.readable) (tree.get nat_cmp sockets.links number)) false

-- something of the link of a number may be left after a read of this many bytes into this much room
abbrev pub may_have_more_at : {T L : Type 0} → SocketSet T L → ℕ → ℕ → ℕ → Bool
may_have_more_at sockets number n room = unwrap_or (option_map (may_have_more n room) (tree.get nat_cmp sockets.links number)) false

-- no link became readable
pub record StaysUnread {T L : Type 0} (old new : SocketSet T L) : Type 0 where
  pub each : (number : ℕ) → is_readable_at new number ≡ true → is_readable_at old number ≡ true

-- no peer that was known to have closed is forgotten
pub record StaysClosed {T L : Type 0} (old new : SocketSet T L) : Type 0 where
  pub each : (number : ℕ) → is_peer_closed_at old number ≡ true → is_peer_closed_at new number ≡ true

-- Each link that is readable was so before, or is one of those that are reported, or wasn't connected
-- yet. Each that isn't connected yet wasn't so before, and no close is forgotten.
pub record IsReadIf {T L : Type 0} (reported : ℕ → Bool) (old new : SocketSet T L) : Type 0 where
  pub each : (number : ℕ) → is_readable_at new number ≡ true → (is_readable_at old number || (reported number || is_pending_at old number)) ≡ true
  pub pending : (number : ℕ) → is_pending_at new number ≡ true → is_pending_at old number ≡ true
  pub closed : (number : ℕ) → is_peer_closed_at old number ≡ true → is_peer_closed_at new number ≡ true

-- each link is readable as before, its peer is known to have closed as before, and its connect is tried again when it
-- was to be
pub record KeepsReports {T L : Type 0} (old new : SocketSet T L) : Type 0 where
  pub readable : (number : ℕ) → is_readable_at new number ≡ is_readable_at old number
  pub closed : (number : ℕ) → is_peer_closed_at new number ≡ is_peer_closed_at old number
  pub dues : (number : ℕ) → due_at new number ≡ due_at old number

-- the listener at a place is stalled
abbrev pub is_stalled_at : {T L : Type 0} → SocketSet T L → ℕ → Bool
is_stalled_at sockets place = unwrap_or (option_map (λ (s : ListenerSocket _). s.stalled) (slice_get sockets.listeners.items place)) false

-- the listener at a place is stalled and was put off, or there is no such listener
abbrev pub is_put_off_at : {T L : Type 0} → SocketSet T L → ℕ → Bool
is_put_off_at sockets place = unwrap_or (option_map is_put_off (slice_get sockets.listeners.items place)) true

-- how many milliseconds the listener at a place was put off last
abbrev pub delay_at : {T L : Type 0} → SocketSet T L → ℕ → ℕ
delay_at sockets place = unwrap_or (option_map (λ (s : ListenerSocket _). s.delay) (slice_get sockets.listeners.items place)) 0

-- the listener at a place is stalled, and it is time to try it again
abbrev pub is_accept_due_at : {T L : Type 0} → SocketSet T L → Option Instant → ℕ → Bool
is_accept_due_at sockets now place = unwrap_or (option_map (is_accept_due now) (slice_get sockets.listeners.items place)) false

-- the same listeners are stalled, and each is tried again when it was to be
pub record KeepsStalls {T L : Type 0} (old new : SocketSet T L) : Type 0 where
  pub stalled : (place : ℕ) → is_stalled_at new place ≡ is_stalled_at old place
  pub due : (now : Option Instant) (place : ℕ) → is_accept_due_at new now place ≡ is_accept_due_at old now place

-- the listeners whose numbers weren't reported are as before
pub record KeepsUnreported {T L : Type 0} (reported : ℕ → Bool) (old new : SocketSet T L) : Type 0 where
  pub each : (place : ℕ) → reported (listeners_from + place) ≡ false → slice_get new.listeners.items place ≡ slice_get old.listeners.items place

-- A listener is tried again when it was to be, unless it was reported, or it was time to try it, by a time that the
-- clock showed.
pub record KeepsAccepts {T L : Type 0} (Shows : Option Instant → Type 0) (reported : ℕ → Bool) (old new : SocketSet T L) : Type 0 where
  pub each : (place : ℕ) → ((now : Option Instant) → is_accept_due_at new now place ≡ is_accept_due_at old now place)
      ⊎ ((reported (listeners_from + place) ≡ true) ⊎ ((now : Option Instant) × Shows now × (is_accept_due_at old now place ≡ true)))

abbrev pub left_in : {L : Type 0} → Option Instant → Option (ListenerSocket L) → Option ℕ
left_in now None = None
left_in now (Some socket) = accept_left now socket

-- how many nanoseconds are left until the listener at a place is tried again, if it is stalled
abbrev pub accept_left_at : {T L : Type 0} → SocketSet T L → Option Instant → ℕ → Option ℕ
accept_left_at sockets now place = left_in now (slice_get sockets.listeners.items place)

-- The shortest of the times that are left until the listeners at the first `count` places are tried
-- again. It is none if none of them is stalled.
pub record IsFirstLeft {T L : Type 0} (sockets : SocketSet T L) (now : Option Instant) (count : ℕ) (first : Option ℕ) : Type 0 where
  pub by : (place left : ℕ) → place < count → accept_left_at sockets now place ≡ Some left → IsWithin left first
  pub one : (nanos : ℕ) → first ≡ Some nanos → (place : ℕ) × (accept_left_at sockets now place ≡ Some nanos)

-- the file that the bind of a listener made and that isn't removed yet
abbrev pub file_in : {L : Type 0} → Option (ListenerSocket L) → Option BoundFile
file_in socket = unwrap_or (option_map (λ (s : ListenerSocket _). s.file) socket) None

abbrev pub file_at : {T L : Type 0} → SocketSet T L → ℕ → Option BoundFile
file_at sockets place = file_in (slice_get sockets.listeners.items place)

-- .. of each listener
abbrev pub files_of : {T L : Type 0} → SocketSet T L → List (Option BoundFile)
files_of sockets = map (λ (s : ListenerSocket _). s.file) sockets.listeners.items

-- if the journal is told, each file that a listener has was made by that listener's bind to its path
pub record AreBound {T L : Type 0} (calls : Option (List SystemCall)) (sockets : SocketSet T L) : Type 0 where
  pub told : (before : List SystemCall) → calls ≡ Some before → (place : ℕ) (path : List ℕ) → path_at sockets place ≡ Some path → was_bound (listeners_from + place) path before ≡ true

-- the listener at a place has a file
abbrev pub has_file_at : {T L : Type 0} → SocketSet T L → ℕ → Bool
has_file_at sockets place = unwrap_or (option_map (λ (s : ListenerSocket _). is_some s.file) (slice_get sockets.listeners.items place)) false

-- nothing more passes between the link of a number and its peer, or there is no such link
abbrev pub is_closed_at : {T L : Type 0} → SocketSet T L → ℕ → Bool
is_closed_at sockets number = unwrap_or (option_map is_link_closed (tree.get nat_cmp sockets.links number)) true

-- the writes of the link of a number are to fail, or there is no such link
abbrev pub is_to_fail_at : {T L : Type 0} → SocketSet T L → ℕ → Bool
is_to_fail_at sockets number = unwrap_or (option_map (is_to_fail (is_closed_at sockets (other_of number))) (tree.get nat_cmp sockets.links number)) true

-- whether the writes of the link of a number fail by now is as it is to be, or there is no such link
abbrev pub IsJudgedAt : {T L : Type 0} → SocketSet T L → ℕ → Type 0
IsJudgedAt sockets number = unwrap_or (given_up_at sockets number) true ≡ is_to_fail_at sockets number

-- the connect of the link of a number is overdue
abbrev pub is_overdue_at : {T L : Type 0} → SocketSet T L → Option Instant → ℕ → Bool
is_overdue_at sockets now number = is_overdue (due_at sockets number) now

-- a time that is no later
abbrev pub IsBy : Instant → Option Instant → Type 0
IsBy due None = ⊥
IsBy due (Some time) = instant_nanos time ≤ instant_nanos due

-- The first of the times at which the links of these numbers are due. It is none if none of them is due.
pub record IsFirstDue {T L : Type 0} (sockets : SocketSet T L) (numbers : List ℕ) (first : Option Instant) : Type 0 where
  pub by : (number : ℕ) (due : Instant) → list_any (nat_eq number) numbers ≡ true → due_at sockets number ≡ Some due → IsBy due first
  pub one : (time : Instant) → first ≡ Some time → (number : ℕ) × (list_any (nat_eq number) numbers ≡ true) × (due_at sockets number ≡ Some time)

-- For how many nanoseconds the system is waited for, if the first connect is due then: until that one or the first
-- accept is tried again, whichever is earlier.
pub record IsDelay {T L : Type 0} (sockets : SocketSet T L) (due now : Option Instant) (nanos : ℕ) : Type 0 where
  pub connect : (left : ℕ) → connect_left due now ≡ Some left → nanos ≤ left
  pub accept : (place left : ℕ) → accept_left_at sockets now place ≡ Some left → nanos ≤ left
  pub one : (connect_left due now ≡ Some nanos) ⊎ ((place : ℕ) × (accept_left_at sockets now place ≡ Some nanos))

-- .. if nothing is to be named: without end only if no connect is to be tried again and no listener is stalled
abbrev pub IsIdleTimeout : {T L : Type 0} → (Option Instant → Type 0) → SocketSet T L → Option ℕ → Type 0
IsIdleTimeout Shows sockets None = IsFirstDue sockets sockets.pending.items None × ((place : ℕ) → is_stalled_at sockets place ≡ false)
IsIdleTimeout Shows sockets (Some nanos) = (due : Option Instant) × (now : Option Instant) × Shows now × IsFirstDue sockets sockets.pending.items due × IsDelay sockets due now nanos

-- .. and not at all if something is
pub record IsTimeout {T L : Type 0} (Shows : Option Instant → Type 0) (sockets : SocketSet T L) (nanos : Option ℕ) : Type 0 where
  pub busy : sockets.ready.items ≢ [] → nanos ≡ Some 0
  pub idle : sockets.ready.items ≡ [] → IsIdleTimeout Shows sockets nanos

-- What was refused for a time isn't left untried at this time: no connect is overdue, and no listener is stalled whose
-- delay is over.
pub record IsTriedBy {T L : Type 0} (sockets : SocketSet T L) (now : Option Instant) : Type 0 where
  pub connects : (number : ℕ) → is_overdue_at sockets now number ≡ false
  pub accepts : (place : ℕ) → is_accept_due_at sockets now place ≡ false

-- a connect that is tried again is left as it is until it is due, by a time that the clock showed
pub record KeepsEarly {T L : Type 0} (Shows : Option Instant → Type 0) (old new : SocketSet T L) : Type 0 where
  pub each : (number : ℕ) (due : Instant) → due_at old number ≡ Some due → (due_at new number ≡ Some due) ⊎ ((now : Option Instant) × Shows now × (is_time (Some due) now ≡ true))

-- nothing is to be tried again
pub record HasNoTries {T L : Type 0} (sockets : SocketSet T L) : Type 0 where
  pub connects : (number : ℕ) → due_at sockets number ≡ None
  pub accepts : (place : ℕ) → is_stalled_at sockets place ≡ false

-- nothing is left untried at a time that the clock showed, or nothing is to be tried again
abbrev pub IsTried : {T L : Type 0} → (Option Instant → Type 0) → SocketSet T L → Type 0
IsTried Shows sockets = HasNoTries sockets ⊎ ((now : Option Instant) × Shows now × IsTriedBy sockets now)

-- What was named was named before the system was asked again, which is so at most sixteen times in a row; or what was
-- refused for a time was tried since.
abbrev pub IsNamedOrTried : {T L : Type 0} → (Option Instant → Type 0) → SocketSet T L → SocketSet T L → Type 0
IsNamedOrTried Shows old new = ((old.named < NAMED_BETWEEN_ASKS) × (new.named ≡ old.named + 1)) ⊎ IsTried Shows new

-- nothing was counted, and there is no link
pub record IsUnused (net : NetView) : Type 0 where
  pub counts : (count : Count) → net.counts count ≡ 0
  pub wishes : (link : Link) → net.wishes link ≡ None

-- What is named has a reason: a client came to the listener, which isn't stalled and is marked as
-- named now, or there is a wish for the link, which is ready for it.
abbrev pub IsWished : {T L : Type 0} → SocketSet T L → SocketSet T L → Ready → Type 0
IsWished old new (OfListener listener) = is_listener_named (slice_get new.listeners.items listener) ≡ true
IsWished old new (IsLink link) = HasWish (wishes_in old link) × (is_link_named (socket_in new link) ≡ true)
IsWished old new Quiet = ⊥
IsWished old new Failed = ⊥

-- what the system reported of the socket of a number is noted, if there is such a socket
abbrev pub is_noted : {T L : Type 0} → SocketSet T L → ℕ → Bool → Bool → Bool → Bool
is_noted sockets number readable writable ending =
    if nat_lt number listeners_from
    then is_link_noted readable writable ending (tree.get nat_cmp sockets.links number)
    else is_listener_noted (slice_get sockets.listeners.items (number - listeners_from))

-- what is reported is noted
abbrev pub is_report_noted : {T L : Type 0} → SocketSet T L → Report → Bool
is_report_noted sockets report = is_noted sockets report.number report.readable report.writable report.ending

-- what is reported is noted, if it is of a bus, or if it is of anything else
abbrev pub is_side_noted : {T L : Type 0} → Bool → SocketSet T L → Report → Bool
is_side_noted of_buses sockets report = not (same_side (is_bus_number report.number) of_buses) || is_report_noted sockets report

-- what was noted stays noted
pub record KeepsNotes {T L : Type 0} (old new : SocketSet T L) : Type 0 where
  pub links : (number : ℕ) (readable writable ending : Bool) → is_link_noted readable writable ending (tree.get nat_cmp old.links number) ≡ true → is_link_noted readable writable ending (tree.get nat_cmp new.links number) ≡ true
  pub listeners : (place : ℕ) → is_listener_noted (slice_get old.listeners.items place) ≡ true → is_listener_noted (slice_get new.listeners.items place) ≡ true
