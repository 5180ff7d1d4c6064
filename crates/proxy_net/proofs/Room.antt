-- The room that a queue has, as one of the sockets changes, is made or is removed.
use Rattle.std.proofs.Common.{ℕ, suc, zero, ◌≡◌, ◌+◌, ◌<◌, ◌≤◌, Bool, true, false, cond, if◌then◌else◌, Result, Ok, Err, OnOk, OnErr, Some, List, [], ◌∷◌, ◌++◌, refl, ap, sym, arith, length, drop, get_or, slice_get, slice_set}
use Rattle.std.specs.Map.{lookup, set_value, remove_entry}
use Rattle.std.specs.BTreeMap.{insert_entry}
use Rattle.std.specs.Ordering.{nat_cmp, match_ordering}
use Rattle.std.specs.declared.cmp.Ordering.{Ordering}
use Rattle.std.specs.declared.cmp.Ordering.TheVariants.{Less, Equal, Greater}
use Rattle.std.proofs.lemmas.Option.{slice_get_read}
use Rattle.proxy_net.specs.Room.{unqueued, unqueued_links, unqueued_listeners, room_for}
use Rattle.proxy_net.specs.declared.link_sockets.LinkSocket.{LinkSocket}
use Rattle.proxy_net.specs.declared.listeners.ListenerSocket.{ListenerSocket}

pub at_most_one : (queued : Bool) → unqueued queued ≤ 1
at_most_one true = omega arith
at_most_one false = omega arith

same_link : {T : Type 0} → (a b : LinkSocket T) → Some a ≡ Some b → unqueued a.queued ≡ unqueued b.queued
same_link a b e = let same : a ≡ b = cc in ap (λ (s : LinkSocket _). unqueued s.queued) same

same_listener : {L : Type 0} → (a b : ListenerSocket L) → Some a ≡ Some b → unqueued a.queued ≡ unqueued b.queued
same_listener a b e = let same : a ≡ b = cc in ap (λ (s : ListenerSocket _). unqueued s.queued) same

link_written : {T : Type 0} → (test : ℕ → Bool) (links : List (ℕ × LinkSocket T)) (old new : LinkSocket T) → lookup test links ≡ Some old
    → unqueued_links (set_value test links new) + unqueued old.queued ≡ unqueued_links links + unqueued new.queued
link_written test [] old new found = cc
link_written test (link ∷ links) old new found = by (test link.0) found (link_written test links old new)
  where
    by : (b : Bool) → cond b (Some link.1) (lookup test links) ≡ Some old
        → (lookup test links ≡ Some old → unqueued_links (set_value test links new) + unqueued old.queued ≡ unqueued_links links + unqueued new.queued)
        → unqueued_links (cond b ((link.0, new) ∷ links) (link ∷ set_value test links new)) + unqueued old.queued ≡ unqueued link.1.queued + unqueued_links links + unqueued new.queued
    by true f rest = let same = same_link link.1 old f in omega (arith, same)
    by false f rest = let others = rest f in omega (arith, others)

listener_written : {L : Type 0} → (listeners : List (ListenerSocket L)) (place : ℕ) (old new : ListenerSocket L) → slice_get listeners place ≡ Some old
    → unqueued_listeners (slice_set listeners place new) + unqueued old.queued ≡ unqueued_listeners listeners + unqueued new.queued
listener_written [] place old new found = cc
listener_written (listener ∷ listeners) zero old new found = let same = same_listener listener old found in omega (arith, same)
listener_written (listener ∷ listeners) (suc place) old new found = let others = listener_written listeners place old new found in omega (arith, others)

links_at_most : {T : Type 0} → (links : List (ℕ × LinkSocket T)) → unqueued_links links ≤ length links
links_at_most [] = omega arith
links_at_most (link ∷ links) = let one = at_most_one link.1.queued in let rest = links_at_most links in omega (arith, one, rest)

listeners_at_most : {L : Type 0} → (listeners : List (ListenerSocket L)) → unqueued_listeners listeners ≤ length listeners
listeners_at_most [] = omega arith
listeners_at_most (listener ∷ listeners) = let one = at_most_one listener.queued in let rest = listeners_at_most listeners in omega (arith, one, rest)

link_removed : {T : Type 0} → (test : ℕ → Bool) (links : List (ℕ × LinkSocket T)) → unqueued_links (remove_entry test links) ≤ unqueued_links links
link_removed test [] = omega arith
link_removed test (link ∷ links) = by (test link.0) (link_removed test links)
  where
    by : (b : Bool) → unqueued_links (remove_entry test links) ≤ unqueued_links links → unqueued_links (cond b links (link ∷ remove_entry test links)) ≤ unqueued link.1.queued + unqueued_links links
    by true rest = omega arith
    by false rest = omega (arith, rest)

link_made : {T : Type 0} → (links : List (ℕ × LinkSocket T)) (number : ℕ) (socket : LinkSocket T) → unqueued_links (insert_entry nat_cmp links number socket) ≤ unqueued_links links + 1
link_made [] number socket = let one = at_most_one socket.queued in omega (arith, one)
link_made (link ∷ links) number socket = by (nat_cmp number link.0) (link_made links number socket)
  where
    by : (o : Ordering) → unqueued_links (insert_entry nat_cmp links number socket) ≤ unqueued_links links + 1
        → unqueued_links (match_ordering o ((number, socket) ∷ link ∷ links) ((link.0, socket) ∷ links) (link ∷ insert_entry nat_cmp links number socket)) ≤ unqueued link.1.queued + unqueued_links links + 1
    by Less rest = let one = at_most_one socket.queued in omega (arith, one)
    by Equal rest = let one = at_most_one socket.queued in omega (arith, one)
    by Greater rest = omega (arith, rest)

listener_made : {L : Type 0} → (listeners : List (ListenerSocket L)) (socket : ListenerSocket L) → unqueued_listeners (listeners ++ socket ∷ []) ≤ unqueued_listeners listeners + 1
listener_made [] socket = let one = at_most_one socket.queued in omega (arith, one)
listener_made (listener ∷ listeners) socket = let rest = listener_made listeners socket in omega (arith, rest)

-- room for all that there is, and one more
pub all_fit : {T L : Type 0} → (more before : ℕ) (listeners : List (ListenerSocket L)) (links : List (ℕ × LinkSocket T)) (room : ℕ) → before + (length links + length listeners + more) ≤ room → room_for more before listeners links ≤ room
all_fit more before listeners links room enough = let some_links = links_at_most links in let some_listeners = listeners_at_most listeners in omega (arith, enough, some_links, some_listeners)

-- the rest of a queue whose first left it
pub popped : (items rest : List ℕ) (number : ℕ) → slice_get items 0 ≡ Some number → rest ≡ drop 1 items → length rest + 1 ≡ length items
popped [] rest number first are = cc
popped (item ∷ items) rest number first are = let same = ap length are in omega (arith, same)

module _ {T L : Type 0} (more before room : ℕ) (listeners : List (ListenerSocket L)) (links : List (ℕ × LinkSocket T)) (fits : room_for more before listeners links ≤ room) where
  -- the room that there was is enough once a listener is written ..
  pub listener_fits : (new_more after new_room place : ℕ) (old new : ListenerSocket L) → place < length listeners → old ≡ get_or listeners place old
      → new_more + after + unqueued new.queued ≤ more + before + unqueued old.queued → room ≤ new_room → room_for new_more after (slice_set listeners place new) links ≤ new_room
  listener_fits new_more after new_room place old new within found no_more as_much =
      let written = listener_written listeners place old new (slice_get_read listeners (length listeners) place old refl within found) in
      omega (arith, fits, no_more, as_much, written)

  -- .. or a link ..
  pub link_fits : (new_more after new_room : ℕ) (test : ℕ → Bool) (old new : LinkSocket T) (new_links : List (ℕ × LinkSocket T)) → Some old ≡ lookup test links → new_links ≡ set_value test links new
      → new_more + after + unqueued new.queued ≤ more + before + unqueued old.queued → room ≤ new_room → room_for new_more after listeners new_links ≤ new_room
  link_fits new_more after new_room test old new new_links found are no_more as_much =
      let written = link_written test links old new (sym found) in let same = ap unqueued_links are in omega (arith, fits, no_more, as_much, written, same)

  -- .. or a link is removed
  pub removed_fits : (test : ℕ → Bool) (new_links : List (ℕ × LinkSocket T)) → new_links ≡ remove_entry test links → room_for more before listeners new_links ≤ room
  removed_fits test new_links are = let removed = link_removed test links in let same = ap unqueued_links are in omega (arith, fits, removed, same)

module _ {T L : Type 0} (more before room : ℕ) (listeners : List (ListenerSocket L)) (links : List (ℕ × LinkSocket T)) (fits : room_for (more + 1) before listeners links ≤ room) where
  -- room for one more is enough if a link is made, or memory for it is refused ..
  pub made_fits : {A E : Type 0} (answer : Result A E) (number : ℕ) (socket : LinkSocket T) (new_links : List (ℕ × LinkSocket T)) → OnOk answer (new_links ≡ insert_entry nat_cmp links number socket)
      → OnErr answer (new_links ≡ links) → room_for more before listeners new_links ≤ room
  made_fits (Ok value) number socket new_links are same = let made = link_made links number socket in let count = ap unqueued_links are in omega (arith, fits, made, count)
  made_fits (Err fault) number socket new_links are same = let count = ap unqueued_links same in omega (arith, fits, count)

  -- .. and if a listener is
  pub listener_made_fits : (is_made : Bool) (socket : ListenerSocket L) (new_listeners : List (ListenerSocket L)) → new_listeners ≡ (if is_made then listeners ++ socket ∷ [] else listeners)
      → room_for more before new_listeners links ≤ room
  listener_made_fits true socket new_listeners are = let made = listener_made listeners socket in let count = ap unqueued_listeners are in omega (arith, fits, made, count)
  listener_made_fits false socket new_listeners are = let count = ap unqueued_listeners are in omega (arith, fits, count)
