-- What the calls of one session add to a journal.
use Rattle.std.specs.Prelude.{ℕ, ◌≡◌, ◌≤◌, ◌<◌, ◌⊎◌, Bool, true, false, ◌&&◌, List, [], ◌∷◌, ◌++◌, Some, if◌then◌else◌, length, nat_le, is_some, is_none, not, ◌||◌}
use Rattle.dbus_names.specs.Names.{is_empty}
use Rattle.link_traits.specs.Journals.{Journal, written}
use Rattle.link_traits.specs.Answers.{client_link, bus_link, read_entry, write_entry}
use Rattle.link_traits.specs.Entries.{not_ready, shut}
use Rattle.link_traits.specs.Views.{NetView, RoseAt}
use Rattle.link_traits.specs.declared.links.Got.{Got}
use Rattle.link_traits.specs.declared.links.Got.TheVariants.{Bytes as GotBytes}
use Rattle.link_traits.specs.declared.links.Took.{Took}
use Rattle.link_traits.specs.declared.links.Took.TheVariants.{Bytes as TookBytes, NotReady as TookNotReady, Failed as TookFailed}
use Rattle.link_traits.specs.declared.links.Side.{Side}
use Rattle.link_traits.specs.declared.links.Side.TheVariants.{Client, Bus}
use Rattle.link_traits.specs.declared.links.Link.{Link}
use Rattle.link_traits.specs.declared.links.Wishes.{Wishes}
use Rattle.link_traits.specs.declared.links.Call.TheVariants.{Write}
use Rattle.link_traits.specs.declared.links.Count.{Count}
use Rattle.link_traits.specs.declared.links.Count.TheVariants.{Link as OfLink}
use Rattle.policy_args.specs.Policy.{Policy}
use Rattle.policy_view.specs.declared.End.{End}
use Rattle.policy_view.specs.declared.End.TheVariants.{ClientMalformed, BusMalformed, ClientEnd, BusEnd, SerialsSpent, Memory, ClientRead, ClientWrite, BusRead, BusWrite, BusConnect, LogFault}
use Rattle.policy_view.specs.History.{Event}
use Rattle.proxy_core.specs.Sessions.{SessionView, Taken, StandsFor, IsFront, is_memory}
use Rattle.proxy_loop.specs.Sessions.{events_of}
use Rattle.proxy_loop.specs.Kinds.{is_write, is_taken, gave_bytes, gone_by, all_are, some_of, last_write, only_newest_stops}

-- ---- what waits

abbrev pub queue_of : Side → SessionView → List ℕ
queue_of Client session = session.client_side
queue_of Bus session = session.bus_side

-- what waits for the other side
abbrev pub other_queue : Side → SessionView → List ℕ
other_queue Client session = session.bus_side
other_queue Bus session = session.client_side

abbrev pub with_queue : Side → List ℕ → SessionView → SessionView
with_queue Client queue session = record session { client_side = queue }
with_queue Bus queue session = record session { bus_side = queue }

abbrev pub with_taken : Side → List ℕ → Taken → Taken
with_taken Client bytes taken = record taken { client_side = taken.client_side ++ bytes }
with_taken Bus bytes taken = record taken { bus_side = taken.bus_side ++ bytes }

-- a side isn't read while so much waits for the other side
abbrev pub is_full : Side → SessionView → Bool
is_full side session = nat_le 1048576 (length (other_queue side session))

-- the wishes of a link that isn't shut
abbrev pub wishes_of : Side → SessionView → Wishes
wishes_of side session = record { read = is_none session.ended && not (is_full side session); write = not (is_empty (queue_of side session)) }

-- whether a link that isn't shut is to be shut: an End stands, and nothing waits or nothing is to be written any more
abbrev pub shuts_now : Side → SessionView → Bool → Bool
shuts_now side session gone = is_some session.ended && (gone || is_empty (queue_of side session))

abbrev pub link_at : ℕ → Side → Link
link_at n side = record { session = n; side = side }

-- ---- what calls add

abbrev pub is_failed : Took → Bool
is_failed (TookBytes n) = false
is_failed TookNotReady = false
is_failed TookFailed = true

-- one write of the front of what waits for a link
pub record OneWrite (link : Link) (old new : SessionView) (answer : Took) (added : Journal) : Type 0 where
  pub piece : List ℕ
  pub front : IsFront piece (queue_of link.side old)
  pub is : added ≡ write_entry link piece answer ∷ []
  pub took : queue_of link.side old ≡ written link added ++ queue_of link.side new
  pub ended : is_some new.ended ≡ (is_some old.ended || is_failed answer)

-- the writes of a link, and nothing else: what they wrote was taken from the front of the queue
pub record Writes (link : Link) (old new : SessionView) (fails : Bool) (added : Journal) : Type 0 where
  pub all : all_are (is_write link) added ≡ true
  pub gone : some_of (gone_by link) added ≡ fails
  pub took : queue_of link.side old ≡ written link added ++ queue_of link.side new
  pub ended : is_some new.ended ≡ (is_some old.ended || fails)

-- .. each of which took bytes
pub record WritesOn (link : Link) (old new : SessionView) (added : Journal) : Type 0 where
  pub writes : Writes link old new false added
  pub taken : all_are (is_taken link) added ≡ true
  pub stops : only_newest_stops link added ≡ true

-- nothing waits, or nothing is to be written to the link any more, or its last write among these wasn't ready
abbrev pub IsDrained : Link → List ℕ → Bool → Journal → Type 0
IsDrained link queue done added = (queue ≡ []) ⊎ (done ≡ true) ⊎ (last_write link added ≡ Some (not_ready (Write link)))

-- all that waits was written, until a write failed or wasn't ready, which is the last
pub record WroteOut (link : Link) (old new : SessionView) (fails : Bool) (added : Journal) : Type 0 where
  pub writes : Writes link old new fails added
  pub stops : only_newest_stops link added ≡ true
  pub drained : IsDrained link (queue_of link.side new) fails added

-- What is written to one link at a time: nothing if nothing more is to be written to it; otherwise one write after
-- another, until one isn't ready or fails.
pub record WritesTo (link : Link) (closed : Bool) (added : Journal) : Type 0 where
  pub all : all_are (is_write link) added ≡ true
  pub stops : only_newest_stops link added ≡ true
  pub none : closed ≡ true → added ≡ []

-- the writes to the client, and then those to the bus
pub record WritesInOrder (n : ℕ) (client_closed bus_closed : Bool) (added : Journal) : Type 0 where
  pub to_client : Journal
  pub to_bus : Journal
  pub is : added ≡ to_bus ++ to_client
  pub client : WritesTo (client_link n) client_closed to_client
  pub bus : WritesTo (bus_link n) bus_closed to_bus

-- how many bytes a link is read into
abbrev pub read_room : ℕ
read_room = 65536

-- one read of a link into that room, which got at least one byte if it got any; and whether nothing more is written to
-- the link after it
pub record OneRead (link : Link) (is_last : Bool) (added : Journal) : Type 0 where
  pub into : List ℕ
  pub answer : Got
  pub room : length into ≡ read_room
  pub progress : (n : ℕ) → answer ≡ GotBytes n → (0 < n) × (n ≤ read_room)
  pub one : added ≡ read_entry link into answer ∷ []
  pub gone : gone_by link (read_entry link into answer) ≡ is_last

-- a link is shut here, or nothing is done
pub record ShutWhere (link : Link) (here : Bool) (added : Journal) : Type 0 where
  pub is : added ≡ (if here then shut link ∷ [] else [])

-- at most one shut of each link
pub record ShutBoth (n : ℕ) (client bus : Bool) (added : Journal) : Type 0 where
  pub is : added ≡ (if bus then shut (bus_link n) ∷ [] else []) ++ (if client then shut (client_link n) ∷ [] else [])

-- ---- how a session goes by calls

-- what shows why a session of the loop has an End: the count that rose; an End of the session's own needs none
abbrev pub Cause : ℕ → End → NetView → NetView → Type 0
Cause n ClientRead before after = RoseAt (OfLink (client_link n)) before after
Cause n ClientWrite before after = RoseAt (OfLink (client_link n)) before after
Cause n BusRead before after = RoseAt (OfLink (bus_link n)) before after
Cause n BusWrite before after = RoseAt (OfLink (bus_link n)) before after
Cause n BusConnect before after = RoseAt (OfLink (bus_link n)) before after
Cause n LogFault before after = ⊥
Cause n (ClientMalformed fault) before after = Unit {0}
Cause n (BusMalformed fault) before after = Unit {0}
Cause n ClientEnd before after = Unit {0}
Cause n BusEnd before after = Unit {0}
Cause n SerialsSpent before after = Unit {0}
Cause n Memory before after = Unit {0}

-- an End stays, the notes are as before, and no memory is refused
pub record KeepsEnd (old new : SessionView) : Type 0 where
  pub each : (end : End) → old.ended ≡ Some end → new.ended ≡ Some end
  pub notes : new.notes ≡ old.notes
  pub memory : is_memory new.ended ≡ is_memory old.ended

-- what waited for either side is a prefix of what waits now
pub record KeepsWaiting (old new : SessionView) : Type 0 where
  pub client : IsFront old.client_side new.client_side
  pub bus : IsFront old.bus_side new.bus_side

-- One read for a session, which takes nothing that waits. If the read gave no bytes, no note is made and no memory is
-- refused.
pub record FedOnce (link : Link) (old new : SessionView) (is_last : Bool) (added : Journal) : Type 0 where
  pub once : OneRead link is_last added
  pub waits : KeepsWaiting old new
  pub unfed : some_of gave_bytes added ≡ false → KeepsEnd old new

-- any policy; this policy
abbrev pub Any : Policy → Type 0
Any policy = Unit {0}

abbrev pub Only : Policy → Policy → Type 0
Only own policy = policy ≡ own

-- what was taken from a session, with what these entries wrote to its links
abbrev pub more_taken : ℕ → Journal → Taken → Taken
more_taken n added taken = record {
  bus_side = taken.bus_side ++ written (bus_link n) added;
  client_side = taken.client_side ++ written (client_link n) added;
  notes = taken.notes;
  visible = taken.visible;
  held = taken.held;
}

-- these entries' events came to a session, and what they wrote was taken from it
pub record Moves (policy : Policy) (n : ℕ) (old new : SessionView) (added : Journal) : Type 0 where
  pub each : (events : List Event) (taken : Taken) → StandsFor policy old events taken →
      StandsFor policy new (events_of n added ++ events) (more_taken n added taken)

-- events for which a session stands
pub record StoodFor (policy : Policy) (session : SessionView) : Type 0 where
  pub events : List Event
  pub taken : Taken
  pub stands : StandsFor policy session events taken

-- there are some
abbrev pub Stood : Policy → SessionView → Type 0
Stood policy session = ∥ StoodFor policy session ∥₁

-- Calls for one session. Where the net tells its journal, entries of this shape were added, and under such a policy the
-- session goes by them. No count fell, an End stayed, a new End has its cause.
pub record Goes (under : Policy → Type 0) (n : ℕ) (old new : SessionView) (before after : NetView) (Shape : Journal → Type 0) : Type 0 where
  pub told : (last : Journal) → after.journal ≡ Some last → (first : Journal) × (before.journal ≡ Some first)
      × (added : Journal) × (last ≡ added ++ first) × Shape added
      × ((policy : Policy) → under policy → Moves policy n old new added)
  pub counts : (count : Count) → before.counts count ≤ after.counts count
  pub stood : (policy : Policy) → under policy → Stood policy old → Stood policy new
  pub end : (end : End) → old.ended ≡ Some end → new.ended ≡ Some end
  pub cause : (policy : Policy) → under policy → Stood policy old → (end : End) → new.ended ≡ Some end →
      (old.ended ≡ Some end) ⊎ Cause n end before after
  pub mode : new.mode ≡ old.mode
