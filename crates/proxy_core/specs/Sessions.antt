-- The model of a session, and when a session represents events.
use Rattle.std.specs.Prelude.{◌≡◌, ◌≤◌, ◌<◌, ℕ, ◌+◌, Bool, true, false, List, [], ◌∷◌, ◌++◌, length, get_or, IsTrue, if◌then◌else◌, Option, Some, None, Result, Ok, Err}
use Rattle.std.specs.FinMap.{empty}
use Rattle.std.specs.Global.{Box}
use Rattle.dbus_header.specs.Stream.{rest}
use Rattle.sasl_watch.specs.Lines.{asked}
use Rattle.sasl_watch.specs.Watching.{Watch}
use Rattle.sasl_watch.specs.Following.{ClientFollows, BusFollows}
use Rattle.policy_args.specs.Policy.{Policy}
use Rattle.policy_view.specs.Sent.{Past}
use Rattle.policy_view.specs.Past.{Ended, History, has_greeted, past}
use Rattle.policy_view.specs.History.{Event, stream, lines, content, bytes_in, fault, first_items, history, end_of, most_sent}
use Rattle.policy_view.specs.Outputs.{bus_bytes, client_bytes}
use Rattle.policy_view.specs.Elements.{elements}
use Rattle.policy_view.specs.Notes.{Note, numbered, notes_made}
use Rattle.policy_view.specs.declared.visible.Visible.{Visible as Element}
use Rattle.policy_view.specs.declared.Mode.{Mode}
use Rattle.policy_view.specs.declared.Side.{Side}
use Rattle.policy_view.specs.declared.Side.TheVariants.{Client, Bus}
use Rattle.policy_view.specs.declared.End.{End}
use Rattle.policy_view.specs.declared.End.TheVariants.{ClientMalformed, BusMalformed, ClientEnd, BusEnd, SerialsSpent, Memory, ClientRead, ClientWrite, BusRead, BusWrite, BusConnect, LogFault}
use Rattle.policy_view.specs.Closings.{closing}
use Rattle.proxy_core.specs.Streams.{StreamView, Phase, InLines, InMessages, new_stream, watch_at}
use Rattle.reply_ledger.specs.Ledger.{Ledger}
use Rattle.unique_names.specs.Taught.{Ids}
use Rattle.verdicts.specs.Kept.{StandFor}

-- ---- the model of a session

pub record SessionView : Type 0 where
  pub mode : Mode
  -- what waits for either side
  pub bus_side : List ℕ
  pub client_side : List ℕ
  pub ended : Option End
  -- what was received from either side, and how far it was processed
  pub client : StreamView
  pub bus : StreamView
  -- the number of sent messages, and whether a Hello is among them
  pub sent : ℕ
  pub greeted : Bool
  -- what the expected answers are for, and the replies that are owed
  pub ledger : Ledger
  -- what is known of unique names
  pub ids : Ids
  -- the notes that wait, and the number of notes that were made
  pub notes : List Note
  pub numbered : ℕ
  -- whether it keeps the elements of the visible part, and those that wait
  pub watches : Bool
  pub visible : List Element

abbrev pub nothing_expected : Ledger
nothing_expected = record { expected = empty; owed = empty }

abbrev pub at_start : Mode → SessionView
at_start mode = record {
  mode = mode;
  bus_side = [];
  client_side = [];
  ended = None;
  client = new_stream mode.auth;
  bus = new_stream mode.auth;
  sent = 0;
  greeted = false;
  ledger = nothing_expected;
  ids = empty;
  notes = [];
  numbered = 0;
  watches = false;
  visible = [];
}

-- the elements that wait, if elements are kept
abbrev pub waiting_in : Option (Box (List Element)) → List Element
waiting_in None = []
waiting_in (Some watch) = watch.value

-- the mode of a session that watches: it filters, and makes no notes
abbrev pub watching_mode : Bool → Mode
watching_mode auth = record { auth = auth; filter = true; notes = false }

abbrev pub watching_at_start : Bool → SessionView
watching_at_start auth = record (at_start (watching_mode auth)) { watches = true }

abbrev pub stream_of : Side → SessionView → StreamView
stream_of Client view = view.client
stream_of Bus view = view.bus

abbrev pub waits_for : Side → SessionView → List ℕ
waits_for Client view = view.client_side
waits_for Bus view = view.bus_side

-- What was taken from a session, and a number of items that its history had at some time.
pub record Taken : Type 0 where
  pub bus_side : List ℕ
  pub client_side : List ℕ
  pub notes : List Note
  pub visible : List Element
  pub held : ℕ

abbrev pub nothing : Taken
nothing = record { bus_side = []; client_side = []; notes = []; visible = []; held = 0 }

-- ---- what a session keeps of the past

pub record Knows (policy : Policy) (view : SessionView) (before : Past) : Type 0 where
  pub count : view.sent ≡ length before.told.sent
  pub fits : length before.told.sent ≤ most_sent
  pub greeted : view.greeted ≡ has_greeted before.told.sent
  pub stand : StandFor policy view.ids view.ledger before

-- ---- representing events

pub record IsFront {A : Type 0} (front whole : List A) : Type 0 where
  pub rest : List A
  pub is : front ++ rest ≡ whole

abbrev pub is_memory : Option End → Bool
is_memory None = false
is_memory (Some (ClientMalformed fault)) = false
is_memory (Some (BusMalformed fault)) = false
is_memory (Some ClientEnd) = false
is_memory (Some BusEnd) = false
is_memory (Some SerialsSpent) = false
is_memory (Some Memory) = true
is_memory (Some ClientRead) = false
is_memory (Some ClientWrite) = false
is_memory (Some BusRead) = false
is_memory (Some BusWrite) = false
is_memory (Some BusConnect) = false
is_memory (Some LogFault) = false

-- the Ends with which a session is stopped: a link or the log failed, or memory was refused for a connect
abbrev pub is_from_outside : End → Bool
is_from_outside (ClientMalformed fault) = false
is_from_outside (BusMalformed fault) = false
is_from_outside ClientEnd = false
is_from_outside BusEnd = false
is_from_outside SerialsSpent = false
is_from_outside Memory = true
is_from_outside ClientRead = true
is_from_outside ClientWrite = true
is_from_outside BusRead = true
is_from_outside BusWrite = true
is_from_outside BusConnect = true
is_from_outside LogFault = true

-- the elements of the visible part that a session gives: if it watches, all but its End, and else none
abbrev pub elements_given : Bool → Policy → History → List Element
elements_given watches policy items = if watches then elements policy items else []

-- What was taken and what then waits is what a history gives either side. If the session makes notes, they are the
-- history's notes; if it watches, the elements are those of its visible part. The session's End is the history's.
pub record Holds (policy : Policy) (view : SessionView) (items : History) (taken : Taken) : Type 0 where
  pub for_bus : taken.bus_side ++ view.bus_side ≡ bus_bytes policy items
  pub for_client : taken.client_side ++ view.client_side ≡ client_bytes policy items
  pub end_is : view.ended ≡ end_of items
  pub noted : taken.notes ++ view.notes ≡ notes_made view.mode policy items
  pub count : IsTrue view.mode.notes → view.numbered ≡ (numbered policy items).1
  pub watched : taken.visible ++ view.visible ≡ elements_given view.watches policy items
  pub knows : view.ended ≡ None → Knows policy view (past policy items)

-- the lines that were given are the first of the stream's, and these bytes are left
abbrev pub FollowsLines : Side → List ℕ → List (List ℕ) → Watch → Type 0
FollowsLines Client pushed given watch = ClientFollows pushed given watch
FollowsLines Bus pushed given watch = BusFollows pushed given watch

-- the number of a side's lines that ask for an answer, or that answer
abbrev pub lines_in : Side → Mode → List Event → ℕ
lines_in Client mode events = asked (stream Client events)
lines_in Bus mode events = length (lines mode Bus events)

-- before messages of the bus, all lines that were asked for were given
abbrev pub AllGiven : Mode → Side → List Event → Type 0
AllGiven mode Client events = Unit {0}
AllGiven mode Bus events = mode.auth ≡ true → length (lines mode Bus events) ≡ asked (stream Client events)

-- the bytes after the lines that aren't given when all that can be is given: none if messages aren't filtered
abbrev pub rest_of : Bool → List ℕ → List ℕ
rest_of filter bytes = if filter then rest bytes else []

-- where a stream is: all whole lines were given and nothing follows them; or all that follows the lines was given,
-- except for a last incomplete message if messages are filtered
abbrev pub StandsAt : Mode → Side → List Event → Phase → List ℕ → Type 0
StandsAt mode side events (InLines place told) left =
    (mode.auth ≡ true)
    × (told ≡ None)
    × FollowsLines side (stream side events) (lines mode side events) (watch_at place None left)
    × (bytes_in (content mode side events) ≡ [])
StandsAt mode side events InMessages left =
    (bytes : List ℕ) × (content mode side events ≡ Some bytes) × (left ≡ rest_of mode.filter bytes) × AllGiven mode side events

-- all that can be taken of what was received from a side was taken, and there is no fault in it
pub record FollowsStream (mode : Mode) (side : Side) (events : List Event) (s : StreamView) : Type 0 where
  pub came : s.came ≡ length (stream side events)
  pub stands : StandsAt mode side events s.phase s.left
  pub counts : mode.auth ≡ true → s.lines ≡ lines_in side mode events
  pub sound : fault mode side events ≡ None
  pub bytes : (i : ℕ) → get_or s.left i 0 < 256

-- both sides of a running session follow their streams
pub record Follows (view : SessionView) (events : List Event) : Type 0 where
  pub client : FollowsStream view.mode Client events view.client
  pub bus : FollowsStream view.mode Bus events view.bus

-- Memory was refused: the session holds the first `done` items of a history, and then that End. No later item has had
-- any effect, and all that the session held before is kept.
pub record HoldsFirst (policy : Policy) (view : SessionView) (items : History) (taken : Taken) (done : ℕ) : Type 0 where
  pub before : taken.held ≤ done
  pub within : done ≤ length items
  pub holds : Holds policy view (Ended Memory ∷ first_items done items) taken

-- A session represents events: it holds their history, or the first items of it if memory was refused.
pub record StandsFor (policy : Policy) (view : SessionView) (events : List Event) (taken : Taken) : Type 0 where
  pub holds : is_memory view.ended ≡ false → Holds policy view (history policy view.mode events) taken
  pub refused : is_memory view.ended ≡ true → (done : ℕ) × HoldsFirst policy view (history policy view.mode events) taken done
  pub held : taken.held ≤ length (history policy view.mode events)
  pub follows : view.ended ≡ None → Follows view events

-- An event that ends a running session is the one at which the history gets this End, unless memory was refused, which
-- is no part of the history.
abbrev pub Closes : Policy → Event → SessionView → SessionView → Type 0
Closes policy event old new =
    (events : List Event) (taken : Taken) (end : End) → StandsFor policy old events taken → old.ended ≡ None → new.ended ≡ Some end → is_memory (Some end) ≡ false
    → closing policy new.mode (event ∷ events) ≡ Some (end, length events + 1)

-- the result of feeding a piece
abbrev pub answer_of : Option End → Result (Unit {0}) End
answer_of None = Ok tt
answer_of (Some end) = Err end
