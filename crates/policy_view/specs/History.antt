-- The events of a session and the history that they make.
use Rattle.std.specs.Prelude.{ℕ, ◌+◌, ◌-◌, nat_lt, nat_le, Bool, List, [], ◌∷◌, ◌++◌, length, map, take, drop, if◌then◌else◌, Option, Some, None}
use Rattle.dbus_header.specs.declared.Malformed.{Malformed}
use Rattle.dbus_header.specs.Message.{Message}
use Rattle.sasl_watch.specs.Lines.{client_lines, has_begun, after_begin, asked, client_fault, bus_lines, after_lines, bus_fault}
use Rattle.sasl_watch.specs.declared.LineFault.{LineFault}
use Rattle.dbus_header.specs.Stream.{messages, bad}
use Rattle.policy_args.specs.Policy.{Policy}
use Rattle.policy_view.specs.Sent.{Past}
use Rattle.policy_view.specs.Past.{Item, Line, Msg, Raw, Ended, History, past, due}
use Rattle.policy_view.specs.declared.Mode.{Mode}
use Rattle.policy_view.specs.declared.Side.{Side}
use Rattle.policy_view.specs.declared.Side.TheVariants.{Client, Bus}
use Rattle.policy_view.specs.declared.Fault.{Fault}
use Rattle.policy_view.specs.declared.Fault.TheVariants.{Line as OfLine, Message as OfMessage}
use Rattle.policy_view.specs.declared.End.{End}
use Rattle.policy_view.specs.declared.End.TheVariants.{ClientMalformed, BusMalformed, ClientEnd, BusEnd, SerialsSpent}

-- what happens to a session; the newest event or item is first in its list
pub data Event : Type 0 where
  Bytes : (side : Side) (piece : List ℕ) → Event
  Finished : (side : Side) → Event
  Stopped : (end : End) → Event

abbrev pub longest_stream : ℕ
longest_stream = 1152921504606846976

abbrev pub most_sent : ℕ
most_sent = 4294967295

-- all bytes of a side that the events bring
abbrev pub whole_stream : Side → List Event → List ℕ
whole_stream side [] = []
whole_stream Client (Bytes Client piece ∷ events) = whole_stream Client events ++ piece
whole_stream Bus (Bytes Bus piece ∷ events) = whole_stream Bus events ++ piece
whole_stream side (_ ∷ events) = whole_stream side events

-- the stream of a side: these bytes, up to its limit
unfoldable pub stream : Side → List Event → List ℕ
stream side events = take longest_stream (whole_stream side events)

-- ---- a side's stream in lines, and in messages if these are filtered

-- the whole lines of a side: the client's up to BEGIN, and as many of the bus's as the client asked for
unfoldable pub lines : Mode → Side → List Event → List (List ℕ)
lines mode Client events = if mode.auth then client_lines (stream Client events) else []
lines mode Bus events = if mode.auth then bus_lines (asked (stream Client events)) (stream Bus events) else []

-- what follows a side's lines, if BEGIN was seen
unfoldable pub content : Mode → Side → List Event → Option (List ℕ)
content mode Client events =
    if mode.auth then (if has_begun (stream Client events) then Some (after_begin (stream Client events)) else None)
    else Some (stream Client events)
content mode Bus events =
    if mode.auth
    then (if has_begun (stream Client events) then Some (after_lines (asked (stream Client events)) (stream Bus events)) else None)
    else Some (stream Bus events)

-- its messages, if messages are filtered
abbrev pub messages_in : Bool → Option (List ℕ) → List Message
messages_in filter None = []
messages_in filter (Some bytes) = if filter then messages bytes else []

abbrev pub bytes_in : Option (List ℕ) → List ℕ
bytes_in None = []
bytes_in (Some bytes) = bytes

-- its raw bytes, if messages aren't filtered
abbrev pub raw_in : Bool → Option (List ℕ) → List ℕ
raw_in filter content = if filter then [] else bytes_in content

-- the lines and then the messages of a side's whole stream
unfoldable pub found : Mode → Side → List Event → List Item
found mode side events = map (Line side) (lines mode side events) ++ map (Msg side) (messages_in mode.filter (content mode side events))

-- the raw bytes, which take the place of messages if these aren't filtered
unfoldable pub raw : Mode → Side → List Event → List ℕ
raw mode side events = raw_in mode.filter (content mode side events)

-- ---- the first fault of a side's stream

abbrev pub fault_of_line : Option LineFault → Option Fault
fault_of_line None = None
fault_of_line (Some f) = Some (OfLine f)

abbrev pub fault_of : Option Malformed → Option Fault
fault_of None = None
fault_of (Some m) = Some (OfMessage m)

abbrev pub line_fault : Mode → Side → List Event → Option Fault
line_fault mode Client events = if mode.auth then fault_of_line (client_fault (stream Client events)) else None
line_fault mode Bus events =
    if mode.auth
    then fault_of_line (bus_fault (asked (stream Client events)) (has_begun (stream Client events)) (stream Bus events))
    else None

abbrev pub fault_in : Bool → Option (List ℕ) → Option Fault
fault_in filter None = None
fault_in filter (Some bytes) = if filter then fault_of (bad bytes) else None

abbrev pub first_fault : Option Fault → Option Fault → Option Fault
first_fault None later = later
first_fault (Some f) later = Some f

-- what is wrong with a side's stream: with its lines, or with its messages if these are filtered
unfoldable pub fault : Mode → Side → List Event → Option Fault
fault mode side events = first_fault (line_fault mode side events) (fault_in mode.filter (content mode side events))

abbrev pub malformed : Side → Fault → End
malformed Client = ClientMalformed
malformed Bus = BusMalformed

abbrev pub finished : Side → End
finished Client = ClientEnd
finished Bus = BusEnd

abbrev pub fault_end : Side → Option Fault → List Item
fault_end side None = []
fault_end side (Some f) = Ended (malformed side f) ∷ []

-- raw bytes as one item, if there are any
abbrev pub raw_item : Side → List ℕ → List Item
raw_item side [] = []
raw_item side (byte ∷ bytes) = Raw side (byte ∷ bytes) ∷ []

-- what is new in a list that has grown
abbrev pub new_in : {A : Type 0} → List A → List A → List A
new_in before after = drop (length before) after

-- the bytes would make the stream too long
unfoldable pub is_over : Side → List Event → List ℕ → Bool
is_over side events piece = nat_lt longest_stream (length (stream side events) + length piece)

abbrev pub end_if : Bool → End → List Item
end_if b end = if b then Ended end ∷ [] else []

-- the bytes of a piece that its side's stream still takes
unfoldable pub taken_of : Side → List Event → List ℕ → List ℕ
taken_of side events piece = take (longest_stream - length (stream side events)) piece

-- ---- the history

-- the items that a piece brings, in order: those that its side's whole stream has beyond those of before
abbrev pub brought : Mode → Side → List Event → List ℕ → List Item
brought mode side events piece =
    new_in (found mode side events) (found mode side (Bytes side piece ∷ events))
    ++ raw_item side (new_in (raw mode side events) (raw mode side (Bytes side piece ∷ events)))
    ++ fault_end side (fault mode side (Bytes side piece ∷ events))
    ++ end_if (is_over side events piece) (finished side)

-- the items that an event brings
unfoldable pub arrived : Mode → List Event → Event → List Item
arrived mode events (Bytes side piece) = brought mode side events piece
arrived mode events (Finished side) = Ended (finished side) ∷ []
arrived mode events (Stopped end) = Ended end ∷ []

-- the item, or the End that takes its place
unfoldable pub placed : Policy → Past → Item → Item
placed policy before item =
    if nat_le (length before.told.sent + length (due policy before item)) most_sent then item else Ended SerialsSpent

-- the End that a history has
abbrev pub end_of : History → Option End
end_of [] = None
end_of (Ended end ∷ before) = Some end
end_of (Line side bytes ∷ before) = end_of before
end_of (Msg side m ∷ before) = end_of before
end_of (Raw side bytes ∷ before) = end_of before

-- nothing follows an End
abbrev pub followed_unless : Option End → Policy → History → Item → History
followed_unless (Some end) policy before item = before
followed_unless None policy before item = placed policy (past policy before) item ∷ before

unfoldable pub followed_by : Policy → History → Item → History
followed_by policy before item = followed_unless (end_of before) policy before item

unfoldable pub followed_by_all : Policy → History → List Item → History
followed_by_all policy before [] = before
followed_by_all policy before (item ∷ items) = followed_by_all policy (followed_by policy before item) items

-- the history of the events; the last event is first in the list
unfoldable pub history : Policy → Mode → List Event → History
history policy mode [] = []
history policy mode (event ∷ events) = followed_by_all policy (history policy mode events) (arrived mode events event)

-- the first items of a history, as many as this number: those that came before the others
abbrev pub first_items : ℕ → History → History
first_items n items = drop (length items - n) items
