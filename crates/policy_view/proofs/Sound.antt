-- The messages of a history are valid if the events bring bytes; and nothing follows its End.
use Rattle.std.proofs.Common.{ℕ, ◌≡◌, Bool, true, false, List, [], ◌∷◌, ◌++◌, drop, length, map, if◌then◌else◌, Option, Some, None, refl, subst, arith}
use Rattle.std.specs.List.{AllByRecursion}
use Rattle.std.specs.Prelude.{◌==◌}
use Rattle.byte_lists.specs.Bytes.{AreBytes}
use Rattle.byte_lists.proofs.Bytes.{AreBytes-append, AreBytes-drop, AreBytes-take}
use Rattle.dbus_header.specs.Message.{Valid}
use Rattle.dbus_header.proofs.StreamSplits.{splits}
use Rattle.policy_args.specs.Policy.{Policy}
use Rattle.sasl_watch.specs.Lines.{after_begin, after_lines, asked, bus_lines, client_lines, has_begun, joined}
use Rattle.policy_view.specs.Elements.{BringsBytes}
use Rattle.policy_view.specs.History.{Event, Bytes, Finished, Stopped, arrived, content, end_if, end_of, fault, fault_end, finished, followed_by, followed_by_all, followed_unless, found, history, is_over, lines, longest_stream, messages_in, new_in, raw, raw_item, stream, whole_stream}
use Rattle.policy_view.specs.Past.{Item, Line, Msg, Raw, Ended, History}
use Rattle.policy_view.specs.declared.End.{End}
use Rattle.policy_view.specs.declared.Fault.{Fault}
use Rattle.policy_view.specs.declared.Mode.{Mode}
use Rattle.policy_view.specs.declared.Side.{Side}
use Rattle.policy_view.specs.declared.Side.TheVariants.{Client, Bus}
use Rattle.policy_view.proofs.EachItem.{all_append, all_drop, all_map, each_item}

-- ---- valid messages

abbrev pub HasValid : Item → Type 0
HasValid (Line side bytes) = Unit {0}
HasValid (Msg side m) = Valid m
HasValid (Raw side bytes) = Unit {0}
HasValid (Ended end) = Unit {0}

abbrev pub AllBytes : List Event → Type 0
AllBytes events = AllByRecursion BringsBytes events

no_bytes : AreBytes []
no_bytes i = omega arith

whole_bytes : (side : Side) (events : List Event) → AllBytes events → AreBytes (whole_stream side events)
whole_bytes side [] are = no_bytes
whole_bytes Client (Bytes Client piece ∷ events) are = AreBytes-append (whole_stream Client events) piece (whole_bytes Client events are.1) are.0
whole_bytes Client (Bytes Bus piece ∷ events) are = whole_bytes Client events are.1
whole_bytes Bus (Bytes Client piece ∷ events) are = whole_bytes Bus events are.1
whole_bytes Bus (Bytes Bus piece ∷ events) are = AreBytes-append (whole_stream Bus events) piece (whole_bytes Bus events are.1) are.0
whole_bytes Client (Finished other ∷ events) are = whole_bytes Client events are.1
whole_bytes Bus (Finished other ∷ events) are = whole_bytes Bus events are.1
whole_bytes Client (Stopped end ∷ events) are = whole_bytes Client events are.1
whole_bytes Bus (Stopped end ∷ events) are = whole_bytes Bus events are.1

stream_bytes : (side : Side) (events : List Event) → AllBytes events → AreBytes (stream side events)
unfolding stream
stream_bytes side events are = AreBytes-take longest_stream (whole_stream side events) (whole_bytes side events are)

valid_in : (filter : Bool) (content : Option (List ℕ)) → ((bytes : List ℕ) → content ≡ Some bytes → AreBytes bytes) → AllByRecursion Valid (messages_in filter content)
valid_in filter None are = tt
valid_in true (Some bytes) are = (splits bytes (are bytes refl)).each
valid_in false (Some bytes) are = tt

behind_if : (b : Bool) (n : ℕ) (bytes : List ℕ) → AreBytes bytes → AreBytes (if b then drop n bytes else [])
behind_if true n bytes are = AreBytes-drop n bytes are
behind_if false n bytes are = no_bytes

some_bytes : (x y : List ℕ) → ◌≡◌ {A = Option (List ℕ)} (Some x) (Some y) → AreBytes x → AreBytes y
some_bytes x y e are = let same : x ≡ y = cc in subst AreBytes same are

content_bytes : (mode : Mode) (side : Side) (events : List Event) → AllBytes events → (bytes : List ℕ) → content mode side events ≡ Some bytes → AreBytes bytes
unfolding content
content_bytes mode Client events are bytes e = by mode.auth (has_begun (stream Client events)) e
  where
    by : (auth begun : Bool) → (if auth then (if begun then Some (after_begin (stream Client events)) else None) else Some (stream Client events)) ≡ Some bytes → AreBytes bytes
    by true true e = some_bytes _ bytes e (behind_if (has_begun (stream Client events)) (length (joined (client_lines (stream Client events)))) (stream Client events) (stream_bytes Client events are))
    by true false e = absurd cc
    by false begun e = some_bytes _ bytes e (stream_bytes Client events are)
content_bytes mode Bus events are bytes e = by mode.auth (has_begun (stream Client events)) e
  where
    by : (auth begun : Bool) → (if auth then (if begun then Some (after_lines (asked (stream Client events)) (stream Bus events)) else None) else Some (stream Bus events)) ≡ Some bytes → AreBytes bytes
    by true true e = some_bytes _ bytes e (behind_if (length (bus_lines (asked (stream Client events)) (stream Bus events)) == asked (stream Client events)) (length (joined (bus_lines (asked (stream Client events)) (stream Bus events)))) (stream Bus events) (stream_bytes Bus events are))
    by true false e = absurd cc
    by false begun e = some_bytes _ bytes e (stream_bytes Bus events are)

valid_lines : (side : Side) (ls : List (List ℕ)) → AllByRecursion HasValid (map (Line side) ls)
valid_lines side [] = tt
valid_lines side (l ∷ ls) = (tt, valid_lines side ls)

valid_found : (mode : Mode) (side : Side) (events : List Event) → AllBytes events → AllByRecursion HasValid (found mode side events)
unfolding found
valid_found mode side events are =
    let ms = messages_in mode.filter (content mode side events) in
    all_append HasValid (map (Line side) (lines mode side events)) (map (Msg side) ms) (valid_lines side (lines mode side events))
    (all_map HasValid (Msg side) ms (valid_in mode.filter (content mode side events) (content_bytes mode side events are)))

valid_raw : (side : Side) (bytes : List ℕ) → AllByRecursion HasValid (raw_item side bytes)
valid_raw side [] = tt
valid_raw side (byte ∷ bytes) = (tt, tt)

valid_fault : (side : Side) (f : Option Fault) → AllByRecursion HasValid (fault_end side f)
valid_fault side None = tt
valid_fault side (Some f) = (tt, tt)

valid_end : (b : Bool) (end : End) → AllByRecursion HasValid (end_if b end)
valid_end true end = (tt, tt)
valid_end false end = tt

valid_arrived : (mode : Mode) (event : Event) (events : List Event) → AllBytes (event ∷ events) → AllByRecursion HasValid (arrived mode events event)
unfolding arrived
valid_arrived mode (Bytes side piece) events are =
    let now = Bytes side piece ∷ events in
    let items = new_in (found mode side events) (found mode side now) in
    let bytes = raw_item side (new_in (raw mode side events) (raw mode side now)) in
    let ends = fault_end side (fault mode side now) in
    all_append HasValid (items ++ bytes ++ ends) (end_if (is_over side events piece) (finished side))
    (all_append HasValid (items ++ bytes) ends
    (all_append HasValid items bytes (all_drop HasValid (length (found mode side events)) (found mode side now) (valid_found mode side now are))
    (valid_raw side (new_in (raw mode side events) (raw mode side now))))
    (valid_fault side (fault mode side now)))
    (valid_end (is_over side events piece) (finished side))
valid_arrived mode (Finished side) events are = (tt, tt)
valid_arrived mode (Stopped end) events are = (tt, tt)

pub valid_history : (policy : Policy) (mode : Mode) (events : List Event) → AllBytes events → AllByRecursion HasValid (history policy mode events)
valid_history policy mode events are = each_item HasValid (λ end. tt) policy mode AllBytes (λ event events are. are.1) (valid_arrived mode) events are

-- ---- nothing follows the End

abbrev pub Runs : History → Type 0
Runs [] = Unit {0}
Runs (Line side bytes ∷ before) = Runs before
Runs (Msg side m ∷ before) = Runs before
Runs (Raw side bytes ∷ before) = Runs before
Runs (Ended end ∷ before) = ⊥

abbrev pub EndsOnce : History → Type 0
EndsOnce [] = Unit {0}
EndsOnce (item ∷ before) = Runs before

runs_on : (items : History) → EndsOnce items → end_of items ≡ None → Runs items
runs_on [] once e = tt
runs_on (Line side bytes ∷ before) once e = once
runs_on (Msg side m ∷ before) once e = once
runs_on (Raw side bytes ∷ before) once e = once
runs_on (Ended end ∷ before) once e = absurd cc

once_unless : (last : Option End) (policy : Policy) (before : History) (item : Item) → end_of before ≡ last → EndsOnce before → EndsOnce (followed_unless last policy before item)
once_unless (Some end) policy before item e once = once
once_unless None policy before item e once = runs_on before once e

once_all : (policy : Policy) (before : History) (items : List Item) → EndsOnce before → EndsOnce (followed_by_all policy before items)
unfolding followed_by_all followed_by
once_all policy before [] once = once
once_all policy before (item ∷ items) once = once_all policy (followed_by policy before item) items (once_unless (end_of before) policy before item refl once)

pub once_history : (policy : Policy) (mode : Mode) (events : List Event) → EndsOnce (history policy mode events)
unfolding history
once_history policy mode [] = tt
once_history policy mode (event ∷ events) = once_all policy (history policy mode events) (arrived mode events event) (once_history policy mode events)
