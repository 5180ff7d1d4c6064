-- The history of a session that filters messages has no raw bytes.
use Rattle.std.proofs.Common.{ℕ, ◌≡◌, Bool, true, false, List, [], ◌∷◌, ◌++◌, length, map, Option, Some, None}
use Rattle.std.specs.List.{AllByRecursion}
use Rattle.dbus_header.specs.Message.{Message}
use Rattle.policy_args.specs.Policy.{Policy}
use Rattle.policy_view.specs.History.{Event, Bytes, Finished, Stopped, arrived, content, end_if, fault, fault_end, finished, found, history, is_over, lines, messages_in, new_in, raw, raw_in, raw_item}
use Rattle.policy_view.specs.Past.{Item, Line, Msg, Raw, Ended}
use Rattle.policy_view.specs.declared.End.{End}
use Rattle.policy_view.specs.declared.Fault.{Fault}
use Rattle.policy_view.specs.declared.Mode.{Mode}
use Rattle.policy_view.specs.declared.Side.{Side}
use Rattle.policy_view.proofs.EachItem.{all_append, all_drop, each_item}

abbrev pub IsNotRaw : Item → Type 0
IsNotRaw (Line side bytes) = Unit {0}
IsNotRaw (Msg side m) = Unit {0}
IsNotRaw (Raw side bytes) = ⊥
IsNotRaw (Ended end) = Unit {0}

abbrev NoRaw : List Item → Type 0
NoRaw items = AllByRecursion IsNotRaw items

no_raw_lines : (side : Side) (ls : List (List ℕ)) → NoRaw (map (Line side) ls)
no_raw_lines side [] = tt
no_raw_lines side (l ∷ ls) = (tt, no_raw_lines side ls)

no_raw_messages : (side : Side) (ms : List Message) → NoRaw (map (Msg side) ms)
no_raw_messages side [] = tt
no_raw_messages side (m ∷ ms) = (tt, no_raw_messages side ms)

no_raw_found : (mode : Mode) (side : Side) (events : List Event) → NoRaw (found mode side events)
unfolding found
no_raw_found mode side events =
    all_append IsNotRaw (map (Line side) (lines mode side events)) (map (Msg side) (messages_in mode.filter (content mode side events)))
    (no_raw_lines side (lines mode side events)) (no_raw_messages side (messages_in mode.filter (content mode side events)))

no_raw_item : (side : Side) (filter : Bool) (one other : Option (List ℕ)) → filter ≡ true → NoRaw (raw_item side (new_in (raw_in filter one) (raw_in filter other)))
no_raw_item side true one other e = tt
no_raw_item side false one other e = absurd cc

no_raw_fault : (side : Side) (f : Option Fault) → NoRaw (fault_end side f)
no_raw_fault side None = tt
no_raw_fault side (Some f) = (tt, tt)

no_raw_end : (b : Bool) (end : End) → NoRaw (end_if b end)
no_raw_end true end = (tt, tt)
no_raw_end false end = tt

no_raw_arrived : (mode : Mode) → mode.filter ≡ true → (event : Event) (events : List Event) → NoRaw (arrived mode events event)
unfolding arrived raw
no_raw_arrived mode e (Bytes side piece) events =
    let now = Bytes side piece ∷ events in
    let items = new_in (found mode side events) (found mode side now) in
    let bytes = raw_item side (new_in (raw mode side events) (raw mode side now)) in
    let ends = fault_end side (fault mode side now) in
    all_append IsNotRaw (items ++ bytes ++ ends) (end_if (is_over side events piece) (finished side))
    (all_append IsNotRaw (items ++ bytes) ends
    (all_append IsNotRaw items bytes (all_drop IsNotRaw (length (found mode side events)) (found mode side now) (no_raw_found mode side now))
    (no_raw_item side mode.filter (content mode side events) (content mode side now) e))
    (no_raw_fault side (fault mode side now)))
    (no_raw_end (is_over side events piece) (finished side))
no_raw_arrived mode e (Finished side) events = (tt, tt)
no_raw_arrived mode e (Stopped end) events = (tt, tt)

pub filtered : (policy : Policy) (mode : Mode) → mode.filter ≡ true → (events : List Event) → NoRaw (history policy mode events)
filtered policy mode e events =
    each_item IsNotRaw (λ end. tt) policy mode (λ events. Unit {0}) (λ event events q. tt) (λ event events q. no_raw_arrived mode e event events) events tt
