-- The Ends that a session has by what comes of its sides: none of them is one of the loop's own.
use Rattle.std.proofs.Common.{ℕ, zero, suc, ◌≡◌, ◌⊎◌, inl, inr, Bool, true, false, ◌&&◌, List, [], ◌∷◌, ◌++◌, length, map, drop, Option, Some, None, if◌then◌else◌, refl, ap, ◌∙◌, sym, subst}
use Rattle.std.specs.Prelude.{nat_le, ◌+◌}
use Rattle.std.specs.List.{list_all}
use Rattle.std.proofs.lemmas.Grind.{not_there}
use Rattle.dbus_header.specs.Message.{Message}
use Rattle.link_traits.specs.Views.{NetView}
use Rattle.policy_args.specs.Policy.{Policy}
use Rattle.policy_view.specs.Past.{Item, Line, Msg, Raw, Ended, History, past, due}
use Rattle.policy_view.specs.History.{Event, Bytes, Finished, Stopped, history, arrived, brought, found, raw, raw_item, lines, content, messages_in, fault, fault_end, malformed, finished, new_in, end_if, is_over, placed, end_of, followed_by, followed_unless, followed_by_all, most_sent}
use Rattle.policy_view.specs.declared.Fault.{Fault}
use Rattle.policy_view.specs.declared.Mode.{Mode}
use Rattle.policy_view.specs.declared.Side.{Side}
use Rattle.policy_view.specs.declared.Side.TheVariants.{Client, Bus}
use Rattle.policy_view.specs.declared.End.{End}
use Rattle.policy_view.specs.declared.End.TheVariants.{ClientMalformed, BusMalformed, ClientEnd, BusEnd, SerialsSpent, Memory, ClientRead, ClientWrite, BusRead, BusWrite, BusConnect, LogFault}
use Rattle.proxy_core.specs.Sessions.{SessionView, Taken, StandsFor, is_memory}
use Rattle.proxy_loop.specs.Works.{Cause, Stood, StoodFor}

-- the Ends that a session gives by itself
abbrev is_own : End → Bool
is_own (ClientMalformed fault) = true
is_own (BusMalformed fault) = true
is_own ClientEnd = true
is_own BusEnd = true
is_own SerialsSpent = true
is_own Memory = true
is_own ClientRead = false
is_own ClientWrite = false
is_own BusRead = false
is_own BusWrite = false
is_own BusConnect = false
is_own LogFault = false

own_cause : (n : ℕ) (end : End) (before after : NetView) → is_own end ≡ true → Cause n end before after
own_cause n (ClientMalformed fault) before after e = tt
own_cause n (BusMalformed fault) before after e = tt
own_cause n ClientEnd before after e = tt
own_cause n BusEnd before after e = tt
own_cause n SerialsSpent before after e = tt
own_cause n Memory before after e = tt
own_cause n ClientRead before after e = cc
own_cause n ClientWrite before after e = cc
own_cause n BusRead before after e = cc
own_cause n BusWrite before after e = cc
own_cause n BusConnect before after e = cc
own_cause n LogFault before after e = cc

memory_own : (end : End) → is_memory (Some end) ≡ true → is_own end ≡ true
memory_own (ClientMalformed fault) e = refl
memory_own (BusMalformed fault) e = refl
memory_own ClientEnd e = refl
memory_own BusEnd e = refl
memory_own SerialsSpent e = refl
memory_own Memory e = refl
memory_own ClientRead e = cc
memory_own ClientWrite e = cc
memory_own BusRead e = cc
memory_own BusWrite e = cc
memory_own BusConnect e = cc
memory_own LogFault e = cc

-- ---- items

-- no End of the loop's
abbrev is_plain_item : Item → Bool
is_plain_item (Line side bytes) = true
is_plain_item (Msg side m) = true
is_plain_item (Raw side bytes) = true
is_plain_item (Ended end) = is_own end

abbrev AllPlain : List Item → Type 0
AllPlain items = list_all is_plain_item items ≡ true

and_both : (x y : Bool) → x ≡ true → y ≡ true → x && y ≡ true
and_both true y e f = f
and_both false y e f = cc

and_first : (x y : Bool) → x && y ≡ true → x ≡ true
and_first true y h = refl
and_first false y h = cc

and_second : (x y : Bool) → x && y ≡ true → y ≡ true
and_second true y h = h
and_second false y h = cc

plain_append : (a b : List Item) → AllPlain a → AllPlain b → AllPlain (a ++ b)
plain_append [] b h k = k
plain_append (item ∷ a) b h k =
    and_both (is_plain_item item) (list_all is_plain_item (a ++ b)) (and_first (is_plain_item item) (list_all is_plain_item a) h)
    (plain_append a b (and_second (is_plain_item item) (list_all is_plain_item a) h) k)

plain_drop : (n : ℕ) (a : List Item) → AllPlain a → AllPlain (drop n a)
plain_drop zero a h = h
plain_drop (suc n) [] h = h
plain_drop (suc n) (item ∷ a) h = plain_drop n a (and_second (is_plain_item item) (list_all is_plain_item a) h)

plain_lines : (side : Side) (ls : List (List ℕ)) → AllPlain (map (Line side) ls)
plain_lines side [] = refl
plain_lines side (l ∷ ls) = plain_lines side ls

plain_messages : (side : Side) (ms : List Message) → AllPlain (map (Msg side) ms)
plain_messages side [] = refl
plain_messages side (m ∷ ms) = plain_messages side ms

plain_found : (mode : Mode) (side : Side) (events : List Event) → AllPlain (found mode side events)
unfolding found
plain_found mode side events =
    plain_append (map (Line side) (lines mode side events)) (map (Msg side) (messages_in mode.filter (content mode side events)))
    (plain_lines side (lines mode side events)) (plain_messages side (messages_in mode.filter (content mode side events)))

plain_raw : (side : Side) (bytes : List ℕ) → AllPlain (raw_item side bytes)
plain_raw side [] = refl
plain_raw side (byte ∷ bytes) = refl

malformed_own : (side : Side) (f : Fault) → is_own (malformed side f) ≡ true
malformed_own Client f = refl
malformed_own Bus f = refl

finished_own : (side : Side) → is_own (finished side) ≡ true
finished_own Client = refl
finished_own Bus = refl

plain_one : (end : End) → is_own end ≡ true → AllPlain (Ended end ∷ [])
plain_one end e = and_both (is_own end) true e refl

plain_fault : (side : Side) (f : Option Fault) → AllPlain (fault_end side f)
plain_fault side None = refl
plain_fault side (Some f) = plain_one (malformed side f) (malformed_own side f)

plain_if : (b : Bool) (end : End) → is_own end ≡ true → AllPlain (end_if b end)
plain_if true end e = plain_one end e
plain_if false end e = refl

-- ---- events

-- an event other than a stop
abbrev pub is_plain : Event → Bool
is_plain (Bytes side piece) = true
is_plain (Finished side) = true
is_plain (Stopped end) = false

plain_brought : (mode : Mode) (side : Side) (events : List Event) (piece : List ℕ) → AllPlain (brought mode side events piece)
plain_brought mode side events piece =
    let fresh : AllPlain (new_in (found mode side events) (found mode side (Bytes side piece ∷ events))) =
    plain_drop (length (found mode side events)) (found mode side (Bytes side piece ∷ events)) (plain_found mode side (Bytes side piece ∷ events)) in
    let unseen = raw_item side (new_in (raw mode side events) (raw mode side (Bytes side piece ∷ events))) in
    plain_append (new_in (found mode side events) (found mode side (Bytes side piece ∷ events)) ++ unseen ++ fault_end side (fault mode side (Bytes side piece ∷ events)))
    (end_if (is_over side events piece) (finished side))
    (plain_append (new_in (found mode side events) (found mode side (Bytes side piece ∷ events)) ++ unseen) (fault_end side (fault mode side (Bytes side piece ∷ events)))
    (plain_append (new_in (found mode side events) (found mode side (Bytes side piece ∷ events))) unseen fresh (plain_raw side (new_in (raw mode side events) (raw mode side (Bytes side piece ∷ events)))))
    (plain_fault side (fault mode side (Bytes side piece ∷ events))))
    (plain_if (is_over side events piece) (finished side) (finished_own side))

plain_arrived : (mode : Mode) (events : List Event) (event : Event) → is_plain event ≡ true → AllPlain (arrived mode events event)
unfolding arrived
plain_arrived mode events (Bytes side piece) e = plain_brought mode side events piece
plain_arrived mode events (Finished side) e = plain_one (finished side) (finished_own side)
plain_arrived mode events (Stopped end) e = cc

-- ---- histories

abbrev Plain : Option End → Type 0
Plain last = (end : End) → last ≡ Some end → is_own end ≡ true

item_end : (item : Item) (before : History) → is_plain_item item ≡ true → Plain (end_of before) → Plain (end_of (item ∷ before))
item_end (Line side bytes) before h k = k
item_end (Msg side m) before h k = k
item_end (Raw side bytes) before h k = k
item_end (Ended own) before h k = λ end e. let same : own ≡ end = cc in subst (λ (x : End). is_own x ≡ true) same h

either_end : (b : Bool) (item : Item) (before : History) → is_plain_item item ≡ true → Plain (end_of before) → Plain (end_of ((if b then item else Ended SerialsSpent) ∷ before))
either_end true item before h k = item_end item before h k
either_end false item before h k = item_end (Ended SerialsSpent) before refl k

placed_end : (policy : Policy) (item : Item) (before : History) → is_plain_item item ≡ true → Plain (end_of before) → Plain (end_of (placed policy (past policy before) item ∷ before))
unfolding placed
placed_end policy item before h k =
    either_end (nat_le (length (past policy before).told.sent + length (due policy (past policy before) item)) most_sent) item before h k

followed_end : (last : Option End) (policy : Policy) (item : Item) (before : History) → is_plain_item item ≡ true → Plain (end_of before) → Plain (end_of (followed_unless last policy before item))
followed_end None policy item before h k = placed_end policy item before h k
followed_end (Some end) policy item before h k = k

all_end : (policy : Policy) (items : List Item) (before : History) → AllPlain items → Plain (end_of before) → Plain (end_of (followed_by_all policy before items))
unfolding followed_by_all followed_by
all_end policy [] before h k = k
all_end policy (item ∷ items) before h k =
    all_end policy items (followed_by policy before item) (and_second (is_plain_item item) (list_all is_plain_item items) h)
    (followed_end (end_of before) policy item before (and_first (is_plain_item item) (list_all is_plain_item items) h) k)

event_end : (policy : Policy) (mode : Mode) (events : List Event) (event : Event) → is_plain event ≡ true → end_of (history policy mode events) ≡ None →
    Plain (end_of (history policy mode (event ∷ events)))
unfolding history
event_end policy mode events event plain none =
    all_end policy (arrived mode events event) (history policy mode events) (plain_arrived mode events event plain) (λ end e. let f : None ≡ Some end = sym none ∙ e in cc)

-- a session that had no End has one of its own, if any, after an event of a side
module _ (policy : Policy) (n : ℕ) (old new : SessionView) (before after : NetView) (event : Event) (plain : is_plain event ≡ true)
    (step : (events : List Event) (taken : Taken) → StandsFor policy old events taken → StandsFor policy new (event ∷ events) taken)
    (kept : (end : End) → old.ended ≡ Some end → new.ended ≡ Some end) (mode : new.mode ≡ old.mode) where
  is_its_own : StoodFor policy old → (b : Bool) (end : End) → old.ended ≡ None → new.ended ≡ Some end → is_memory new.ended ≡ b → is_own end ≡ true
  is_its_own s true end runs is m = memory_own end (ap is_memory (sym is) ∙ m)
  is_its_own s false end runs is m =
      let was : old.ended ≡ end_of (history policy old.mode s.events) = (s.stands.holds (ap is_memory runs)).end_is in
      let now : new.ended ≡ end_of (history policy new.mode (event ∷ s.events)) = ((step s.events s.taken s.stands).holds m).end_is in
      event_end policy old.mode s.events event plain (sym was ∙ runs) end (ap (λ (x : Mode). end_of (history policy x (event ∷ s.events))) (sym mode) ∙ sym now ∙ is)

  -- one way or the other
  decided : (end : End) (b : Bool) → is_own end ≡ b → (StoodFor policy old → is_own end ≡ true) → Stood policy old → is_own end ≡ true
  decided end true e own s = e
  decided end false e own s = absurd (not_there s (λ (w : StoodFor policy old). let t : is_own end ≡ true = own w in cc))

  pub event_cause : Stood policy old → (end : End) → new.ended ≡ Some end → (old.ended ≡ Some end) ⊎ Cause n end before after
  event_cause s end is = by old.ended refl
    where
      by : (o : Option End) → old.ended ≡ o → (old.ended ≡ Some end) ⊎ Cause n end before after
      by None e = inr (own_cause n end before after (decided end (is_own end) refl (λ (w : StoodFor policy old). is_its_own w (is_memory new.ended) end e is refl) s))
      by (Some x) e = inl (e ∙ sym (kept x e) ∙ is)
