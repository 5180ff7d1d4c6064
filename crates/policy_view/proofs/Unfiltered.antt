-- A session that doesn't filter: its items are lines and raw bytes, and all of them are passed on.
use Rattle.std.proofs.Common.{ℕ, ◌≡◌, ◌+◌, nat_le, Bool, true, false, cond, if◌then◌else◌, List, [], ◌∷◌, ◌++◌, length, map, Option, Some, None, refl, ap, ap₂, ◌∙◌, sym, subst, append_assoc, append-nil, inl, inr}
use Rattle.std.specs.Prelude.{◌⊎◌, flat_map}
use Rattle.std.specs.List.{AllByRecursion}
use Rattle.std.proofs.lemmas.Grind.{flat_map-append}
use Rattle.std.proofs.lemmas.List.{map-append}
use Rattle.std.proofs.lemmas.List.Folds.{flat_map-map}
use Rattle.std.proofs.lemmas.Option.{none-some}
use Rattle.dbus_header.specs.Message.{Message}
use Rattle.policy_args.specs.Policy.{Policy}
use Rattle.sasl_watch.specs.Lines.{after_begin, after_lines, asked, bus_lines, client_lines, for_bus, has_begun, joined}
use Rattle.sasl_watch.proofs.LinesGrow.{bus_lines-append, bus_is_whole, client_is_whole}
use Rattle.sasl_watch.proofs.LinesLaws.{Begins, client_lines-append}
use Rattle.policy_view.specs.History.{Event, Bytes, Finished, Stopped, arrived, content, end_if, end_of, fault, fault_end, fault_in, first_fault, finished, followed_by, followed_by_all, followed_unless, found, history, is_over, line_fault, lines, malformed, messages_in, most_sent, new_in, placed, raw, raw_in, raw_item, stream, taken_of}
use Rattle.policy_view.specs.Laws.{PassesAll}
use Rattle.policy_view.specs.Notes.{Note, numbered}
use Rattle.policy_view.specs.Outputs.{bus_bytes, client_bytes, to_bus, to_client}
use Rattle.policy_view.specs.Past.{Item, Line, Msg, Raw, Ended, History, after, due, past}
use Rattle.policy_view.specs.Sent.{Past, Sent, nothing_before}
use Rattle.policy_view.specs.declared.End.{End}
use Rattle.policy_view.specs.declared.End.TheVariants.{SerialsSpent}
use Rattle.policy_view.specs.declared.Fault.{Fault}
use Rattle.policy_view.specs.declared.Mode.{Mode}
use Rattle.policy_view.specs.declared.Side.{Side}
use Rattle.policy_view.specs.declared.Side.TheVariants.{Client, Bus}
use Rattle.policy_view.proofs.CutLaws.{brought_three, end_follows, new_last, parts}
use Rattle.policy_view.proofs.PastLaws.{ended_all, ended_is_final}
use Rattle.policy_view.proofs.Streams.{Grown, Unmoved, apart, bus_apart_client, bus_kept, client_by, client_stream, grows, stream_more}

-- ---- items that are no messages

-- a line, or raw bytes
abbrev IsPlain : Item → Type 0
IsPlain (Line side bytes) = Unit {0}
IsPlain (Msg side m) = ⊥
IsPlain (Raw side bytes) = Unit {0}
IsPlain (Ended end) = ⊥

-- the bytes that a history gave, which sent nothing of its own and noted nothing
record Gave (policy : Policy) (h : History) (bus client : List ℕ) : Type 0 where
  to_bus : bus_bytes policy h ≡ bus
  to_client : client_bytes policy h ≡ client
  past_is : past policy h ≡ nothing_before
  noted : numbered policy h ≡ ([], 0)

-- an item that causes no message is kept unchanged
followed_is : (policy : Policy) (h : History) (item : Item) → due policy nothing_before item ≡ [] → past policy h ≡ nothing_before → end_of h ≡ None → followed_by policy h item ≡ item ∷ h
unfolding followed_by placed nothing_before
followed_is policy h item quiet is running =
    ap (λ (o : Option End). followed_unless o policy h item) running
    ∙ ap (λ (before : Past). placed policy before item ∷ h) is
    ∙ ap (λ (ds : List Sent). (if nat_le (0 + length ds) most_sent then item else Ended SerialsSpent) ∷ h) quiet

none_due : (policy : Policy) (item : Item) → IsPlain item → due policy nothing_before item ≡ []
unfolding due
none_due policy (Line side bytes) plain = refl
none_due policy (Msg side m) plain = absurd plain
none_due policy (Raw side bytes) plain = refl
none_due policy (Ended end) plain = absurd plain

no_end : (h : History) (item : Item) → IsPlain item → end_of h ≡ None → end_of (item ∷ h) ≡ None
no_end h (Line side bytes) plain e = e
no_end h (Msg side m) plain e = absurd plain
no_end h (Raw side bytes) plain e = e
no_end h (Ended end) plain e = absurd plain

module _ (policy : Policy) where
  abbrev bus_has : Item → List ℕ
  bus_has item = to_bus policy nothing_before item

  abbrev client_has : Item → List ℕ
  client_has item = to_client policy nothing_before item

  with_item : (h : History) (item : Item) (bus client : List ℕ) → IsPlain item → Gave policy h bus client → Gave policy (item ∷ h) (bus ++ bus_has item) (client ++ client_has item)
  unfolding bus_bytes client_bytes past after numbered
  with_item h (Line side bytes) bus client plain g = record {
    to_bus = ap₂ (λ (b : List ℕ) (before : Past). b ++ to_bus policy before (Line side bytes)) g.to_bus g.past_is;
    to_client = ap₂ (λ (b : List ℕ) (before : Past). b ++ to_client policy before (Line side bytes)) g.to_client g.past_is;
    past_is = g.past_is;
    noted = g.noted;
  }
  with_item h (Msg side m) bus client plain g = absurd plain
  with_item h (Raw side bytes) bus client plain g = record {
    to_bus = ap₂ (λ (b : List ℕ) (before : Past). b ++ to_bus policy before (Raw side bytes)) g.to_bus g.past_is;
    to_client = ap₂ (λ (b : List ℕ) (before : Past). b ++ to_client policy before (Raw side bytes)) g.to_client g.past_is;
    past_is = g.past_is;
    noted = g.noted;
  }
  with_item h (Ended end) bus client plain g = absurd plain

  same_gave : (h : History) (bus bus_now client client_now : List ℕ) → bus ≡ bus_now → client ≡ client_now → Gave policy h bus client → Gave policy h bus_now client_now
  same_gave h bus bus_now client client_now b c g = record { to_bus = g.to_bus ∙ b; to_client = g.to_client ∙ c; past_is = g.past_is; noted = g.noted }

  with_items : (items : List Item) (h : History) (bus client : List ℕ) → AllByRecursion IsPlain items → end_of h ≡ None → Gave policy h bus client
      → Gave policy (followed_by_all policy h items) (bus ++ flat_map bus_has items) (client ++ flat_map client_has items) × (end_of (followed_by_all policy h items) ≡ None)
  unfolding followed_by_all
  with_items [] h bus client plain e g = (same_gave h _ _ _ _ (sym (append-nil bus)) (sym (append-nil client)) g, e)
  with_items (item ∷ items) h bus client plain e g =
      let is = followed_is policy h item (none_due policy item plain.0) g.past_is e in
      let r = with_items items (item ∷ h) (bus ++ bus_has item) (client ++ client_has item) plain.1 (no_end h item plain.0 e) (with_item h item bus client plain.0 g) in (
        rw is (same_gave _ _ _ _ _ (append_assoc bus (bus_has item) (flat_map bus_has items)) (append_assoc client (client_has item) (flat_map client_has items)) r.0),
        rw is r.1,
      )

  -- an End gives nothing
  with_end : (h : History) (end : End) (bus client : List ℕ) → end_of h ≡ None → Gave policy h bus client → Gave policy (followed_by policy h (Ended end)) bus client
  unfolding due bus_bytes client_bytes to_bus to_client past after numbered
  with_end h end bus client e g = rw (followed_is policy h (Ended end) refl g.past_is e) (record {
    to_bus = append-nil (bus_bytes policy h) ∙ g.to_bus;
    to_client = append-nil (client_bytes policy h) ∙ g.to_client;
    past_is = g.past_is;
    noted = g.noted;
  })

  abbrev ends : Side → Option Fault → Bool → List Item
  ends side f over = fault_end side f ++ end_if over (finished side)

  end_first : (h : History) (end : End) (items : List Item) → followed_by_all policy h (Ended end ∷ items) ≡ followed_by policy h (Ended end)
  unfolding followed_by_all
  end_first h end items =
      let there = end_follows policy h end in
      ended_all policy (followed_by policy h (Ended end)) items there.0 there.1

  with_ends : (h : History) (side : Side) (f : Option Fault) (over : Bool) (bus client : List ℕ) → end_of h ≡ None → Gave policy h bus client → Gave policy (followed_by_all policy h (ends side f over)) bus client
  unfolding followed_by_all
  with_ends h side None false bus client e g = g
  with_ends h side None true bus client e g = with_end h (finished side) bus client e g
  with_ends h side (Some f) over bus client e g = rw (end_first h (malformed side f) (end_if over (finished side))) (with_end h (malformed side f) bus client e g)

  no_ends : (h : History) (side : Side) (f : Option Fault) (over : Bool) → f ≡ None → over ≡ false → followed_by_all policy h (ends side f over) ≡ h
  unfolding followed_by_all
  no_ends h side f over none room = ap₂ (λ (o : Option Fault) (b : Bool). followed_by_all policy h (ends side o b)) none room

  -- if no End follows, there is no fault
  no_fault : (h : History) (side : Side) (f : Option Fault) (over : Bool) → end_of (followed_by_all policy h (ends side f over)) ≡ None → f ≡ None
  no_fault h side None over e = refl
  no_fault h side (Some f) over e =
      let there = end_follows policy h (malformed side f) in
      absurd (none-some there.0 (sym e ∙ ap end_of (end_first h (malformed side f) (end_if over (finished side))) ∙ there.1))

-- ---- what a piece brings

no_messages : (c : Option (List ℕ)) → messages_in false c ≡ []
no_messages None = refl
no_messages (Some bytes) = refl

found_lines : (mode : Mode) (side : Side) (events : List Event) → mode.filter ≡ false → found mode side events ≡ map (Line side) (lines mode side events)
unfolding found
found_lines mode side events e =
    let ls = map (Line side) (lines mode side events) in
    ap (λ (b : Bool). ls ++ map (Msg side) (messages_in b (content mode side events))) e
    ∙ ap (λ (ms : List Message). ls ++ map (Msg side) ms) (no_messages (content mode side events))
    ∙ append-nil ls

begins_if : (auth : Bool) (one two : List (List ℕ)) → Begins one two → Begins (cond auth one []) (cond auth two [])
begins_if true one two b = b
begins_if false one two b = ([], refl)

lines_more : (mode : Mode) (side : Side) (events : List Event) (piece : List ℕ) → Begins (lines mode side events) (lines mode side (Bytes side piece ∷ events))
unfolding lines
lines_more mode Client events piece = rw (stream_more Client events piece) (begins_if mode.auth _ _ (client_lines-append (stream Client events) (taken_of Client events piece)))
lines_more mode Bus events piece =
    rw (stream_more Bus events piece, client_stream events piece)
    (begins_if mode.auth _ _ (bus_lines-append (asked (stream Client events)) (stream Bus events) (taken_of Bus events piece)))

plain_lines : (side : Side) (ls : List (List ℕ)) → AllByRecursion IsPlain (map (Line side) ls)
plain_lines side [] = tt
plain_lines side (l ∷ ls) = (tt, plain_lines side ls)

plain_raw : (side : Side) (bytes : List ℕ) → AllByRecursion IsPlain (raw_item side bytes)
plain_raw side [] = tt
plain_raw side (b ∷ bytes) = (tt, tt)

none_more : (side : Side) (ls : List (List ℕ)) → map (Line side) ls ≡ [] → ls ≡ []
none_more side [] e = refl
none_more side (l ∷ ls) e = absurd cc

-- the lines and bytes that are new on a side; no line follows bytes
record Brings (mode : Mode) (side : Side) (events : List Event) (piece : List ℕ) : Type 0 where
  more : List (List ℕ)
  bytes : List ℕ
  lines_are : lines mode side (Bytes side piece ∷ events) ≡ lines mode side events ++ more
  found_is : found mode side (Bytes side piece ∷ events) ≡ found mode side events ++ map (Line side) more
  raw_is : raw mode side (Bytes side piece ∷ events) ≡ raw mode side events ++ bytes
  in_order : (raw mode side events ≡ []) ⊎ (more ≡ [])

brings : (mode : Mode) (side : Side) (events : List Event) (piece : List ℕ) → mode.filter ≡ false → Brings mode side events piece
brings mode side events piece e =
    record { more = m.0; bytes = g.bytes; lines_are = m.1; found_is = is; raw_is = g.raw_is; in_order = order g.in_order }
  where
    m : Begins (lines mode side events) (lines mode side (Bytes side piece ∷ events))
    m = lines_more mode side events piece

    g : Grown mode side events piece
    g = grows mode side events piece

    is : found mode side (Bytes side piece ∷ events) ≡ found mode side events ++ map (Line side) m.0
    is = found_lines mode side (Bytes side piece ∷ events) e ∙ ap (map (Line side)) m.1
        ∙ map-append (Line side) (lines mode side events) m.0
        ∙ ap (λ (t : List Item). t ++ map (Line side) m.0) (sym (found_lines mode side events e))

    same : map (Line side) m.0 ≡ g.items
    same = sym (new_last (found mode side events) (map (Line side) m.0)) ∙ ap (new_in (found mode side events)) (sym is ∙ g.found_is) ∙ new_last (found mode side events) g.items

    order : (raw mode side events ≡ []) ⊎ (g.items ≡ []) → (raw mode side events ≡ []) ⊎ (m.0 ≡ [])
    order (inl none) = inl none
    order (inr none) = inr (none_more side m.0 (same ∙ none))

-- only a line is at fault
no_line_fault : (mode : Mode) (side : Side) (events : List Event) → mode.filter ≡ false → line_fault mode side events ≡ None → fault mode side events ≡ None
unfolding fault
no_line_fault mode side events e none =
    ap₂ (λ (o : Option Fault) (b : Bool). first_fault o (fault_in b (content mode side events))) none e ∙ no_bad (content mode side events)
  where
    no_bad : (c : Option (List ℕ)) → fault_in false c ≡ None
    no_bad None = refl
    no_bad (Some bytes) = refl

-- ---- the bytes of lines, and those after them

nothing_from : (ls : List (List ℕ)) → flat_map {A = ℕ} (λ l. []) ls ≡ []
nothing_from [] = refl
nothing_from (l ∷ ls) = nothing_from ls

client_lines_out : (policy : Policy) (ls : List (List ℕ)) → (flat_map (bus_has policy) (map (Line Client) ls) ≡ flat_map for_bus ls) × (flat_map (client_has policy) (map (Line Client) ls) ≡ [])
unfolding to_bus to_client
client_lines_out policy ls = (flat_map-map (bus_has policy) (Line Client) ls, flat_map-map (client_has policy) (Line Client) ls ∙ nothing_from ls)

bus_lines_out : (policy : Policy) (ls : List (List ℕ)) → (flat_map (bus_has policy) (map (Line Bus) ls) ≡ []) × (flat_map (client_has policy) (map (Line Bus) ls) ≡ joined ls)
unfolding to_bus to_client
bus_lines_out policy ls = (flat_map-map (bus_has policy) (Line Bus) ls ∙ nothing_from ls, flat_map-map (client_has policy) (Line Bus) ls)

client_raw_out : (policy : Policy) (bytes : List ℕ) → (flat_map (bus_has policy) (raw_item Client bytes) ≡ bytes) × (flat_map (client_has policy) (raw_item Client bytes) ≡ [])
unfolding to_bus to_client
client_raw_out policy [] = (refl, refl)
client_raw_out policy (b ∷ bytes) = (append-nil (b ∷ bytes), refl)

bus_raw_out : (policy : Policy) (bytes : List ℕ) → (flat_map (bus_has policy) (raw_item Bus bytes) ≡ []) × (flat_map (client_has policy) (raw_item Bus bytes) ≡ bytes)
unfolding to_bus to_client
bus_raw_out policy [] = (refl, refl)
bus_raw_out policy (b ∷ bytes) = (refl, append-nil (b ∷ bytes))

-- new lines and new bytes follow what was given, as bytes follow the lines
behind : (f : List ℕ → List ℕ) (ls more : List (List ℕ)) (r bytes : List ℕ) → (r ≡ []) ⊎ (more ≡ []) → ((flat_map f ls ++ r) ++ flat_map f more) ++ bytes ≡ flat_map f (ls ++ more) ++ (r ++ bytes)
behind f ls more r bytes (inl e) =
    ap (λ (t : List ℕ). ((flat_map f ls ++ t) ++ flat_map f more) ++ bytes) e
    ∙ ap (λ (t : List ℕ). (t ++ flat_map f more) ++ bytes) (append-nil (flat_map f ls))
    ∙ ap (λ (t : List ℕ). t ++ bytes) (sym (flat_map-append f ls more))
    ∙ ap (λ (t : List ℕ). flat_map f (ls ++ more) ++ (t ++ bytes)) (sym e)
behind f ls more r bytes (inr e) =
    ap (λ (t : List (List ℕ)). ((flat_map f ls ++ r) ++ flat_map f t) ++ bytes) e
    ∙ ap (λ (t : List ℕ). t ++ bytes) (append-nil (flat_map f ls ++ r))
    ∙ append_assoc (flat_map f ls) r bytes
    ∙ ap (λ (t : List (List ℕ)). flat_map f t ++ (r ++ bytes)) (sym (append-nil ls))
    ∙ ap (λ (t : List (List ℕ)). flat_map f (ls ++ t) ++ (r ++ bytes)) (sym e)

-- nothing is given to the other side
none_behind : (given x y : List ℕ) → x ≡ [] → y ≡ [] → (given ++ x) ++ y ≡ given
none_behind given x y e f = ap₂ (λ (s t : List ℕ). (given ++ s) ++ t) e f ∙ append-nil (given ++ []) ∙ append-nil given

-- ---- each event

abbrev to_the_bus : Mode → List Event → List ℕ
to_the_bus mode events = flat_map for_bus (lines mode Client events) ++ raw mode Client events

abbrev to_the_client : Mode → List Event → List ℕ
to_the_client mode events = joined (lines mode Bus events) ++ raw mode Bus events

-- what the events gave; while there is no End, neither stream has a fault
record Passed (policy : Policy) (mode : Mode) (events : List Event) : Type 0 where
  gave : Gave policy (history policy mode events) (to_the_bus mode events) (to_the_client mode events)
  sound : end_of (history policy mode events) ≡ None → (side : Side) → fault mode side events ≡ None

no_fault_yet : (auth notes : Bool) (side : Side) → fault (record { auth = auth; filter = false; notes = notes }) side [] ≡ None
unfolding content fault stream
no_fault_yet true notes Client = refl
no_fault_yet true notes Bus = refl
no_fault_yet false notes Client = refl
no_fault_yet false notes Bus = refl

passed_none : (policy : Policy) (auth notes : Bool) → Passed policy (record { auth = auth; filter = false; notes = notes }) []
unfolding history bus_bytes client_bytes past numbered lines content raw stream
passed_none policy true notes = record { gave = record { to_bus = refl; to_client = refl; past_is = refl; noted = refl }; sound = λ k. no_fault_yet true notes }
passed_none policy false notes = record { gave = record { to_bus = refl; to_client = refl; past_is = refl; noted = refl }; sound = λ k. no_fault_yet false notes }

module _ (policy : Policy) (mode : Mode) (unfiltered : mode.filter ≡ false) where
  -- what a piece adds to what was given
  with_piece : (side : Side) (events : List Event) (piece : List ℕ) (bus client : List ℕ) (b : Brings mode side events piece) → end_of (history policy mode events) ≡ None → Gave policy (history policy mode events) bus client →
      Gave policy (history policy mode (Bytes side piece ∷ events))
      ((bus ++ flat_map (bus_has policy) (map (Line side) b.more)) ++ flat_map (bus_has policy) (raw_item side b.bytes))
      ((client ++ flat_map (client_has policy) (map (Line side) b.more)) ++ flat_map (client_has policy) (raw_item side b.bytes))
      × (end_of (history policy mode (Bytes side piece ∷ events)) ≡ None → fault mode side (Bytes side piece ∷ events) ≡ None)
      × (fault mode side (Bytes side piece ∷ events) ≡ None → is_over side events piece ≡ false → end_of (history policy mode (Bytes side piece ∷ events)) ≡ None)
  unfolding history arrived
  with_piece side events piece bus client b e g =
      let h = history policy mode events in
      let f = fault mode side (Bytes side piece ∷ events) in
      let over = is_over side events piece in
      let one = with_items policy (map (Line side) b.more) h bus client (plain_lines side b.more) e g in
      let two = with_items policy (raw_item side b.bytes) (followed_by_all policy h (map (Line side) b.more)) _ _ (plain_raw side b.bytes) one.1 one.0 in
      let is : history policy mode (Bytes side piece ∷ events) ≡ followed_by_all policy (followed_by_all policy (followed_by_all policy h (map (Line side) b.more)) (raw_item side b.bytes)) (ends policy side f over) =
      ap (followed_by_all policy h) (brought_three mode side events piece (map (Line side) b.more) b.bytes b.found_is b.raw_is)
      ∙ parts policy h (map (Line side) b.more) (raw_item side b.bytes) (ends policy side f over) in (
        rw is (with_ends policy _ side f over _ _ two.1 two.0),
        λ k. no_fault policy _ side f over (sym (ap end_of is) ∙ k),
        λ none room. ap end_of (is ∙ no_ends policy _ side f over none room) ∙ two.1,
      )

  with_client : (events : List Event) (piece : List ℕ) → end_of (history policy mode events) ≡ None → Passed policy mode events → Passed policy mode (Bytes Client piece ∷ events)
  with_client events piece e before =
      let p = with_piece Client events piece (to_the_bus mode events) (to_the_client mode events) b e before.gave in
      record { gave = same_gave policy _ _ _ _ _ bus_is client_is p.0; sound = λ k. sound (p.1 k) }
    where
      b : Brings mode Client events piece
      b = brings mode Client events piece unfiltered

      still : Unmoved mode Bus events (Bytes Client piece ∷ events) None
      still = apart mode events piece (before.sound e Bus)

      bus_is : (to_the_bus mode events ++ flat_map (bus_has policy) (map (Line Client) b.more)) ++ flat_map (bus_has policy) (raw_item Client b.bytes) ≡ to_the_bus mode (Bytes Client piece ∷ events)
      bus_is =
          ap₂ (λ (s t : List ℕ). (to_the_bus mode events ++ s) ++ t) (client_lines_out policy b.more).0 (client_raw_out policy b.bytes).0
          ∙ behind for_bus (lines mode Client events) b.more (raw mode Client events) b.bytes b.in_order
          ∙ sym (ap₂ (λ (ls : List (List ℕ)) (r : List ℕ). flat_map for_bus ls ++ r) b.lines_are b.raw_is)

      client_is : (to_the_client mode events ++ flat_map (client_has policy) (map (Line Client) b.more)) ++ flat_map (client_has policy) (raw_item Client b.bytes) ≡ to_the_client mode (Bytes Client piece ∷ events)
      client_is =
          none_behind (to_the_client mode events) _ _ (client_lines_out policy b.more).1 (client_raw_out policy b.bytes).1
          ∙ sym (ap₂ (λ (ls : List (List ℕ)) (r : List ℕ). joined ls ++ r) (bus_kept mode events piece (before.sound e Bus)).lines_is still.raw_is)

      sound : fault mode Client (Bytes Client piece ∷ events) ≡ None → (side : Side) → fault mode side (Bytes Client piece ∷ events) ≡ None
      sound own Client = own
      sound own Bus = still.fault_is

  with_bus : (events : List Event) (piece : List ℕ) → end_of (history policy mode events) ≡ None → Passed policy mode events → Passed policy mode (Bytes Bus piece ∷ events)
  with_bus events piece e before =
      let p = with_piece Bus events piece (to_the_bus mode events) (to_the_client mode events) b e before.gave in
      record { gave = same_gave policy _ _ _ _ _ bus_is client_is p.0; sound = λ k. sound (p.1 k) }
    where
      b : Brings mode Bus events piece
      b = brings mode Bus events piece unfiltered

      still : Unmoved mode Client events (Bytes Bus piece ∷ events) (fault mode Client events)
      still = bus_apart_client mode events piece

      bus_is : (to_the_bus mode events ++ flat_map (bus_has policy) (map (Line Bus) b.more)) ++ flat_map (bus_has policy) (raw_item Bus b.bytes) ≡ to_the_bus mode (Bytes Bus piece ∷ events)
      bus_is =
          none_behind (to_the_bus mode events) _ _ (bus_lines_out policy b.more).0 (bus_raw_out policy b.bytes).0
          ∙ sym (ap₂ (λ (ls : List (List ℕ)) (r : List ℕ). flat_map for_bus ls ++ r) (client_by mode (Bytes Bus piece ∷ events) events (client_stream events piece)).0 still.raw_is)

      client_is : (to_the_client mode events ++ flat_map (client_has policy) (map (Line Bus) b.more)) ++ flat_map (client_has policy) (raw_item Bus b.bytes) ≡ to_the_client mode (Bytes Bus piece ∷ events)
      client_is =
          ap₂ (λ (s t : List ℕ). (to_the_client mode events ++ s) ++ t) (bus_lines_out policy b.more).1 (bus_raw_out policy b.bytes).1
          ∙ behind (λ l. l) (lines mode Bus events) b.more (raw mode Bus events) b.bytes b.in_order
          ∙ sym (ap₂ (λ (ls : List (List ℕ)) (r : List ℕ). joined ls ++ r) b.lines_are b.raw_is)

      sound : fault mode Bus (Bytes Bus piece ∷ events) ≡ None → (side : Side) → fault mode side (Bytes Bus piece ∷ events) ≡ None
      sound own Client = still.fault_is ∙ before.sound e Client
      sound own Bus = own

  -- an event that only ends the session
  with_last : (event : Event) (events : List Event) (end : End) → history policy mode (event ∷ events) ≡ followed_by policy (history policy mode events) (Ended end)
      → to_the_bus mode events ≡ to_the_bus mode (event ∷ events) → to_the_client mode events ≡ to_the_client mode (event ∷ events)
      → end_of (history policy mode events) ≡ None → Passed policy mode events → Passed policy mode (event ∷ events)
  with_last event events end is bus_is client_is e before =
      let there = end_follows policy (history policy mode events) end in
      record {
        gave = rw is (same_gave policy _ _ _ _ _ bus_is client_is (with_end policy (history policy mode events) end _ _ e before.gave));
        sound = λ k side. absurd (none-some there.0 (sym k ∙ ap end_of is ∙ there.1));
      }

  step : (event : Event) (events : List Event) → end_of (history policy mode events) ≡ None → Passed policy mode events → Passed policy mode (event ∷ events)
  unfolding history arrived followed_by_all lines content raw stream
  step (Bytes Client piece) events e before = with_client events piece e before
  step (Bytes Bus piece) events e before = with_bus events piece e before
  step (Finished side) events e before = with_last (Finished side) events (finished side) refl refl refl e before
  step (Stopped end) events e before = with_last (Stopped end) events end refl refl refl e before

  still_running : (event : Event) (events : List Event) → end_of (history policy mode (event ∷ events)) ≡ None → end_of (history policy mode events) ≡ None
  still_running event events e = by (end_of (history policy mode events)) refl
    where
      by : (o : Option End) → end_of (history policy mode events) ≡ o → end_of (history policy mode events) ≡ None
      by None k = k
      by (Some end) k = absurd (none-some end (sym e ∙ ap end_of (ended_is_final policy mode events event end k) ∙ k))

  at_start : Passed policy mode []
  at_start = subst (λ (b : Bool). Passed policy (record mode { filter = b }) []) (sym unfiltered) (passed_none policy mode.auth mode.notes)

  passed : (events : List Event) → end_of (history policy mode events) ≡ None → Passed policy mode events
  passed [] e = at_start
  passed (event ∷ events) e = let k = still_running event events e in step event events k (passed events k)

  -- without lines there is nothing but what follows them
  client_whole : (events : List Event) → mode.auth ≡ false → to_the_bus mode events ≡ stream Client events
  unfolding lines content raw
  client_whole events e = rw (e, unfiltered) refl

  bus_whole : (events : List Event) → mode.auth ≡ false → to_the_client mode events ≡ stream Bus events
  unfolding lines content raw
  bus_whole events e = rw (e, unfiltered) refl

  -- and with lines, what follows them is the rest of the stream
  client_all : (events : List Event) → mode.auth ≡ true → has_begun (stream Client events) ≡ true → joined (lines mode Client events) ++ raw mode Client events ≡ stream Client events
  unfolding lines content raw
  client_all events e begun =
      ap (λ (a : Bool). given a mode.filter (has_begun C)) e ∙ ap (λ (b : Bool). given true b (has_begun C)) unfiltered ∙ ap (given true false) begun ∙ client_is_whole C begun
    where
      C : List ℕ
      C = stream Client events

      given : Bool → Bool → Bool → List ℕ
      given auth filter b = joined (cond auth (client_lines C) []) ++ raw_in filter (cond auth (cond b (Some (after_begin C)) None) (Some C))

  bus_all : (events : List Event) → mode.auth ≡ true → has_begun (stream Client events) ≡ true → length (lines mode Bus events) ≡ asked (stream Client events) → to_the_client mode events ≡ stream Bus events
  unfolding lines content raw
  bus_all events e begun all =
      ap (λ (a : Bool). given a mode.filter (has_begun C)) e ∙ ap (λ (b : Bool). given true b (has_begun C)) unfiltered ∙ ap (given true false) begun
      ∙ bus_is_whole (asked C) S (sym (ap (λ (a : Bool). length (cond a (bus_lines (asked C) S) [])) e) ∙ all)
    where
      C : List ℕ
      C = stream Client events

      S : List ℕ
      S = stream Bus events

      given : Bool → Bool → Bool → List ℕ
      given auth filter b = joined (cond auth (bus_lines (asked C) S) []) ++ raw_in filter (cond auth (cond b (Some (after_lines (asked C) S)) None) (Some S))

  all_passed : (events : List Event) → Passed policy mode events → PassesAll policy mode events
  unfolding nothing_before
  all_passed events p = record {
    to_bus = p.gave.to_bus;
    to_client = p.gave.to_client;
    whole_to_bus = λ e. p.gave.to_bus ∙ client_whole events e;
    whole_to_client = λ e. p.gave.to_client ∙ bus_whole events e;
    begun = client_all events;
    answered = λ e begun all. p.gave.to_client ∙ bus_all events e begun all;
    sent = ap (λ (before : Past). before.told.sent) p.gave.past_is;
    noted = ap (λ (so_far : List Note × ℕ). so_far.0) p.gave.noted;
  }

  pub passes_none : PassesAll policy mode []
  passes_none = all_passed [] at_start

  pub passes_each : (event : Event) (events : List Event) → end_of (history policy mode events) ≡ None → PassesAll policy mode (event ∷ events)
  passes_each event events e = all_passed (event ∷ events) (step event events e (passed events e))

  pub goes_on : (side : Side) (piece : List ℕ) (events : List Event) → end_of (history policy mode events) ≡ None → line_fault mode side (Bytes side piece ∷ events) ≡ None → is_over side events piece ≡ false
      → end_of (history policy mode (Bytes side piece ∷ events)) ≡ None
  goes_on side piece events e none room =
      (with_piece side events piece (to_the_bus mode events) (to_the_client mode events) (brings mode side events piece unfiltered) e (passed events e).gave).2
      (no_line_fault mode side (Bytes side piece ∷ events) unfiltered none) room
