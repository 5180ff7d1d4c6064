-- How far a side's stream was processed, within a piece.
use Rattle.std.proofs.Common.{ℕ, zero, suc, ◌≡◌, ◌+◌, ◌-◌, ◌≤◌, ◌<◌, Bool, true, false, cond, List, [], ◌∷◌, ◌++◌, length, take, map, Option, Some, None, refl, ap, ◌∙◌, sym, subst, arith, append-nil, append_assoc, length-append, inl, inr}
use Rattle.std.specs.Prelude.{◌||◌, ◌⊎◌, nat_lt}
use Rattle.std.specs.List.{list_any}
use Rattle.std.proofs.lemmas.List.{map-append}
use Rattle.std.proofs.lemmas.Bool.Decides.{nat_tests}
use Rattle.byte_lists.proofs.Options.{some}
use Rattle.dbus_header.specs.Message.{Message}
use Rattle.dbus_header.specs.Malformed.{front, fault as message_fault}
use Rattle.dbus_header.specs.Stream.{split, messages, rest}
use Rattle.dbus_header.proofs.StreamLaws.{split-front}
use Rattle.dbus_header.proofs.FaultStays.{split_none}
use Rattle.sasl_watch.specs.Lines.{Cut, through, is_begin, client_lines, has_begun, after_begin, asked, client_fault, bus_lines, after_lines, bus_fault}
use Rattle.sasl_watch.specs.Watching.{client_ahead, bus_ahead}
use Rattle.sasl_watch.specs.Following.{ClientFollows, BusFollows, BusEnds, BusWaits}
use Rattle.sasl_watch.specs.declared.LineFault.{LineFault}
use Rattle.sasl_watch.specs.declared.LineKind.TheVariants.{EarlyBus}
use Rattle.sasl_watch.proofs.LinesGrow.{fewer_then_none}
use Rattle.policy_view.specs.Past.{Item, Line, Msg}
use Rattle.policy_view.specs.History.{Event, stream, lines, content, messages_in, bytes_in, raw_in, found, raw, raw_item, new_in, fault, fault_in, fault_of, fault_of_line, line_fault, first_fault}
use Rattle.policy_view.specs.declared.Fault.{Fault}
use Rattle.policy_view.specs.declared.Fault.TheVariants.{Line as OfLine}
use Rattle.policy_view.specs.declared.Mode.{Mode}
use Rattle.policy_view.specs.declared.Side.{Side}
use Rattle.policy_view.specs.declared.Side.TheVariants.{Client, Bus}
use Rattle.proxy_core.specs.Streams.{StreamView, Phase, InLines, InMessages}
use Rattle.policy_view.proofs.CutLaws.{new_last}
use Rattle.proxy_core.specs.Sessions.{FollowsLines, lines_in, rest_of, AllGiven, StandsAt}
use Rattle.proxy_core.proofs.LineCuts.{sound_at, behind, ClientGoes, client_waits, client_fails, BusGoes, bus_waits, bus_waits_for_begin, bus_ends, bus_fails, bus_early}

-- ---- where a stream is

-- the number of lines that were counted, of those that were given
abbrev pub Counts : Side → List Event → ℕ → ℕ → Type 0
Counts Client events n given = n ≡ given - 1
Counts Bus events n given = (n ≡ given) × (given ≤ asked (stream Client events))

-- all items of a side, if these raw bytes were passed on before
abbrev pub reached : Mode → Side → List ℕ → List Event → List Item
reached mode side gone events = found mode side events ++ raw_item side (new_in gone (raw mode side events))

-- in its lines, of which these items were taken
pub record GoesInLines (mode : Mode) (side : Side) (gone : List ℕ) (events : List Event) (s : StreamView) (place : ℕ) (told : Option LineFault) (items : List Item) : Type 0 where
  pub auth : mode.auth ≡ true
  pub quiet : told ≡ None
  pub none_gone : gone ≡ []
  pub given : List (List ℕ)
  pub follows : FollowsLines side (stream side events) given (sound_at place s.left)
  pub counts : Counts side events s.lines (length given)
  pub items_are : items ≡ map (Line side) given

-- in messages after the lines
pub record GoesInMessages (mode : Mode) (side : Side) (events : List Event) (s : StreamView) (items : List Item) : Type 0 where
  pub filters : mode.filter ≡ true
  pub bytes : List ℕ
  pub content_is : content mode side events ≡ Some bytes
  pub given : List Message
  pub split_is : split bytes ≡ (given ++ messages s.left, rest s.left)
  pub all : AllGiven mode side events
  pub counts : mode.auth ≡ true → s.lines ≡ lines_in side mode events
  pub items_are : items ≡ map (Line side) (lines mode side events) ++ map (Msg side) given

-- or if messages aren't filtered
pub record GoesRaw (mode : Mode) (side : Side) (gone : List ℕ) (events : List Event) (s : StreamView) (items : List Item) : Type 0 where
  pub unfiltered : mode.filter ≡ false
  pub bytes : List ℕ
  pub content_is : content mode side events ≡ Some bytes
  pub bytes_are : bytes ≡ gone ++ s.left
  pub all : AllGiven mode side events
  pub counts : mode.auth ≡ true → s.lines ≡ lines_in side mode events
  pub items_are : items ≡ map (Line side) (lines mode side events)

abbrev pub GoesAt : Mode → Side → List ℕ → List Event → Phase → StreamView → List Item → Type 0
GoesAt mode side gone events (InLines place told) s items = GoesInLines mode side gone events s place told items
GoesAt mode side gone events InMessages s items = GoesInMessages mode side events s items ⊎ GoesRaw mode side gone events s items

abbrev pub Goes : Mode → Side → List ℕ → List Event → StreamView → List Item → Type 0
Goes mode side gone events s items = GoesAt mode side gone events s.phase s items

-- if nothing more can be taken: all was given, and this is the fault
pub record Stops (mode : Mode) (side : Side) (gone : List ℕ) (events : List Event) (items : List Item) (f : Option Fault) : Type 0 where
  pub found_is : reached mode side gone events ≡ items
  pub fault_is : fault mode side events ≡ f

-- ---- what was given is the first of all

begun_of : List (List ℕ) → Bool
begun_of ls = list_any is_begin ls

through_given : (given more : List (List ℕ)) → list_any is_begin given ≡ false → through is_begin (given ++ more) ≡ given ++ through is_begin more
through_given [] more e = refl
through_given (l ∷ ls) more e = by (is_begin l) refl e (through_given ls more)
  where
    by : (b : Bool) → is_begin l ≡ b → (b || list_any is_begin ls) ≡ false → (list_any is_begin ls ≡ false → through is_begin (ls ++ more) ≡ ls ++ through is_begin more)
        → through is_begin (l ∷ ls ++ more) ≡ l ∷ ls ++ through is_begin more
    by true k e ih = absurd cc
    by false k e ih = ap (λ (b : Bool). l ∷ cond b [] (through is_begin (ls ++ more))) k ∙ ap (λ (x : List (List ℕ)). l ∷ x) (ih e)

take_given : {A : Type 0} (n : ℕ) (given more : List A) → length given ≤ n → take n (given ++ more) ≡ given ++ take (n - length given) more
take_given n [] more h = ap (λ (k : ℕ). take k more) (omega arith)
take_given zero (x ∷ xs) more h = absurd (omega (arith, h))
take_given (suc n) (x ∷ xs) more h =
    ap (λ (t : List _). x ∷ t) (take_given n xs more (omega (arith, h)))
    ∙ ap (λ (k : ℕ). x ∷ xs ++ take k more) (omega arith)

abbrev pub Begins : List Item → List Item → Type 0
Begins items all = (more : List Item) × (all ≡ items ++ more)

lines_begin : (side : Side) (given more : List (List ℕ)) (ms items : List Item) → items ≡ map (Line side) given → Begins items (map (Line side) (given ++ more) ++ ms)
lines_begin side given more ms items e = (
  map (Line side) more ++ ms,
  ap (λ (x : List Item). x ++ ms) (map-append (Line side) given more) ∙ append_assoc (map (Line side) given) (map (Line side) more) ms ∙ ap (λ (x : List Item). x ++ (map (Line side) more ++ ms)) (sym e),
)

-- raw bytes follow the items
begins_then : (items all more : List Item) → Begins items all → Begins items (all ++ more)
begins_then items all more (rest, e) = (rest ++ more, ap (λ (xs : List Item). xs ++ more) e ∙ append_assoc items rest more)

found_begins : (mode : Mode) (side : Side) (gone : List ℕ) (events : List Event) (p : Phase) (s : StreamView) (items : List Item) → GoesAt mode side gone events p s items → Begins items (found mode side events)
unfolding found lines
found_begins mode Client gone events (InLines place told) s items g =
    let all : client_lines (stream Client events) ≡ g.given ++ through is_begin (client_ahead (sound_at place s.left)).lines = ap (λ (c : Cut). through is_begin c.lines) g.follows.cut ∙ through_given g.given (client_ahead (sound_at place s.left)).lines g.follows.unbegun in
    let is : cond mode.auth (client_lines (stream Client events)) [] ≡ g.given ++ through is_begin (client_ahead (sound_at place s.left)).lines = ap (λ (b : Bool). cond b (client_lines (stream Client events)) []) g.auth ∙ all in
    subst (λ (ls : List (List ℕ)). Begins items (map (Line Client) ls ++ map (Msg Client) (messages_in mode.filter (content mode Client events)))) (sym is)
    (lines_begin Client g.given (through is_begin (client_ahead (sound_at place s.left)).lines) (map (Msg Client) (messages_in mode.filter (content mode Client events))) items g.items_are)
found_begins mode Bus gone events (InLines place told) s items g =
    let n = asked (stream Client events) in
    let more = take (n - length g.given) (bus_ahead (sound_at place s.left)).lines in
    let all : bus_lines n (stream Bus events) ≡ g.given ++ more = ap (λ (c : Cut). take n c.lines) g.follows.cut ∙ take_given n g.given (bus_ahead (sound_at place s.left)).lines g.counts.1 in
    let is : cond mode.auth (bus_lines n (stream Bus events)) [] ≡ g.given ++ more = ap (λ (b : Bool). cond b (bus_lines n (stream Bus events)) []) g.auth ∙ all in
    subst (λ (ls : List (List ℕ)). Begins items (map (Line Bus) ls ++ map (Msg Bus) (messages_in mode.filter (content mode Bus events)))) (sym is)
    (lines_begin Bus g.given more (map (Msg Bus) (messages_in mode.filter (content mode Bus events))) items g.items_are)
found_begins mode side gone events InMessages s items (inl g) =
    let ms : messages_in mode.filter (content mode side events) ≡ g.given ++ messages s.left =
    ap (λ (b : Bool). messages_in b (content mode side events)) g.filters ∙ ap (messages_in true) g.content_is ∙ ap (λ (x : List Message × List ℕ). x.0) g.split_is in (
      map (Msg side) (messages s.left),
      ap (λ (x : List Message). map (Line side) (lines mode side events) ++ map (Msg side) x) ms
          ∙ ap (λ (x : List Item). map (Line side) (lines mode side events) ++ x) (map-append (Msg side) g.given (messages s.left))
          ∙ sym (append_assoc (map (Line side) (lines mode side events)) (map (Msg side) g.given) (map (Msg side) (messages s.left)))
          ∙ ap (λ (x : List Item). x ++ map (Msg side) (messages s.left)) (sym g.items_are),
    )
found_begins mode side gone events InMessages s items (inr g) =
    (map (Msg side) (messages_in mode.filter (content mode side events)), ap (λ (x : List Item). x ++ map (Msg side) (messages_in mode.filter (content mode side events))) (sym g.items_are))

pub begins : (mode : Mode) (side : Side) (gone : List ℕ) (events : List Event) (p : Phase) (s : StreamView) (items : List Item) → GoesAt mode side gone events p s items → Begins items (reached mode side gone events)
begins mode side gone events p s items g = begins_then items (found mode side events) (raw_item side (new_in gone (raw mode side events))) (found_begins mode side gone events p s items g)

-- ---- if there are no raw bytes

new_nothing : (gone : List ℕ) → new_in gone [] ≡ []
new_nothing [] = refl
new_nothing (byte ∷ bytes) = refl

none_reached : (mode : Mode) (side : Side) (gone : List ℕ) (events : List Event) → raw mode side events ≡ [] → reached mode side gone events ≡ found mode side events
none_reached mode side gone events e =
    ap (λ (xs : List ℕ). found mode side events ++ raw_item side (new_in gone xs)) e
    ∙ ap (λ (xs : List ℕ). found mode side events ++ raw_item side xs) (new_nothing gone)
    ∙ append-nil (found mode side events)

raw_filtered : (mode : Mode) (side : Side) (events : List Event) → mode.filter ≡ true → raw mode side events ≡ []
unfolding raw
raw_filtered mode side events e = ap (λ (b : Bool). raw_in b (content mode side events)) e

no_byte : (b : Bool) (bytes : List ℕ) → bytes ≡ [] → cond b [] bytes ≡ []
no_byte true bytes e = refl
no_byte false bytes e = e

-- if no byte follows the lines
pub quiet_raw : (mode : Mode) (side : Side) (events : List Event) → bytes_in (content mode side events) ≡ [] → raw mode side events ≡ []
unfolding raw
quiet_raw mode side events e = no_byte mode.filter (bytes_in (content mode side events)) e

pub quiet_messages : (filter : Bool) (c : Option (List ℕ)) → bytes_in c ≡ [] → messages_in filter c ≡ []
unfolding split
quiet_messages filter None e = refl
quiet_messages true (Some bytes) e = ap messages e
quiet_messages false (Some bytes) e = refl

-- ---- in messages

module _ (mode : Mode) (side : Side) (gone : List ℕ) (events : List Event) (s : StreamView) (items : List Item) (g : GoesInMessages mode side events s items) where
  fault_behind : line_fault mode side events ≡ None → fault mode side events ≡ fault_of (message_fault (rest s.left))
  unfolding fault
  fault_behind none =
      ap (λ (o : Option Fault). first_fault o (fault_in mode.filter (content mode side events))) none
      ∙ ap (λ (b : Bool). fault_in b (content mode side events)) g.filters
      ∙ ap (fault_in true) g.content_is
      ∙ ap (λ (x : List Message × List ℕ). fault_of (message_fault x.1)) g.split_is

  -- no message is first
  pub messages_stop : line_fault mode side events ≡ None → front s.left ≡ None → Stops mode side gone events items (fault_of (message_fault s.left))
  unfolding found
  messages_stop none e =
      let is = split_none s.left e in
      record {
        found_is = none_reached mode side gone events (raw_filtered mode side events g.filters)
            ∙ ap (λ (b : Bool). map (Line side) (lines mode side events) ++ map (Msg side) (messages_in b (content mode side events))) g.filters
            ∙ ap (λ (o : Option (List ℕ)). map (Line side) (lines mode side events) ++ map (Msg side) (messages_in true o)) g.content_is
            ∙ ap (λ (x : List Message × List ℕ). map (Line side) (lines mode side events) ++ map (Msg side) x.0) g.split_is
            ∙ ap (λ (x : List Message × List ℕ). map (Line side) (lines mode side events) ++ map (Msg side) (g.given ++ x.0)) is
            ∙ ap (λ (x : List Message). map (Line side) (lines mode side events) ++ map (Msg side) x) (append-nil g.given)
            ∙ sym g.items_are;
        fault_is = fault_behind none ∙ ap (λ (x : List Message × List ℕ). fault_of (message_fault x.1)) is;
      }

  -- and what is left then is the stream's rest
  pub messages_stand : front s.left ≡ None → StandsAt mode side events InMessages s.left
  messages_stand e = (
    g.bytes,
    g.content_is,
    sym (ap (λ (x : List Message × List ℕ). x.1) (g.split_is ∙ ap (λ (x : List Message × List ℕ). (g.given ++ x.0, x.1)) (split_none s.left e))) ∙ ap (λ (b : Bool). rest_of b g.bytes) (sym g.filters),
    g.all,
  )

  -- a message is first
  pub message_goes : (m : Message) (left : List ℕ) → front s.left ≡ Some (m, left) → GoesInMessages mode side events (record s { left = left }) (items ++ Msg side m ∷ [])
  message_goes m left e = record {
    filters = g.filters;
    bytes = g.bytes;
    content_is = g.content_is;
    given = g.given ++ m ∷ [];
    split_is = g.split_is ∙ ap (λ (x : List Message × List ℕ). (g.given ++ x.0, x.1)) (split-front s.left m left e) ∙ ap (λ (x : List Message). (x, rest left)) (sym (append_assoc g.given (m ∷ []) (messages left)));
    all = g.all;
    counts = g.counts;
    items_are = ap (λ (x : List Item). x ++ Msg side m ∷ []) g.items_are
        ∙ append_assoc (map (Line side) (lines mode side events)) (map (Msg side) g.given) (Msg side m ∷ [])
        ∙ ap (λ (x : List Item). map (Line side) (lines mode side events) ++ x) (sym (map-append (Msg side) g.given (m ∷ [])));
  }

-- ---- if messages aren't filtered

module _ (mode : Mode) (side : Side) (gone : List ℕ) (events : List Event) (s : StreamView) (items : List Item) (g : GoesRaw mode side gone events s items) where
  raw_is : raw mode side events ≡ gone ++ s.left
  unfolding raw
  raw_is = ap (λ (b : Bool). raw_in b (content mode side events)) g.unfiltered ∙ ap (raw_in false) g.content_is ∙ g.bytes_are

  only_lines : found mode side events ≡ items
  unfolding found
  only_lines =
      ap (λ (b : Bool). map (Line side) (lines mode side events) ++ map (Msg side) (messages_in b (content mode side events))) g.unfiltered
      ∙ ap (λ (o : Option (List ℕ)). map (Line side) (lines mode side events) ++ map (Msg side) (messages_in false o)) g.content_is
      ∙ append-nil (map (Line side) (lines mode side events))
      ∙ sym g.items_are

  -- all that is left is one item, and then nothing more can be taken
  pub raw_stops : line_fault mode side events ≡ None → Stops mode side gone events (items ++ raw_item side s.left) None
  unfolding fault
  raw_stops none = record {
    found_is = ap (λ (xs : List Item). xs ++ raw_item side (new_in gone (raw mode side events))) only_lines
        ∙ ap (λ (xs : List ℕ). items ++ raw_item side (new_in gone xs)) raw_is
        ∙ ap (λ (xs : List ℕ). items ++ raw_item side xs) (new_last gone s.left);
    fault_is = ap (λ (o : Option Fault). first_fault o (fault_in mode.filter (content mode side events))) none
        ∙ ap (λ (b : Bool). fault_in b (content mode side events)) g.unfiltered
        ∙ ap (fault_in false) g.content_is;
  }

  pub raw_stands : StandsAt mode side events InMessages []
  raw_stands = (g.bytes, g.content_is, ap (λ (b : Bool). rest_of b g.bytes) (sym g.unfiltered), g.all)

-- ---- after the lines

-- if these bytes follow them, and none was given yet
record Behind (mode : Mode) (side : Side) (gone : List ℕ) (events : List Event) (s : StreamView) (items : List Item) : Type 0 where
  none_gone : gone ≡ []
  content_is : content mode side events ≡ Some s.left
  all : AllGiven mode side events
  counts : mode.auth ≡ true → s.lines ≡ lines_in side mode events
  items_are : items ≡ map (Line side) (lines mode side events)

goes_behind : (mode : Mode) (side : Side) (gone : List ℕ) (events : List Event) (s : StreamView) (items : List Item) → Behind mode side gone events s items → GoesAt mode side gone events InMessages s items
goes_behind mode side gone events s items b = by mode.filter refl
  where
    by : (f : Bool) → mode.filter ≡ f → GoesInMessages mode side events s items ⊎ GoesRaw mode side gone events s items
    by true e = inl (record {
      filters = e;
      bytes = s.left;
      content_is = b.content_is;
      given = [];
      split_is = refl;
      all = b.all;
      counts = b.counts;
      items_are = b.items_are ∙ sym (append-nil (map (Line side) (lines mode side events)));
    })
    by false e = inr (record {
      unfiltered = e;
      bytes = s.left;
      content_is = b.content_is;
      bytes_are = ap (λ (xs : List ℕ). xs ++ s.left) (sym b.none_gone);
      all = b.all;
      counts = b.counts;
      items_are = b.items_are;
    })

-- ---- the client's lines

module _ (mode : Mode) (gone : List ℕ) (events : List Event) (s : StreamView) (place : ℕ) (items : List Item) (g : GoesInLines mode Client gone events s place None items) where
  abbrev C : List ℕ
  C = stream Client events

  line_added : (side : Side) (given : List (List ℕ)) (l : List ℕ) → items ≡ map (Line side) given → items ++ Line side l ∷ [] ≡ map (Line side) (given ++ l ∷ [])
  line_added side given l e = ap (λ (x : List Item). x ++ Line side l ∷ []) e ∙ sym (map-append (Line side) given (l ∷ []))

  client_quiet : has_begun C ≡ false → content mode Client events ≡ None
  unfolding content
  client_quiet b = rw (g.auth, b) refl

  client_found : (ls : List (List ℕ)) → client_lines C ≡ ls → has_begun C ≡ false → reached mode Client gone events ≡ map (Line Client) ls
  unfolding found lines
  client_found ls e b =
      none_reached mode Client gone events (quiet_raw mode Client events (ap bytes_in (client_quiet b)))
      ∙ ap (λ (o : Option (List ℕ)). map (Line Client) (cond mode.auth (client_lines C) []) ++ map (Msg Client) (messages_in mode.filter o)) (client_quiet b)
      ∙ append-nil (map (Line Client) (cond mode.auth (client_lines C) []))
      ∙ ap (λ (a : Bool). map (Line Client) (cond a (client_lines C) [])) g.auth
      ∙ ap (map (Line Client)) e

  client_fault_is : (o : Option LineFault) → client_fault C ≡ o → has_begun C ≡ false → fault mode Client events ≡ fault_of_line o
  unfolding fault content
  client_fault_is o e b =
      ap (λ (a : Bool). first_fault (cond a (fault_of_line (client_fault C)) None) (fault_in mode.filter (cond a (cond (has_begun C) (some (after_begin C)) None) (some C)))) g.auth
      ∙ ap (λ (x : Option LineFault). first_fault (fault_of_line x) (fault_in mode.filter (cond (has_begun C) (some (after_begin C)) None))) e
      ∙ ap (λ (d : Bool). first_fault (fault_of_line o) (fault_in mode.filter (cond d (some (after_begin C)) None))) b
      ∙ by o
    where
      by : (o : Option LineFault) → first_fault (fault_of_line o) None ≡ fault_of_line o
      by None = refl
      by (Some f) = refl

  pub client_stops : (client_ahead (sound_at place s.left)).lines ≡ [] → (o : Option LineFault) → (client_ahead (sound_at place s.left)).fault ≡ o → Stops mode Client gone events items (fault_of_line o)
  client_stops l None e =
      let w = client_waits C g.given place s.left g.follows l e in
      record { found_is = client_found g.given w.lines w.unbegun ∙ sym g.items_are; fault_is = client_fault_is None w.sound w.unbegun }
  client_stops l (Some f) e =
      let w = client_fails C g.given place s.left f g.follows l e in
      record { found_is = client_found g.given w.lines w.unbegun ∙ sym g.items_are; fault_is = client_fault_is (Some f) w.fault w.unbegun }

  pub client_stands : (client_ahead (sound_at place s.left)).lines ≡ [] → (client_ahead (sound_at place s.left)).fault ≡ None → StandsAt mode Client events (InLines place None) s.left × (s.lines ≡ asked C)
  unfolding lines
  client_stands l e =
      let w = client_waits C g.given place s.left g.follows l e in
      let is : cond mode.auth (client_lines C) [] ≡ g.given = ap (λ (b : Bool). cond b (client_lines C) []) g.auth ∙ w.lines in (
        (
          g.auth,
          refl,
          subst (λ (ls : List (List ℕ)). ClientFollows C ls (sound_at place s.left)) (sym is) g.follows,
          ap bytes_in (client_quiet w.unbegun),
        ),
        g.counts ∙ sym w.asked,
      )

  -- a line that isn't BEGIN
  pub client_line_goes : (l : List ℕ) (n : ℕ) → ClientGoes C g.given place s.left l → is_begin l ≡ false → (place ≡ 0 → n ≡ 0) → (0 < place → n ≡ 1)
      → GoesInLines mode Client gone events (record s { phase = InLines (place + length l) None; left = (behind place s.left l).left; lines = s.lines + n }) (place + length l) None (items ++ Line Client l ∷ [])
  client_line_goes l n c b zero_is one_is = record {
    auth = g.auth;
    quiet = refl;
    none_gone = g.none_gone;
    given = g.given ++ l ∷ [];
    follows = c.more b;
    counts = counted place refl;
    items_are = line_added Client g.given l g.items_are;
  }
    where
      more : length (g.given ++ l ∷ []) ≡ length g.given + 1
      more = length-append g.given (l ∷ [])

      some_given : (given : List (List ℕ)) (p : ℕ) → p ≡ length (Rattle.sasl_watch.specs.Lines.joined given) → 0 < p → 0 < length given
      some_given [] p e h = absurd (omega (arith, e, h))
      some_given (x ∷ xs) p e h = omega arith

      counted : (p : ℕ) → place ≡ p → s.lines + n ≡ length (g.given ++ l ∷ []) - 1
      counted zero e =
          let none : length g.given ≡ 0 = ap length (c.start e).0 in
          omega (arith, more, none, zero_is e, g.counts)
      counted (suc p) e =
          let pos : 0 < place = omega (arith, e) in
          let h = some_given g.given place g.follows.place pos in
          omega (arith, more, h, one_is pos, g.counts)

  -- BEGIN
  pub begin_goes : (l : List ℕ) → ClientGoes C g.given place s.left l → is_begin l ≡ true
      → GoesAt mode Client gone events InMessages (record s { phase = InMessages; left = (behind place s.left l).left; lines = s.lines + 0 }) (items ++ Line Client l ∷ [])
  unfolding lines content
  begin_goes l c b =
      let e = c.last b in
      goes_behind mode Client gone events (record s { phase = InMessages; left = (behind place s.left l).left; lines = s.lines + 0 }) (items ++ Line Client l ∷ [])
      (record {
        none_gone = g.none_gone;
        content_is = ap (λ (a : Bool). cond a (cond (has_begun C) (some (after_begin C)) None) (some C)) g.auth ∙ ap (λ (d : Bool). cond d (some (after_begin C)) None) e.begun ∙ ap some e.left;
        all = tt;
        counts = λ a. omega (arith, g.counts, e.asked);
        items_are = line_added Client g.given l g.items_are ∙ ap (map (Line Client)) (sym (ap (λ (b : Bool). cond b (client_lines C) []) g.auth ∙ e.lines));
      })

-- ---- the bus's lines

none_behind : (b : Bool) → bytes_in (cond b (some []) None) ≡ []
none_behind true = refl
none_behind false = refl

nothing_bad : (filter b : Bool) → fault_in filter (cond b (some []) None) ≡ None
unfolding split message_fault
nothing_bad true true = refl
nothing_bad true false = refl
nothing_bad false true = refl
nothing_bad false false = refl

module _ (mode : Mode) (gone : List ℕ) (events : List Event) (s : StreamView) (place : ℕ) (items : List Item) (g : GoesInLines mode Bus gone events s place None items) where
  abbrev n : ℕ
  n = asked (stream Client events)

  abbrev begun : Bool
  begun = has_begun (stream Client events)

  abbrev B : List ℕ
  B = stream Bus events

  -- if no byte follows the lines
  bus_content : content mode Bus events ≡ cond begun (some (after_lines n B)) None
  unfolding content
  bus_content = ap (λ (x : Bool). cond x (cond begun (some (after_lines n B)) None) (some B)) g.auth

  bus_quiet : after_lines n B ≡ [] → bytes_in (content mode Bus events) ≡ []
  bus_quiet a = ap bytes_in bus_content ∙ ap (λ (t : List ℕ). bytes_in (cond begun (some t) None)) a ∙ none_behind begun

  bus_found : (ls : List (List ℕ)) → bus_lines n B ≡ ls → bytes_in (content mode Bus events) ≡ [] → reached mode Bus gone events ≡ map (Line Bus) ls
  unfolding found lines
  bus_found ls e quiet =
      none_reached mode Bus gone events (quiet_raw mode Bus events quiet)
      ∙ ap (λ (ms : List Message). map (Line Bus) (cond mode.auth (bus_lines n B) []) ++ map (Msg Bus) ms) (quiet_messages mode.filter (content mode Bus events) quiet)
      ∙ append-nil (map (Line Bus) (cond mode.auth (bus_lines n B) []))
      ∙ ap (λ (x : Bool). map (Line Bus) (cond x (bus_lines n B) [])) g.auth
      ∙ ap (map (Line Bus)) e

  bus_fault_is : (o : Option LineFault) → bus_fault n begun B ≡ o → after_lines n B ≡ [] → fault mode Bus events ≡ fault_of_line o
  unfolding fault content
  bus_fault_is o e a =
      ap (λ (x : Bool). first_fault (cond x (fault_of_line (bus_fault n begun B)) None) (fault_in mode.filter (cond x (cond begun (some (after_lines n B)) None) (some B)))) g.auth
      ∙ ap (λ (x : Option LineFault). first_fault (fault_of_line x) (fault_in mode.filter (cond begun (some (after_lines n B)) None))) e
      ∙ ap (λ (t : List ℕ). first_fault (fault_of_line o) (fault_in mode.filter (cond begun (some t) None))) a
      ∙ by o
    where
      by : (o : Option LineFault) → first_fault (fault_of_line o) (fault_in mode.filter (cond begun (some []) None)) ≡ fault_of_line o
      by None = nothing_bad mode.filter begun
      by (Some f) = refl

  waits_stop : BusWaits B g.given n begun (sound_at place s.left) → Stops mode Bus gone events items None
  waits_stop w = record { found_is = bus_found g.given w.lines (bus_quiet w.none_left) ∙ sym g.items_are; fault_is = bus_fault_is None w.sound w.none_left }

  waits_stand : BusWaits B g.given n begun (sound_at place s.left) → StandsAt mode Bus events (InLines place None) s.left × (s.lines ≡ length (lines mode Bus events))
  unfolding lines
  waits_stand w =
      let is : cond mode.auth (bus_lines n B) [] ≡ g.given = ap (λ (b : Bool). cond b (bus_lines n B) []) g.auth ∙ w.lines in (
        (
          g.auth,
          refl,
          subst (λ (ls : List (List ℕ)). BusFollows B ls (sound_at place s.left)) (sym is) g.follows,
          bus_quiet w.none_left,
        ),
        g.counts.0 ∙ sym (ap length is),
      )

  -- the next line of the bus
  pub bus_line_goes : (l : List ℕ) → BusGoes B g.given n place s.left l
      → GoesInLines mode Bus gone events (record s { phase = InLines (place + length l) None; left = (behind place s.left l).left; lines = s.lines + 1 }) (place + length l) None (items ++ Line Bus l ∷ [])
  bus_line_goes l c =
      let more : length (g.given ++ l ∷ []) ≡ length g.given + 1 = length-append g.given (l ∷ []) in
      record {
        auth = g.auth;
        quiet = refl;
        none_gone = g.none_gone;
        given = g.given ++ l ∷ [];
        follows = c.more;
        counts = (omega (arith, g.counts.0, more), c.few);
        items_are = ap (λ (x : List Item). x ++ Line Bus l ∷ []) g.items_are ∙ sym (map-append (Line Bus) g.given (l ∷ []));
      }

  -- the end of its lines
  ends_go : BusEnds B g.given n begun (sound_at place s.left) → GoesAt mode Bus gone events InMessages (record s { phase = InMessages }) items
  unfolding lines
  ends_go e =
      let is : cond mode.auth (bus_lines n B) [] ≡ g.given = ap (λ (b : Bool). cond b (bus_lines n B) []) g.auth ∙ e.lines in
      goes_behind mode Bus gone events (record s { phase = InMessages }) items
      (record {
        none_gone = g.none_gone;
        content_is = bus_content ∙ ap (λ (x : Bool). cond x (some (after_lines n B)) None) e.seen ∙ ap some e.left;
        all = λ a. ap length is ∙ e.all;
        counts = λ a. g.counts.0 ∙ sym (ap length is);
        items_are = g.items_are ∙ ap (map (Line Bus)) (sym is);
      })

  -- if its lines stop
  fails_stop : (f : LineFault) → bus_fault n begun B ≡ Some f → bus_lines n B ≡ g.given → bytes_in (content mode Bus events) ≡ [] → Stops mode Bus gone events items (Some (OfLine f))
  unfolding fault content
  fails_stop f is l quiet = record {
    found_is = bus_found g.given l quiet ∙ sym g.items_are;
    fault_is = ap (λ (x : Bool). first_fault (cond x (fault_of_line (bus_fault n begun B)) None) (fault_in mode.filter (cond x (cond begun (some (after_lines n B)) None) (some B)))) g.auth
        ∙ ap (λ (x : Option LineFault). first_fault (fault_of_line x) (fault_in mode.filter (cond begun (some (after_lines n B)) None))) is;
  }

  fewer_left : bus_lines n B ≡ g.given → 0 < n - length g.given → bytes_in (content mode Bus events) ≡ []
  fewer_left same pos =
      let h : length (bus_lines n B) ≡ length g.given = ap length same in
      let fewer : nat_lt (length (bus_lines n B)) n ≡ true = grind (arith, nat_tests, h, pos) in
      bus_quiet (fewer_then_none n B fewer)

  pub bus_stops : 0 < n - length g.given → (bus_ahead (sound_at place s.left)).lines ≡ [] → (o : Option LineFault) → (bus_ahead (sound_at place s.left)).fault ≡ o → Stops mode Bus gone events items (fault_of_line o)
  bus_stops pos l None e = waits_stop (bus_waits B g.given n begun place s.left g.counts.1 g.follows pos l e)
  bus_stops pos l (Some f) e =
      let w = bus_fails B g.given n begun place s.left g.counts.1 g.follows f pos l e in
      fails_stop f (w.fault refl) (w.lines refl) (fewer_left (w.lines refl) pos)

  pub bus_stands : 0 < n - length g.given → (bus_ahead (sound_at place s.left)).lines ≡ [] → (bus_ahead (sound_at place s.left)).fault ≡ None → StandsAt mode Bus events (InLines place None) s.left × (s.lines ≡ length (lines mode Bus events))
  bus_stands pos l e = waits_stand (bus_waits B g.given n begun place s.left g.counts.1 g.follows pos l e)

  -- if all lines were answered, and BEGIN wasn't seen
  pub early_stops : n - length g.given ≡ 0 → begun ≡ false → 0 < length s.left → Stops mode Bus gone events items (Some (OfLine (record { kind = EarlyBus; at = place })))
  early_stops none unseen some_left =
      let w = bus_early B g.given n begun place s.left g.counts.1 g.follows none unseen some_left in
      fails_stop (record { kind = EarlyBus; at = place }) (w.fault refl) (w.lines refl) (ap bytes_in bus_content ∙ ap (λ (b : Bool). bytes_in (cond b (some (after_lines n B)) None)) unseen)

  pub none_stops : n - length g.given ≡ 0 → begun ≡ false → s.left ≡ [] → Stops mode Bus gone events items None × StandsAt mode Bus events (InLines place None) s.left × (s.lines ≡ length (lines mode Bus events))
  none_stops none unseen empty =
      let w = bus_waits_for_begin B g.given n begun place s.left g.counts.1 g.follows none unseen empty in
      let t = waits_stand w in
      (waits_stop w, t.0, t.1)

  pub done_goes : n - length g.given ≡ 0 → begun ≡ true → GoesAt mode Bus gone events InMessages (record s { phase = InMessages }) items
  done_goes none seen = ends_go (bus_ends B g.given n begun place s.left g.counts.1 g.follows none seen)
