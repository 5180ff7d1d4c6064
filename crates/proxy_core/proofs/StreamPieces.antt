-- Both sides' streams when a piece of one of them is received.
use Rattle.std.proofs.Common.{ℕ, zero, suc, ◌≡◌, ◌-◌, ◌≤◌, Bool, true, false, cond, List, [], ◌∷◌, ◌++◌, length, take, map, Option, Some, None, refl, ap, ◌∙◌, sym, subst, arith, append-nil, inl, inr}
use Rattle.std.specs.Prelude.{◌⊎◌, not}
use Rattle.std.specs.List.{list_any}
use Rattle.dbus_header.specs.Message.{Message}
use Rattle.dbus_header.specs.Stream.{split, messages, rest}
use Rattle.dbus_header.proofs.StreamLaws.{split-append}
use Rattle.sasl_watch.specs.Lines.{is_begin, client_lines, has_begun as begins_in, after_begin, asked, bus_cut, bus_lines}
use Rattle.sasl_watch.proofs.LinesGrow.{asked-stays}
use Rattle.sasl_watch.specs.Following.{ClientFollows, BusFollows}
use Rattle.sasl_watch.proofs.Followed.{client-pushed, bus-pushed}
use Rattle.policy_view.specs.Past.{Line, Msg}
use Rattle.policy_view.specs.History.{Event, Bytes, stream, lines, content, messages_in, bytes_in, raw_in, found, raw, taken_of}
use Rattle.policy_view.specs.declared.Mode.{Mode}
use Rattle.policy_view.specs.declared.Side.{Side}
use Rattle.policy_view.specs.declared.Side.TheVariants.{Client, Bus}
use Rattle.policy_view.proofs.Streams.{stream_more, bus_stream, client_stream, apart, lines_by, content_by, fault_by, client_by, content_more, BusKept, bus_kept}
use Rattle.proxy_core.specs.Streams.{StreamView, Phase, InLines, InMessages, is_in_lines, pushed, watch_at}
use Rattle.proxy_core.specs.Sessions.{SessionView, Follows, FollowsStream, FollowsLines, StandsAt, AllGiven, lines_in, rest_of, stream_of}
use Rattle.proxy_core.proofs.Going.{Counts, Goes, GoesAt, GoesInMessages, GoesRaw, quiet_raw, quiet_messages}
use Rattle.proxy_core.proofs.Driving.{KnowsClient, KnowsOther}
use Rattle.proxy_core.proofs.Untouched.{other}

-- ---- the other side's stream

stream_other : (side : Side) (events : List Event) (piece : List ℕ) → stream (other side) (Bytes side piece ∷ events) ≡ stream (other side) events
stream_other Client events piece = bus_stream events piece
stream_other Bus events piece = client_stream events piece

-- the client's bytes leave the bus's stream where it is
bus_follows : (mode : Mode) (events : List Event) (piece : List ℕ) (s : StreamView) → FollowsStream mode Bus events s → FollowsStream mode Bus (Bytes Client piece ∷ events) s
bus_follows mode events piece s f =
    let k = bus_kept mode events piece f.sound in
    record {
      came = f.came ∙ ap length (sym (bus_stream events piece));
      stands = by s.phase f.stands k;
      counts = λ a. f.counts a ∙ sym (ap length k.lines_is);
      sound = (apart mode events piece f.sound).fault_is;
      bytes = f.bytes;
    }
  where
    by : (p : Phase) → StandsAt mode Bus events p s.left → BusKept mode events (Bytes Client piece ∷ events) → StandsAt mode Bus (Bytes Client piece ∷ events) p s.left
    by (InLines place told) (auth, quiet, follows, none) k = (
      auth,
      quiet,
      subst (λ (w : List ℕ). BusFollows w (lines mode Bus (Bytes Client piece ∷ events)) (watch_at place None s.left)) (sym (bus_stream events piece))
          (subst (λ (ls : List (List ℕ)). BusFollows (stream Bus events) ls (watch_at place None s.left)) (sym k.lines_is) follows),
      k.quiet none,
    )
    by InMessages (bytes, is, left, all) k = (bytes, k.content_is bytes is, left, λ a. ap length k.lines_is ∙ all a ∙ sym (k.asked_is bytes a is))

-- and the bus's the client's
client_follows : (mode : Mode) (events : List Event) (piece : List ℕ) (s : StreamView) → FollowsStream mode Client events s → FollowsStream mode Client (Bytes Bus piece ∷ events) s
client_follows mode events piece s f =
    let same = client_by mode (Bytes Bus piece ∷ events) events (client_stream events piece) in
    record {
      came = f.came ∙ ap length (sym (client_stream events piece));
      stands = by s.phase f.stands same.0 same.1;
      counts = λ a. f.counts a ∙ ap asked (sym (client_stream events piece));
      sound = same.2 ∙ f.sound;
      bytes = f.bytes;
    }
  where
    by : (p : Phase) → StandsAt mode Client events p s.left → lines mode Client (Bytes Bus piece ∷ events) ≡ lines mode Client events → content mode Client (Bytes Bus piece ∷ events) ≡ content mode Client events → StandsAt mode Client (Bytes Bus piece ∷ events) p s.left
    by (InLines place told) (auth, quiet, follows, none) ls c = (
      auth,
      quiet,
      subst (λ (w : List ℕ). ClientFollows w (lines mode Client (Bytes Bus piece ∷ events)) (watch_at place None s.left)) (sym (client_stream events piece))
          (subst (λ (x : List (List ℕ)). ClientFollows (stream Client events) x (watch_at place None s.left)) (sym ls) follows),
      ap bytes_in c ∙ none,
    )
    by InMessages (bytes, is, left, all) ls c = (bytes, c ∙ is, left, tt)

pub other_follows : (mode : Mode) (side : Side) (events : List Event) (piece : List ℕ) (view : SessionView) → view.mode ≡ mode → Follows view events → FollowsStream mode (other side) (Bytes side piece ∷ events) (stream_of (other side) view)
other_follows mode Client events piece view m f = bus_follows mode events piece view.bus (subst (λ (x : Mode). FollowsStream x Bus events view.bus) m f.bus)
other_follows mode Bus events piece view m f = client_follows mode events piece view.client (subst (λ (x : Mode). FollowsStream x Client events view.client) m f.client)

pub own_follows : (side : Side) (events : List Event) (view : SessionView) → Follows view events → FollowsStream view.mode side events (stream_of side view)
own_follows Client events view f = f.client
own_follows Bus events view f = f.bus

-- what is known of the client's, while the bus's bytes come
knows_client : (mode : Mode) (events : List Event) (piece : List ℕ) (s : StreamView) → FollowsStream mode Client events s → KnowsClient mode (Bytes Bus piece ∷ events) s
unfolding lines content
knows_client mode events piece s f = record {
  lines = λ a. f.counts a ∙ ap asked (sym (client_stream events piece));
  begun = λ a. by s.phase f.stands a ∙ ap begins_in (sym (client_stream events piece));
}
  where
    by : (p : Phase) → StandsAt mode Client events p s.left → mode.auth ≡ true → not (is_in_lines p) ≡ begins_in (stream Client events)
    by (InLines place told) (auth, quiet, follows, none) a =
        sym (ap (λ (ls : List (List ℕ)). list_any is_begin ls) (sym (ap (λ (b : Bool). cond b (client_lines (stream Client events)) []) a)) ∙ follows.unbegun)
    by InMessages (bytes, is, left, all) a = sym (seen (begins_in (stream Client events)) refl (sym (ap (λ (b : Bool). cond b (cond (begins_in (stream Client events)) (Some (after_begin (stream Client events))) None) (Some (stream Client events))) a) ∙ is))
      where
        seen : (d : Bool) → begins_in (stream Client events) ≡ d → cond d (Some (after_begin (stream Client events))) None ≡ Some bytes → begins_in (stream Client events) ≡ true
        seen true k e = k
        seen false k e = absurd cc

pub knows_other : (mode : Mode) (side : Side) (events : List Event) (piece : List ℕ) (view : SessionView) → view.mode ≡ mode → Follows view events → KnowsOther mode side (Bytes side piece ∷ events) view
knows_other mode Client events piece view m f = tt
knows_other mode Bus events piece view m f = knows_client mode events piece view.client (subst (λ (x : Mode). FollowsStream x Client events view.client) m f.client)

-- ---- a side's stream with a piece

take_few : {A : Type 0} (n : ℕ) (xs : List A) → length (take n xs) ≤ n
take_few zero xs = omega arith
take_few (suc n) [] = omega arith
take_few (suc n) (x ∷ xs) = let h = take_few n xs in omega (arith, h)

lines_few : (mode : Mode) (events : List Event) → mode.auth ≡ true → length (lines mode Bus events) ≤ asked (stream Client events)
unfolding lines
lines_few mode events a =
    let h = take_few (asked (stream Client events)) (bus_cut (stream Bus events)).lines in
    subst (λ (b : Bool). length (cond b (bus_lines (asked (stream Client events)) (stream Bus events)) []) ≤ asked (stream Client events)) (sym a) h

asked_few : (mode : Mode) (events : List Event) → mode.auth ≡ true → list_any is_begin (lines mode Client events) ≡ false → asked (stream Client events) ≡ length (lines mode Client events) - 1
unfolding lines
asked_few mode events a none =
    let is : cond mode.auth (client_lines (stream Client events)) [] ≡ client_lines (stream Client events) = ap (λ (b : Bool). cond b (client_lines (stream Client events)) []) a in
    let unseen : begins_in (stream Client events) ≡ false = ap (λ (ls : List (List ℕ)). list_any is_begin ls) (sym is) ∙ none in
    ap (λ (b : Bool). length (client_lines (stream Client events)) - 1 - cond b 1 0) unseen ∙ less (length (client_lines (stream Client events))) ∙ ap (λ (ls : List (List ℕ)). length ls - 1) (sym is)
  where
    less : (n : ℕ) → n - 1 - 0 ≡ n - 1
    less n = omega arith

begun_by : (mode : Mode) (events : List Event) (b : List ℕ) → mode.auth ≡ true → content mode Client events ≡ Some b → begins_in (stream Client events) ≡ true
unfolding content
begun_by mode events b a is = seen (begins_in (stream Client events)) refl (sym (ap (λ (x : Bool). cond x (cond (begins_in (stream Client events)) (Some (after_begin (stream Client events))) None) (Some (stream Client events))) a) ∙ is)
  where
    seen : (d : Bool) → begins_in (stream Client events) ≡ d → cond d (Some (after_begin (stream Client events))) None ≡ Some b → begins_in (stream Client events) ≡ true
    seen true k e = k
    seen false k e = absurd cc

-- more lines may follow those that were given
follows_more : (side : Side) (pushed more : List ℕ) (given : List (List ℕ)) (place : ℕ) (left : List ℕ) → FollowsLines side pushed given (watch_at place None left) → FollowsLines side (pushed ++ more) given (watch_at place None (left ++ more))
follows_more Client pushed more given place left f = client-pushed pushed given (watch_at place None left) more f
follows_more Bus pushed more given place left f = bus-pushed pushed given (watch_at place None left) more f

lines_counted : (mode : Mode) (side : Side) (events : List Event) (piece : List ℕ) (n place : ℕ) (left : List ℕ) → mode.auth ≡ true → FollowsLines side (stream side events) (lines mode side events) (watch_at place None left) → n ≡ lines_in side mode events
    → Counts side (Bytes side piece ∷ events) n (length (lines mode side events))
lines_counted mode Client events piece n place left a f e = e ∙ asked_few mode events a f.unbegun
lines_counted mode Bus events piece n place left a f e = (e, subst (λ (w : List ℕ). length (lines mode Bus events) ≤ asked w) (sym (client_stream events piece)) (lines_few mode events a))

all_given : (mode : Mode) (side : Side) (events : List Event) (piece : List ℕ) → lines mode side (Bytes side piece ∷ events) ≡ lines mode side events → AllGiven mode side events → AllGiven mode side (Bytes side piece ∷ events)
all_given mode Client events piece same all = tt
all_given mode Bus events piece same all = λ a. ap length same ∙ all a ∙ ap asked (sym (client_stream events piece))

all_counted : (mode : Mode) (side : Side) (events : List Event) (piece b : List ℕ) (n : ℕ) → content mode side events ≡ Some b → lines mode side (Bytes side piece ∷ events) ≡ lines mode side events → (mode.auth ≡ true → n ≡ lines_in side mode events)
    → mode.auth ≡ true → n ≡ lines_in side mode (Bytes side piece ∷ events)
all_counted mode Client events piece b n is same e a =
    e a ∙ sym (asked-stays (stream Client events) (taken_of Client events piece) (begun_by mode events b a is)) ∙ ap asked (sym (stream_more Client events piece))
all_counted mode Bus events piece b n is same e a = e a ∙ ap length (sym same)

all_known : (mode : Mode) (side : Side) (events : List Event) → AllGiven mode side events → side ≡ Bus → mode.auth ≡ true → length (lines mode Bus events) ≡ asked (stream Client events)
all_known mode Client events all e a = absurd cc
all_known mode Bus events all e a = all a

raw_now : (mode : Mode) (side : Side) (events : List Event) (b : List ℕ) → content mode side events ≡ Some b → mode.filter ≡ false → raw mode side events ≡ b
unfolding raw
raw_now mode side events b c unfiltered = ap (λ (x : Bool). raw_in x (content mode side events)) unfiltered ∙ ap (raw_in false) c

-- before anything of the piece is processed, the side's items are those of before
pub piece_goes : (mode : Mode) (side : Side) (events : List Event) (piece bytes : List ℕ) (s : StreamView) → FollowsStream mode side events s → taken_of side events piece ≡ bytes
    → Goes mode side (raw mode side events) (Bytes side piece ∷ events) (pushed bytes s) (found mode side events)
unfolding found
piece_goes mode side events piece bytes s f is = by s.phase f.stands
  where
    more : stream side (Bytes side piece ∷ events) ≡ stream side events ++ bytes
    more = stream_more side events piece ∙ ap (λ (t : List ℕ). stream side events ++ t) is

    only_lines : messages_in mode.filter (content mode side events) ≡ [] → map (Line side) (lines mode side events) ++ map (Msg side) (messages_in mode.filter (content mode side events)) ≡ map (Line side) (lines mode side events)
    only_lines none = ap (λ (ms : List Message). map (Line side) (lines mode side events) ++ map (Msg side) ms) none ∙ append-nil (map (Line side) (lines mode side events))

    behind : (filter : Bool) → mode.filter ≡ filter → StandsAt mode side events InMessages s.left
        → GoesInMessages mode side (Bytes side piece ∷ events) (pushed bytes s) (map (Line side) (lines mode side events) ++ map (Msg side) (messages_in mode.filter (content mode side events)))
        ⊎ GoesRaw mode side (raw mode side events) (Bytes side piece ∷ events) (pushed bytes s) (map (Line side) (lines mode side events) ++ map (Msg side) (messages_in mode.filter (content mode side events)))
    behind true filters (b, c, left, all) =
        let m = content_more mode side events piece b c (all_known mode side events all) in
        let left_is : s.left ≡ rest b = left ∙ ap (λ (x : Bool). rest_of x b) filters in
        inl (record {
          filters = filters;
          bytes = b ++ taken_of side events piece;
          content_is = m.content_is;
          given = messages b;
          split_is = ap (λ (t : List ℕ). split (b ++ t)) is ∙ split-append b bytes ∙ ap (λ (t : List ℕ). (messages b ++ messages (t ++ bytes), rest (t ++ bytes))) (sym left_is);
          all = all_given mode side events piece m.lines_is all;
          counts = all_counted mode side events piece b s.lines c m.lines_is f.counts;
          items_are = ap (λ (x : Bool). map (Line side) (lines mode side events) ++ map (Msg side) (messages_in x (content mode side events))) filters
              ∙ ap (λ (ls : List (List ℕ)). map (Line side) ls ++ map (Msg side) (messages_in true (content mode side events))) (sym m.lines_is)
              ∙ ap (λ (o : Option (List ℕ)). map (Line side) (lines mode side (Bytes side piece ∷ events)) ++ map (Msg side) (messages_in true o)) c;
        })
    behind false unfiltered (b, c, left, all) =
        let m = content_more mode side events piece b c (all_known mode side events all) in
        let left_is : s.left ≡ [] = left ∙ ap (λ (x : Bool). rest_of x b) unfiltered in
        let none : messages_in mode.filter (content mode side events) ≡ [] = ap (λ (x : Bool). messages_in x (content mode side events)) unfiltered ∙ ap (messages_in false) c in
        inr (record {
          unfiltered = unfiltered;
          bytes = b ++ taken_of side events piece;
          content_is = m.content_is;
          bytes_are = ap (λ (t : List ℕ). b ++ t) is ∙ ap (λ (t : List ℕ). t ++ bytes) (sym (raw_now mode side events b c unfiltered)) ∙ ap (λ (t : List ℕ). raw mode side events ++ (t ++ bytes)) (sym left_is);
          all = all_given mode side events piece m.lines_is all;
          counts = all_counted mode side events piece b s.lines c m.lines_is f.counts;
          items_are = only_lines none ∙ ap (map (Line side)) (sym m.lines_is);
        })

    by : (p : Phase) → StandsAt mode side events p s.left
        → GoesAt mode side (raw mode side events) (Bytes side piece ∷ events) p (pushed bytes s) (map (Line side) (lines mode side events) ++ map (Msg side) (messages_in mode.filter (content mode side events)))
    by (InLines place told) (auth, quiet, follows, none) = record {
      auth = auth;
      quiet = quiet;
      none_gone = quiet_raw mode side events none;
      given = lines mode side events;
      follows = subst (λ (w : List ℕ). FollowsLines side w (lines mode side events) (watch_at place None (s.left ++ bytes))) (sym more) (follows_more side (stream side events) bytes (lines mode side events) place s.left follows);
      counts = lines_counted mode side events piece s.lines place s.left auth follows (f.counts auth);
      items_are = only_lines (quiet_messages mode.filter (content mode side events) none);
    }
    by InMessages stands = behind mode.filter refl stands

-- ---- a piece

pub both_streams : (side : Side) (events : List Event) (piece : List ℕ) → taken_of side events piece ≡ [] → (stream Client (Bytes side piece ∷ events) ≡ stream Client events) × (stream Bus (Bytes side piece ∷ events) ≡ stream Bus events)
both_streams Client events piece e = (stream_more Client events piece ∙ ap (λ (t : List ℕ). stream Client events ++ t) e ∙ append-nil (stream Client events), bus_stream events piece)
both_streams Bus events piece e = (client_stream events piece, stream_more Bus events piece ∙ ap (λ (t : List ℕ). stream Bus events ++ t) e ∙ append-nil (stream Bus events))

-- a stream follows events with the same bytes
pub same_follows : (mode : Mode) (side : Side) (one two : List Event) (s : StreamView) → stream Client two ≡ stream Client one → stream Bus two ≡ stream Bus one → FollowsStream mode side one s → FollowsStream mode side two s
same_follows mode side one two s c b f = record {
  came = f.came ∙ ap length (sym own);
  stands = by s.phase f.stands;
  counts = λ a. f.counts a ∙ sym (counted side);
  sound = fault_by mode side two one c b ∙ f.sound;
  bytes = f.bytes;
}
  where
    own : stream side two ≡ stream side one
    own = is side
      where
        is : (s : Side) → stream s two ≡ stream s one
        is Client = c
        is Bus = b

    ls : lines mode side two ≡ lines mode side one
    ls = lines_by mode side two one c b

    counted : (s : Side) → lines_in s mode two ≡ lines_in s mode one
    counted Client = ap asked c
    counted Bus = ap length (lines_by mode Bus two one c b)

    all_too : (s : Side) → AllGiven mode s one → AllGiven mode s two
    all_too Client all = tt
    all_too Bus all = λ a. ap length (lines_by mode Bus two one c b) ∙ all a ∙ ap asked (sym c)

    by : (p : Phase) → StandsAt mode side one p s.left → StandsAt mode side two p s.left
    by (InLines place told) (auth, quiet, follows, none) = (
      auth,
      quiet,
      subst (λ (w : List ℕ). FollowsLines side w (lines mode side two) (watch_at place None s.left)) (sym own) (subst (λ (x : List (List ℕ)). FollowsLines side (stream side one) x (watch_at place None s.left)) (sym ls) follows),
      ap bytes_in (content_by mode side two one c b) ∙ none,
    )
    by InMessages (bytes, is, left, all) = (bytes, content_by mode side two one c b ∙ is, left, all_too side all)
