-- A session that represents events, and one more event.
use Rattle.std.proofs.Common.{ℕ, zero, suc, ◌≡◌, ◌+◌, ◌-◌, ◌<◌, ◌≤◌, Bool, true, false, cond, List, [], ◌∷◌, ◌++◌, length, take, Option, Some, None, refl, ap, ◌∙◌, sym, subst, arith, append-nil, append_assoc, length-append, inl, inr}
use Rattle.std.specs.Prelude.{nat_lt, min, IsTrue}
use Rattle.std.specs.FinMap.{empty, get-empty}
use Rattle.std.specs.Cmp.Lexicographic.{slice_cmp}
use Rattle.std.specs.Ordering.{nat_cmp}
use Rattle.std.proofs.lemmas.Bool.Decides.{nat_tests}
use Rattle.std.proofs.lemmas.List.{length-take}
use Rattle.byte_lists.proofs.Bytes.{AreBytes-take, AreBytes-append, empty_is}
use Rattle.byte_lists.specs.Bytes.{AreBytes}
use Rattle.dbus_names.specs.Names.{is_empty}
use Rattle.dbus_header.specs.Malformed.{fault as message_fault}
use Rattle.dbus_header.specs.Stream.{split}
use Rattle.sasl_watch.proofs.Followed.{client-starts, bus-starts}
use Rattle.policy_args.specs.Policy.{Policy}
use Rattle.policy_view.specs.Sent.{Exchange, answered, call_at, nothing_before, owed}
use Rattle.policy_view.specs.Past.{Item, Ended, History, past}
use Rattle.policy_view.specs.History.{Event, Bytes, Finished, Stopped, longest_stream, whole_stream, stream, lines, content, found, raw, raw_item, fault, taken_of, is_over, end_if, fault_end, new_in, finished, first_items, arrived, end_of, followed_by, followed_by_all, history}
use Rattle.policy_view.specs.Elements.{elements}
use Rattle.policy_view.specs.Notes.{Note, notes_made, numbered}
use Rattle.policy_view.specs.Visible.{part}
use Rattle.policy_view.specs.declared.visible.Visible.{Visible as Element}
use Rattle.policy_view.specs.Outputs.{bus_bytes, client_bytes}
use Rattle.policy_view.specs.declared.Mode.{Mode}
use Rattle.policy_view.specs.declared.End.{End}
use Rattle.policy_view.specs.declared.End.TheVariants.{ClientMalformed, BusMalformed, ClientEnd, BusEnd, SerialsSpent, Memory, ClientRead, ClientWrite, BusRead, BusWrite, BusConnect, LogFault}
use Rattle.policy_view.specs.declared.Side.{Side}
use Rattle.policy_view.specs.declared.Side.TheVariants.{Client, Bus}
use Rattle.policy_view.proofs.Growth.{IsGrown, first_all, first_of_more, grown_by_all, only_grows}
use Rattle.policy_view.proofs.PastLaws.{ended_is_final}
use Rattle.policy_view.proofs.Streams.{stream_more, apart, grows, found_by, raw_by}
use Rattle.policy_view.proofs.CutLaws.{all_append, new_last}
use Rattle.proxy_core.specs.Streams.{StreamView, Phase, InLines, InMessages, new_stream, pushed}
use Rattle.proxy_core.specs.Sessions.{SessionView, Taken, Holds, Follows, FollowsStream, StandsAt, lines_in, rest_of, HoldsFirst, StandsFor, Closes, at_start, elements_given, nothing, watching_at_start, watching_mode, stream_of, is_memory, nothing_expected}
use Rattle.dbus_names.specs.Texts.{Text}
use Rattle.reply_ledger.proofs.Counting.{none-count}
use Rattle.unique_names.proofs.Learned.{start-taught}
use Rattle.verdicts.specs.Kept.{expected_at, owed_by, owed_to}
use Rattle.verdicts.proofs.KnowledgeLaws.{CoversNoUniqueName}
use Rattle.proxy_core.specs.Messages.{ended_by}
use Rattle.proxy_core.specs.Steps.{with_stream, drained, end_unless, closed_if, room_of, with_piece, with_pushed, IsRefused, IsStopped, Took, WentOn}
use Rattle.proxy_core.proofs.Draining.{went_drained}
use Rattle.policy_view.proofs.Closings.{closes_at}
use Rattle.proxy_core.proofs.Watching.{watched_holds}
use Rattle.proxy_core.proofs.Going.{Goes, reached}
use Rattle.proxy_core.proofs.Driving.{Steps, Final, LastOf, Midst, KnowsOther, phase_weight, weight, none_last}
use Rattle.proxy_core.proofs.Driven.{drained_last}
use Rattle.proxy_core.proofs.Followed.{end_followed, end_ignored, new_none, stream_holds}
use Rattle.proxy_core.proofs.DrivenMessages.{same_stream, stream_runs}
use Rattle.proxy_core.proofs.Placing.{ended_holds, knows_still}
use Rattle.proxy_core.proofs.Untouched.{other, Untouched, untouched_all, untouched_then, ended_untouched, finished_remembers, drained_untouched}
use Rattle.proxy_core.proofs.StreamPieces.{other_follows, own_follows, knows_other, piece_goes, both_streams, same_follows}

-- ---- the start

none_rest : (b : Bool) → [] ≡ rest_of b []
unfolding split
none_rest true = refl
none_rest false = refl

stream_starts : (mode : Mode) (side : Side) → FollowsStream mode side [] (new_stream mode.auth)
unfolding stream lines content fault split message_fault
stream_starts mode side = record { came = came side; stands = stands mode.auth refl side; counts = λ a. counts mode.auth side; sound = sound mode.auth mode.filter side; bytes = λ i. omega arith }
  where
    came : (s : Side) → 0 ≡ length (stream s [])
    came Client = refl
    came Bus = refl

    stands : (b : Bool) → mode.auth ≡ b → (s : Side) → StandsAt mode s [] (new_stream mode.auth).phase []
    stands true a Client = rw a (refl, refl, client-starts, refl)
    stands true a Bus = rw a (refl, refl, bus-starts, refl)
    stands false a Client = rw a ([], refl, none_rest mode.filter, tt)
    stands false a Bus = rw a ([], refl, none_rest mode.filter, λ e. absurd cc)

    counts : (b : Bool) (s : Side) → 0 ≡ lines_in s (record { auth = b; filter = mode.filter; notes = mode.notes }) []
    counts true Client = refl
    counts true Bus = refl
    counts false Client = refl
    counts false Bus = refl

    sound : (b filter : Bool) (s : Side) → fault (record { auth = b; filter = filter; notes = mode.notes }) s [] ≡ None
    sound true filter Client = refl
    sound true filter Bus = refl
    sound false true Client = refl
    sound false true Bus = refl
    sound false false Client = refl
    sound false false Bus = refl

none_to : (peer : Option Text) (n : ℕ) → owed_to nothing_expected.owed peer n ≡ 0
none_to None n = refl
none_to (Some s) n = none-count empty s n (get-empty (slice_cmp nat_cmp) s)

pub start_stands : (policy : Policy) (mode : Mode) → StandsFor policy (at_start mode) [] nothing
unfolding history bus_bytes client_bytes past nothing_before owed answered call_at numbered
start_stands policy mode = record {
  refused = λ e. absurd cc;
  held = omega arith;
  holds = λ e. record {
    for_bus = refl;
    for_client = refl;
    end_is = refl;
    noted = none_noted mode.notes;
    count = λ n. refl;
    watched = refl;
    knows = λ n. record { count = refl; fits = omega arith; greeted = refl; stand = record { facts = start-taught policy; replies = none_owed; answers = none_expected } };
  };
  follows = λ e. record { client = stream_starts mode Client; bus = stream_starts mode Bus };
}
  where
    none_noted : (b : Bool) → ◌≡◌ {A = List Note} [] (cond b [] [])
    none_noted true = refl
    none_noted false = refl

    none_owed : (e : Exchange) → owed_by nothing_expected.owed e ≡ owed nothing_before.told e
    none_owed e = none_to e.peer e.number

    none_expected : (r : Option ℕ) → expected_at nothing_expected.expected r ≡ answered nothing_before r
    none_expected None = refl
    none_expected (Some zero) = get-empty nat_cmp zero
    none_expected (Some (suc r)) = get-empty nat_cmp (suc r)

-- and a session that watches from there
pub watching_stands : (policy : Policy) (auth : Bool) → StandsFor policy (watching_at_start auth) [] nothing
unfolding history elements part
watching_stands policy auth =
    let s = start_stands policy (watching_mode auth) in
    record {
      refused = λ e. absurd cc;
      held = omega arith;
      holds = λ e. let h = s.holds e in record {
        for_bus = h.for_bus;
        for_client = h.for_client;
        end_is = h.end_is;
        noted = h.noted;
        count = h.count;
        watched = refl;
        knows = λ r. knows_still policy (at_start (watching_mode auth)) _ _ refl refl refl refl (h.knows r);
      };
      follows = λ e. let f = s.follows e in record { client = f.client; bus = f.bus };
    }

-- ---- the end of a stream in its place

closed_holds : (policy : Policy) (view : SessionView) (items : History) (taken : Taken) (side : Side) (over : Bool) → Holds policy view items taken →
    Holds policy (closed_if over side view) (followed_by_all policy items (end_if over (finished side))) taken
unfolding followed_by_all
closed_holds policy view items taken side false h = h
closed_holds policy view items taken side true h = by view.ended refl
  where
    by : (o : Option End) → view.ended ≡ o → Holds policy (end_unless view.ended (finished side) view) (followed_by policy items (Ended (finished side))) taken
    by None e =
        subst (λ (o : Option End). Holds policy (end_unless o (finished side) view) (followed_by policy items (Ended (finished side))) taken) (sym e)
        (end_followed policy view items taken (finished side) e h)
    by (Some end) e =
        subst (λ (o : Option End). Holds policy (end_unless o (finished side) view) (followed_by policy items (Ended (finished side))) taken) (sym e)
        (subst (λ (i : History). Holds policy view i taken) (sym (end_ignored policy items (Ended (finished side)) end (sym h.end_is ∙ e))) h)

-- memory was refused, and nothing changed that waits
stopped_holds : (policy : Policy) (mid new : SessionView) (items : History) (taken : Taken) → IsStopped mid new → Holds policy mid items taken → Holds policy new (Ended Memory ∷ items) taken
stopped_holds policy mid new items taken stopped h =
    let k = stopped.kept in
    let e = ended_holds policy mid items taken Memory h in
    record {
      for_bus = ap (λ (w : List ℕ). taken.bus_side ++ w) k.bus_side ∙ e.for_bus;
      for_client = ap (λ (w : List ℕ). taken.client_side ++ w) k.client_side ∙ e.for_client;
      end_is = stopped.ended;
      noted = ap (λ (ns : List Note). taken.notes ++ ns) k.notes ∙ e.noted ∙ ap (λ (m : Mode). notes_made m policy (Ended Memory ∷ items)) (sym k.mode);
      count = λ n. k.numbered ∙ e.count (subst (λ (m : Mode). IsTrue m.notes) k.mode n);
      watched = ap (λ (es : List Element). taken.visible ++ es) k.visible ∙ e.watched ∙ ap (λ (w : Bool). elements_given w policy (Ended Memory ∷ items)) (sym k.watches);
      knows = λ r. absurd (let none : Some Memory ≡ None = sym stopped.ended ∙ r in cc);
    }

-- an End that stops a session
all_before : (policy : Policy) (view : SessionView) (before now : History) (taken : Taken) (end : End) → is_memory (Some end) ≡ true → Holds policy view before taken → taken.held ≤ length before → IsGrown before now →
    HoldsFirst policy (ended_by end view) now taken (length before)
all_before policy view before now taken Memory e h held grown = record {
  before = held;
  within = omega (arith, length-append grown.0 before, ap length grown.1);
  holds = subst (λ (i : History). Holds policy (ended_by Memory view) (Ended Memory ∷ i) taken) (sym (first_all grown.0 before) ∙ ap (first_items (length before)) (sym grown.1)) (ended_holds policy view before taken Memory h);
}
all_before policy view before now taken (ClientMalformed fault) e h held grown = absurd cc
all_before policy view before now taken (BusMalformed fault) e h held grown = absurd cc
all_before policy view before now taken ClientEnd e h held grown = absurd cc
all_before policy view before now taken BusEnd e h held grown = absurd cc
all_before policy view before now taken SerialsSpent e h held grown = absurd cc
all_before policy view before now taken ClientRead e h held grown = absurd cc
all_before policy view before now taken ClientWrite e h held grown = absurd cc
all_before policy view before now taken BusRead e h held grown = absurd cc
all_before policy view before now taken BusWrite e h held grown = absurd cc
all_before policy view before now taken BusConnect e h held grown = absurd cc
all_before policy view before now taken LogFault e h held grown = absurd cc

-- one event more
held_more : (policy : Policy) (mode : Mode) (event : Event) (events : List Event) (taken : Taken) → taken.held ≤ length (history policy mode events) → taken.held ≤ length (history policy mode (event ∷ events))
held_more policy mode event events taken le =
    let grown = (only_grows policy mode (event ∷ []) events).items in
    let longer : length (history policy mode (event ∷ events)) ≡ length grown.0 + length (history policy mode events) = ap length grown.1 ∙ length-append grown.0 (history policy mode events) in
    omega (arith, le, longer)

over_room : (longest s p : ℕ) → s ≤ longest → nat_lt longest (s + p) ≡ nat_lt (longest - s) p
over_room longest s p h = grind (arith, nat_tests, h)

module _ (policy : Policy) (view : SessionView) (events : List Event) (taken : Taken) (steps : Steps policy taken) (side : Side) (piece : List ℕ)
    (runs : view.ended ≡ None) (stands : StandsFor policy view events taken) (are : AreBytes piece) where
  abbrev items : History
  items = history policy view.mode events

  abbrev bytes : List ℕ
  bytes = take (room_of side view) piece

  abbrev over : Bool
  over = nat_lt (room_of side view) (length piece)

  abbrev event : List Event
  event = Bytes side piece ∷ events

  holds : Holds policy view (history policy view.mode events) taken
  holds = stands.holds (ap is_memory runs)

  follows : Follows view events
  follows = stands.follows runs

  own : FollowsStream view.mode side events (stream_of side view)
  own = own_follows side events view follows

  taken_is : taken_of side events piece ≡ take (room_of side view) piece
  unfolding taken_of
  taken_is = ap (λ (n : ℕ). take (longest_stream - n) piece) (sym own.came)

  stream_short : length (stream side events) ≤ longest_stream
  unfolding stream
  stream_short = let h = length-take longest_stream (whole_stream side events) in short longest_stream (length (whole_stream side events)) h
    where
      short : (n k : ℕ) → length (take longest_stream (whole_stream side events)) ≡ min n k → length (take longest_stream (whole_stream side events)) ≤ n
      short n k h = grind (arith, nat_tests, h)

  over_is : is_over side events piece ≡ nat_lt (room_of side view) (length piece)
  unfolding is_over
  over_is =
      over_room longest_stream (length (stream side events)) (length piece) stream_short
      ∙ ap (λ (n : ℕ). nat_lt (longest_stream - n) (length piece)) (sym own.came)

  -- what was done with the bytes
  record IsPieced (new : SessionView) : Type 0 where
    pub holds : Holds policy new (history policy view.mode (Bytes side piece ∷ events)) taken
    pub follows : new.ended ≡ None → (came : (stream_of side new).came ≡ length (stream side (Bytes side piece ∷ events))) → FollowsStream view.mode side (Bytes side piece ∷ events) (stream_of side new)

  -- items that arrived, and what the session did
  arrived_holds : (new : SessionView) (items_new : List Item) → arrived view.mode events (Bytes side piece) ≡ items_new →
      Holds policy new (followed_by_all policy (history policy view.mode events) items_new) taken → Holds policy new (history policy view.mode (Bytes side piece ∷ events)) taken
  unfolding history
  arrived_holds new items_new is h = subst (λ (xs : List Item). Holds policy new (followed_by_all policy (history policy view.mode events) xs) taken) (sym is) h

  -- if the session still runs, it wasn't closed
  open_stream : (b : Bool) (v : SessionView) → (closed_if b side v).ended ≡ None → (stream_of side (closed_if b side v) ≡ stream_of side v) × (v.ended ≡ None)
  open_stream false v r = (refl, r)
  open_stream true v r = by v.ended refl r
    where
      by : (o : Option End) → v.ended ≡ o → (end_unless o (finished side) v).ended ≡ None → (stream_of side (end_unless o (finished side) v) ≡ stream_of side v) × (v.ended ≡ None)
      by None e r = absurd cc
      by (Some end) e r = (refl, r)

  -- the items of the piece, which begin with those that were found before
  abbrev now : List Event
  now = Bytes side piece ∷ events

  brought_is : arrived view.mode events (Bytes side piece)
      ≡ (new_in (found view.mode side events) (reached view.mode side (raw view.mode side events) (Bytes side piece ∷ events)) ++ fault_end side (fault view.mode side (Bytes side piece ∷ events))) ++ end_if (is_over side events piece) (finished side)
  unfolding arrived
  brought_is = ap (λ (xs : List Item). (xs ++ fault_end side (fault view.mode side now)) ++ end_if (is_over side events piece) (finished side)) new_items
    where
      more : List Item
      more = (grows view.mode side events piece).items

      raw_items : List Item
      raw_items = raw_item side (new_in (raw view.mode side events) (raw view.mode side now))

      found_is : found view.mode side now ≡ found view.mode side events ++ (grows view.mode side events piece).items
      found_is = (grows view.mode side events piece).found_is

      new_items : new_in (found view.mode side events) (found view.mode side (Bytes side piece ∷ events)) ++ raw_item side (new_in (raw view.mode side events) (raw view.mode side (Bytes side piece ∷ events)))
          ≡ new_in (found view.mode side events) (reached view.mode side (raw view.mode side events) (Bytes side piece ∷ events))
      new_items =
          ap (λ (xs : List Item). new_in (found view.mode side events) xs ++ raw_item side (new_in (raw view.mode side events) (raw view.mode side now))) found_is
          ∙ ap (λ (xs : List Item). xs ++ raw_item side (new_in (raw view.mode side events) (raw view.mode side now))) (new_last (found view.mode side events) (grows view.mode side events piece).items)
          ∙ sym (new_last (found view.mode side events) ((grows view.mode side events piece).items ++ raw_item side (new_in (raw view.mode side events) (raw view.mode side now))))
          ∙ ap (new_in (found view.mode side events)) (sym (append_assoc (found view.mode side events) (grows view.mode side events piece).items (raw_item side (new_in (raw view.mode side events) (raw view.mode side now)))))
          ∙ ap (λ (xs : List Item). new_in (found view.mode side events) (xs ++ raw_item side (new_in (raw view.mode side events) (raw view.mode side now)))) (sym found_is)

  -- all that could be taken was taken
  taken_all : (new : SessionView) → Final policy taken view.mode side (raw view.mode side events) (Bytes side piece ∷ events) (history policy view.mode events) (found view.mode side events) new → IsPieced (closed_if over side new)
  taken_all new f =
      let front = new_in (found view.mode side events) (reached view.mode side (raw view.mode side events) (Bytes side piece ∷ events)) ++ fault_end side (fault view.mode side (Bytes side piece ∷ events)) in
      record {
        holds = arrived_holds (closed_if over side new) (front ++ end_if (is_over side events piece) (finished side)) brought_is
            (subst (λ (h : History). Holds policy (closed_if over side new) h taken) (sym (all_append policy (history policy view.mode events) front (end_if (is_over side events piece) (finished side))))
            (subst (λ (b : Bool). Holds policy (closed_if over side new) (followed_by_all policy (followed_by_all policy (history policy view.mode events) front) (end_if b (finished side))) taken) (sym over_is)
            (closed_holds policy new _ taken side over f.holds)));
        follows = λ r c.
            let o = open_stream over new r in
            subst (λ (x : StreamView). FollowsStream view.mode side (Bytes side piece ∷ events) x) (sym o.0) (record {
              came = ap (λ (x : StreamView). x.came) (sym o.0) ∙ c;
              stands = f.stands o.1;
              counts = f.counts o.1;
              sound = f.sound o.1;
              bytes = f.bytes o.1;
            });
      }

  no_bytes : take (room_of side view) piece ≡ [] → IsPieced (closed_if over side view)
  no_bytes none =
      let same = both_streams side events piece (taken_is ∙ none) in
      let f = same_follows view.mode side events (Bytes side piece ∷ events) (stream_of side view) same.0 same.1 own in
      let found_is = found_by view.mode side (Bytes side piece ∷ events) events same.0 same.1 in
      let raw_is = raw_by view.mode side (Bytes side piece ∷ events) events same.0 same.1 in
      let reached_is : reached view.mode side (raw view.mode side events) (Bytes side piece ∷ events) ≡ found view.mode side events =
      ap (λ (xs : List Item). xs ++ raw_item side (new_in (raw view.mode side events) (raw view.mode side (Bytes side piece ∷ events)))) found_is
      ∙ ap (λ (xs : List ℕ). found view.mode side events ++ raw_item side (new_in (raw view.mode side events) xs)) raw_is
      ∙ ap (λ (xs : List ℕ). found view.mode side events ++ raw_item side xs) (new_none (raw view.mode side events))
      ∙ append-nil (found view.mode side events) in
      taken_all view
      (none_last true policy taken view.mode side (raw view.mode side events) (Bytes side piece ∷ events) view (history policy view.mode events) (found view.mode side events) holds (record { found_is = reached_is; fault_is = f.sound }) f.stands f.counts f.bytes)

  -- bytes after what is left
  abbrev behind_left : StreamView
  behind_left = pushed (take (room_of side view) piece) (stream_of side view)

  abbrev most : ℕ
  most = length ((stream_of side view).left ++ take (room_of side view) piece) + 2

  abbrev pushed_view : SessionView
  pushed_view = with_stream side (pushed (take (room_of side view) piece) (stream_of side view)) view

  still_knows : (s : Side) (x : StreamView) → KnowsOther view.mode s (Bytes side piece ∷ events) view → KnowsOther view.mode s (Bytes side piece ∷ events) (with_stream s x view)
  still_knows Client x k = tt
  still_knows Bus x k = k

  light : (p : Phase) → phase_weight p ≤ 1
  light (InLines place told) = omega arith
  light InMessages = omega arith

  pushed_runs_in : (s : Side) (x : StreamView) (v : SessionView) → (with_stream s x v).mode ≡ v.mode
  pushed_runs_in Client x v = refl
  pushed_runs_in Bus x v = refl

  more_bytes : IsPieced (closed_if over side (drained policy side most pushed_view))
  more_bytes =
      let same = same_stream side behind_left view in
      let l = light (stream_of side view).phase in
      taken_all (drained policy side most pushed_view)
      (drained_last true policy taken steps view.mode (raw view.mode side events) (Bytes side piece ∷ events) side most pushed_view (history policy view.mode events) (found view.mode side events)
      (λ w. subst (λ (x : StreamView). weight x < most) (sym same) (omega (arith, l)))
      (stream_runs side behind_left view ∙ runs)
      (pushed_runs_in side behind_left view)
      (subst (λ (x : StreamView). Goes view.mode side (raw view.mode side events) (Bytes side piece ∷ events) x (found view.mode side events)) (sym same) (piece_goes view.mode side events piece (take (room_of side view) piece) (stream_of side view) own taken_is))
      (stream_holds policy view (history policy view.mode events) taken side behind_left holds)
      (subst (λ (x : StreamView). AreBytes x.left) (sym same) (AreBytes-append (stream_of side view).left (take (room_of side view) piece) own.bytes (AreBytes-take (room_of side view) piece are)))
      (still_knows side behind_left (knows_other view.mode side events piece view refl follows)))

  by_empty : (none : Bool) → is_empty (take (room_of side view) piece) ≡ none → IsPieced (closed_if over side (cond none view (drained policy side most pushed_view)))
  by_empty true none = no_bytes (empty_is (take (room_of side view) piece) none)
  by_empty false none = more_bytes

  piece_step : IsPieced (with_piece policy side piece view)
  piece_step = by_empty (is_empty (take (room_of side view) piece)) refl

  -- ---- what the piece left as it was

  unless_untouched : (o : Option End) (old v : SessionView) → Untouched side old v → Untouched side old (end_unless o (finished side) v)
  unless_untouched None old v u = untouched_then side old v (ended_by (finished side) v) u (ended_untouched side (finished side) v (finished_remembers side))
  unless_untouched (Some e) old v u = u

  closed_untouched : (b : Bool) (old v : SessionView) → Untouched side old v → Untouched side old (closed_if b side v)
  closed_untouched true old v u = unless_untouched v.ended old v u
  closed_untouched false old v u = u

  -- the mode, whether it watches, the other side's stream, and, if the session runs, the number of received bytes
  record Leaves (new : SessionView) : Type 0 where
    pub mode : new.mode ≡ view.mode
    pub watches : new.watches ≡ view.watches
    pub other_is : stream_of (other side) new ≡ stream_of (other side) view
    pub remembers : is_memory new.ended ≡ false
    pub came : new.ended ≡ None → (stream_of side new).came ≡ length (stream side (Bytes side piece ∷ events))

  came_with : length (stream side events) + length (take (room_of side view) piece) ≡ length (stream side (Bytes side piece ∷ events))
  came_with =
      sym (length-append (stream side events) (take (room_of side view) piece))
      ∙ ap (λ (t : List ℕ). length (stream side events ++ t)) (sym taken_is)
      ∙ ap length (sym (stream_more side events piece))

  pushed_came : (s : Side) (x : StreamView) (v : SessionView) → (stream_of s (with_stream s x v)).came ≡ x.came
  pushed_came Client x v = refl
  pushed_came Bus x v = refl

  pushed_other : (s : Side) (x : StreamView) (v : SessionView) → stream_of (other s) (with_stream s x v) ≡ stream_of (other s) v
  pushed_other Client x v = refl
  pushed_other Bus x v = refl

  pushed_mode : (s : Side) (x : StreamView) (v : SessionView) → (with_stream s x v).mode ≡ v.mode
  pushed_mode Client x v = refl
  pushed_mode Bus x v = refl

  pushed_watches : (s : Side) (x : StreamView) (v : SessionView) → (with_stream s x v).watches ≡ v.watches
  pushed_watches Client x v = refl
  pushed_watches Bus x v = refl

  same_other : (s : Side) (end : End) (v : SessionView) → stream_of (other s) (ended_by end v) ≡ stream_of (other s) v
  same_other Client end v = refl
  same_other Bus end v = refl

  leaves_by : (none : Bool) → is_empty (take (room_of side view) piece) ≡ none → Leaves (closed_if over side (cond none view (drained policy side most pushed_view)))
  leaves_by true none =
      let u = closed_untouched over view view (untouched_all side view) in
      let empty : length (take (room_of side view) piece) ≡ 0 = ap length (empty_is (take (room_of side view) piece) none) in
      let with : (stream_of side view).came ≡ length (stream side (Bytes side piece ∷ events)) = own.came ∙ plus_none (length (stream side events)) (length (take (room_of side view) piece)) empty ∙ came_with in
      record { mode = u.mode; watches = u.watches; other_is = u.other_is; remembers = u.remembers (ap is_memory runs); came = λ r. u.came ∙ with }
    where
      plus_none : (n k : ℕ) → k ≡ 0 → n ≡ n + k
      plus_none n k e = omega (arith, e)
  leaves_by false none =
      let u = closed_untouched over pushed_view (drained policy side most pushed_view) (drained_untouched policy side most pushed_view) in
      record {
        mode = u.mode ∙ pushed_mode side behind_left view;
        watches = u.watches ∙ pushed_watches side behind_left view;
        other_is = u.other_is ∙ pushed_other side behind_left view;
        remembers = u.remembers (ap is_memory (stream_runs side behind_left view ∙ runs));
        came = λ r. u.came ∙ pushed_came side behind_left view ∙ ap (λ (n : ℕ). n + length (take (room_of side view) piece)) own.came ∙ came_with;
      }

  piece_leaves : Leaves (with_piece policy side piece view)
  piece_leaves = leaves_by (is_empty (take (room_of side view) piece)) refl

  -- both sides' streams then
  follows_both : (s : Side) (new : SessionView) → new.mode ≡ view.mode → FollowsStream view.mode s (Bytes side piece ∷ events) (stream_of s new) → FollowsStream view.mode (other s) (Bytes side piece ∷ events) (stream_of (other s) new) → Follows new (Bytes side piece ∷ events)
  follows_both Client new m here there = record { client = subst (λ (x : Mode). FollowsStream x Client (Bytes side piece ∷ events) new.client) (sym m) here; bus = subst (λ (x : Mode). FollowsStream x Bus (Bytes side piece ∷ events) new.bus) (sym m) there }
  follows_both Bus new m here there = record { client = subst (λ (x : Mode). FollowsStream x Client (Bytes side piece ∷ events) new.client) (sym m) there; bus = subst (λ (x : Mode). FollowsStream x Bus (Bytes side piece ∷ events) new.bus) (sym m) here }

  pub piece_stands : StandsFor policy (with_piece policy side piece view) (Bytes side piece ∷ events) taken
  piece_stands =
      let new = with_piece policy side piece view in
      let mode : new.mode ≡ view.mode = piece_leaves.mode in
      let h : Holds policy new (history policy new.mode (Bytes side piece ∷ events)) taken =
      subst (λ (mode : Mode). Holds policy new (history policy mode (Bytes side piece ∷ events)) taken) (sym mode) piece_step.holds in
      record {
        refused = λ e. absurd (let same : true ≡ false = sym e ∙ piece_leaves.remembers in cc);
        holds = λ e. h;
        held = held_more policy new.mode (Bytes side piece) events taken (subst (λ (m : Mode). taken.held ≤ length (history policy m events)) (sym mode) stands.held);
        follows = λ e. follows_both side new mode (piece_step.follows e (piece_leaves.came e))
            (subst (λ (x : StreamView). FollowsStream view.mode (other side) (Bytes side piece ∷ events) x) (sym piece_leaves.other_is) (other_follows view.mode side events piece view refl follows));
      }

  -- ---- memory that was refused in its midst

  -- after this number of lines and messages, the session holds the first of the piece's items
  midst : (n : ℕ) (mid : SessionView) → WentOn policy side n pushed_view mid → mid.ended ≡ None → Midst policy taken view.mode side (raw view.mode side events) (Bytes side piece ∷ events) (history policy view.mode events) (found view.mode side events) mid
  midst n mid went running =
      let same = same_stream side behind_left view in
      subst (λ (v : SessionView). LastOf false policy taken view.mode side (raw view.mode side events) (Bytes side piece ∷ events) (history policy view.mode events) (found view.mode side events) v) (went_drained policy side n pushed_view mid went)
      (drained_last false policy taken steps view.mode (raw view.mode side events) (Bytes side piece ∷ events) side n pushed_view (history policy view.mode events) (found view.mode side events)
      (λ w. absurd cc)
      (stream_runs side behind_left view ∙ runs)
      (pushed_runs_in side behind_left view)
      (subst (λ (x : StreamView). Goes view.mode side (raw view.mode side events) (Bytes side piece ∷ events) x (found view.mode side events)) (sym same) (piece_goes view.mode side events piece (take (room_of side view) piece) (stream_of side view) own taken_is))
      (stream_holds policy view (history policy view.mode events) taken side behind_left holds)
      (subst (λ (x : StreamView). AreBytes x.left) (sym same) (AreBytes-append (stream_of side view).left (take (room_of side view) piece) own.bytes (AreBytes-take (room_of side view) piece are)))
      (still_knows side behind_left (knows_other view.mode side events piece view refl follows)))
      running

  mode_midst : (n : ℕ) (mid : SessionView) → WentOn policy side n pushed_view mid → mid.mode ≡ view.mode
  mode_midst n mid went =
      ap (λ (v : SessionView). v.mode) (sym (went_drained policy side n pushed_view mid went))
      ∙ (drained_untouched policy side n pushed_view).mode ∙ pushed_mode side behind_left view

  -- all its items, which begin with these
  all_items : (first more : List Item) → new_in (found view.mode side events) (reached view.mode side (raw view.mode side events) (Bytes side piece ∷ events)) ≡ first ++ more →
      IsGrown (followed_by_all policy (history policy view.mode events) first) (history policy view.mode (Bytes side piece ∷ events))
  unfolding history
  all_items first more parts =
      let fault_item = fault_end side (fault view.mode side (Bytes side piece ∷ events)) in
      let close = end_if (is_over side events piece) (finished side) in
      let grown = grown_by_all policy (followed_by_all policy (history policy view.mode events) first) (more ++ (fault_item ++ close)) in (
        grown.0,
        ap (followed_by_all policy (history policy view.mode events)) (brought_is ∙ ap (λ (xs : List Item). (xs ++ fault_item) ++ close) parts ∙ grouped first more fault_item close)
            ∙ all_append policy (history policy view.mode events) first (more ++ (fault_item ++ close)) ∙ grown.1,
      )
    where
      grouped : (a b c d : List Item) → ((a ++ b) ++ c) ++ d ≡ a ++ (b ++ (c ++ d))
      grouped a b c d = append_assoc (a ++ b) c d ∙ append_assoc a b (c ++ d)

  -- the session holds these, and then the End, and all that came before the piece is among them
  refused_holds : (new : SessionView) → IsRefused policy side pushed_view new → (done : ℕ) × HoldsFirst policy new (history policy view.mode (Bytes side piece ∷ events)) taken done
  refused_holds new r =
      let m = midst r.steps r.mid r.went r.stopped.running in
      let items_then : History = followed_by_all policy (history policy view.mode events) m.first in
      let before = grown_by_all policy (history policy view.mode events) m.first in
      let all = all_items m.first m.more m.parts in (
        length items_then,
        record {
          before = omega (arith, stands.held, longer before);
          within = longer all;
          holds = subst (λ (i : History). Holds policy new (Ended Memory ∷ i) taken) (sym (first_all all.0 items_then) ∙ ap (first_items (length items_then)) (sym all.1)) (stopped_holds policy r.mid new items_then taken r.stopped m.holds);
        },
      )
    where
      longer : {one two : History} → IsGrown one two → length one ≤ length two
      longer {one = one} {two = two} g = omega (arith, length-append g.0 one, ap length g.1)

  pub refused_stands : (new : SessionView) → IsRefused policy side pushed_view new → StandsFor policy new (Bytes side piece ∷ events) taken
  refused_stands new r =
      let mode : new.mode ≡ view.mode = r.stopped.kept.mode ∙ mode_midst r.steps r.mid r.went in
      let held = refused_holds new r in
      record {
        refused = λ e. (held.0, subst (λ (m : Mode). HoldsFirst policy new (history policy m (Bytes side piece ∷ events)) taken held.0) (sym mode) held.1);
        held = held_more policy new.mode (Bytes side piece) events taken (subst (λ (m : Mode). taken.held ≤ length (history policy m events)) (sym mode) stands.held);
        holds = λ e. absurd (let memory : true ≡ false = sym (ap is_memory r.stopped.ended) ∙ e in cc);
        follows = λ e. absurd (let none : Some Memory ≡ None = sym r.stopped.ended ∙ e in cc);
      }

-- ---- what ended

-- a session that has ended represents whatever follows
pub ended_stands : (policy : Policy) (view : SessionView) (events : List Event) (taken : Taken) (event : Event) (end : End) →
    view.ended ≡ Some end → StandsFor policy view events taken → StandsFor policy view (event ∷ events) taken
ended_stands policy view events taken event end ended stands =
    let grown = (only_grows policy view.mode (event ∷ []) events).items in
    record {
      refused = λ e.
          let r = stands.refused e in (
            r.0,
            record {
              before = r.1.before;
              within = omega (arith, r.1.within, length-append grown.0 (history policy view.mode events), ap length grown.1);
              holds = subst (λ (i : History). Holds policy view (Ended Memory ∷ i) taken)
                  (sym (ap (first_items r.0) grown.1 ∙ first_of_more r.0 grown.0 (history policy view.mode events) r.1.within)) r.1.holds;
            },
          );
      holds = λ e.
          let h = stands.holds e in
          let same : history policy view.mode (event ∷ events) ≡ history policy view.mode events = ended_is_final policy view.mode events event end (sym h.end_is ∙ ended) in
          subst (λ (i : History). Holds policy view i taken) (sym same) h;
      held = held_more policy view.mode event events taken stands.held;
      follows = λ e. let none : Some end ≡ None = sym ended ∙ e in cc;
    }

-- an event that only brings an End, of a session that runs: if the End is that of refused memory, the session holds all
-- items before it
closed_stands : (policy : Policy) (view : SessionView) (events : List Event) (taken : Taken) (event : Event) (end : End) →
    arrived view.mode events event ≡ Ended end ∷ [] → view.ended ≡ None → StandsFor policy view events taken →
    StandsFor policy (ended_by end view) (event ∷ events) taken
unfolding history followed_by_all
closed_stands policy view events taken event end brings runs stands =
    let h : Holds policy (ended_by end view) (history policy view.mode (event ∷ events)) taken =
    subst (λ (items : List Item). Holds policy (ended_by end view) (followed_by_all policy (history policy view.mode events) items) taken) (sym brings)
    (end_followed policy view (history policy view.mode events) taken end runs (stands.holds (ap is_memory runs))) in
    record {
      refused = λ e. (length (history policy view.mode events), all_before policy view (history policy view.mode events) (history policy view.mode (event ∷ events)) taken end e (stands.holds (ap is_memory runs)) stands.held (only_grows policy view.mode (event ∷ []) events).items);
      held = held_more policy view.mode event events taken stands.held;
      holds = λ e. h;
      follows = λ e. cc;
    }

-- and of any session: an earlier End stays
end_stands : (policy : Policy) (view : SessionView) (events : List Event) (taken : Taken) (event : Event) (end stays : End) →
    arrived view.mode events event ≡ Ended end ∷ [] → (view.ended ≡ None → stays ≡ end) → ((e : End) → view.ended ≡ Some e → stays ≡ e) →
    StandsFor policy view events taken → StandsFor policy (ended_by stays view) (event ∷ events) taken
end_stands policy view events taken event end stays brings first last stands = by view.ended refl
  where
    by : (o : Option End) → view.ended ≡ o → StandsFor policy (ended_by stays view) (event ∷ events) taken
    by None runs =
        subst (λ (e : End). StandsFor policy (ended_by e view) (event ∷ events) taken) (sym (first runs))
        (closed_stands policy view events taken event end brings runs stands)
    by (Some e) was =
        let same : view ≡ ended_by stays view = ap (λ (o : Option End). record view { ended = o }) (was ∙ ap Some (sym (last e was))) in
        subst (λ (v : SessionView). StandsFor policy v (event ∷ events) taken) same (ended_stands policy view events taken event e was stands)

-- a side's stream ended
pub finish_stands : (policy : Policy) (view : SessionView) (events : List Event) (taken : Taken) (side : Side) (stays : End) →
    (view.ended ≡ None → stays ≡ finished side) → ((e : End) → view.ended ≡ Some e → stays ≡ e) →
    StandsFor policy view events taken → StandsFor policy (ended_by stays view) (Finished side ∷ events) taken
unfolding arrived
finish_stands policy view events taken side stays first last stands =
    end_stands policy view events taken (Finished side) (finished side) stays refl first last stands

-- the session was stopped
pub stop_stands : (policy : Policy) (view : SessionView) (events : List Event) (taken : Taken) (end stays : End) →
    (view.ended ≡ None → stays ≡ end) → ((e : End) → view.ended ≡ Some e → stays ≡ e) →
    StandsFor policy view events taken → StandsFor policy (ended_by stays view) (Stopped end ∷ events) taken
unfolding arrived
stop_stands policy view events taken end stays first last stands =
    end_stands policy view events taken (Stopped end) end stays refl first last stands

-- ---- the event at which a session ends

-- it is the one at which the history gets the End
pub closes : (policy : Policy) (event : Event) (old new : SessionView) → new.mode ≡ old.mode → ((events : List Event) (taken : Taken) → StandsFor policy old events taken → StandsFor policy new (event ∷ events) taken) → Closes policy event old new
closes policy event old new mode stands events taken end stood runs ended no_memory =
    closes_at policy new.mode event events end
    (ap (λ (m : Mode). end_of (history policy m events)) mode ∙ sym (stood.holds (ap is_memory runs)).end_is ∙ runs)
    (sym ((stands events taken stood).holds (ap is_memory ended ∙ no_memory)).end_is ∙ ended)

-- ---- a feed

-- what a session does with a valid message is what the history has
pub all_steps : (policy : Policy) → CoversNoUniqueName policy → (taken : Taken) → Steps policy taken
all_steps policy apart taken side view items m runs holds valid = watched_holds policy apart view items taken side m runs holds

pub feed_stands : (policy : Policy) → CoversNoUniqueName policy → (old new : SessionView) (events : List Event) (taken : Taken) (side : Side) (piece : List ℕ) → old.ended ≡ None → AreBytes piece →
    Took policy side (with_piece policy side piece old) (with_pushed side (take (room_of side old) piece) old) new → StandsFor policy old events taken → StandsFor policy new (Bytes side piece ∷ events) taken
feed_stands policy apart old new events taken side piece runs are took stands =
    let steps = all_steps policy apart taken in
    elim took [
      | inl is ↦ subst (λ (v : SessionView). StandsFor policy v (Bytes side piece ∷ events) taken) (sym is) (piece_stands policy old events taken steps side piece runs stands are)
      | inr refused ↦ refused_stands policy old events taken steps side piece runs stands are new refused
    ]

-- a session that runs holds all items so far
pub holds_all : (policy : Policy) (view : SessionView) (events : List Event) (taken : Taken) → view.ended ≡ None → StandsFor policy view events taken
    → StandsFor policy view events (record taken { held = length (history policy view.mode events) })
holds_all policy view events taken runs stands = record {
  holds = λ e. let h = stands.holds e in record {
    for_bus = h.for_bus;
    for_client = h.for_client;
    end_is = h.end_is;
    noted = h.noted;
    count = h.count;
    watched = h.watched;
    knows = h.knows;
  };
  refused = λ e. absurd (let same : true ≡ false = sym e ∙ ap is_memory runs in cc);
  held = omega arith;
  follows = stands.follows;
}
