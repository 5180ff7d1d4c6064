-- The notes that a recording gives, as it is played piece by piece and as they are taken.
use Rattle.std.proofs.Common.{◌≡◌, ◌≤◌, ◌<◌, ◌+◌, ◌-◌, nat_le, ℕ, List, [], ◌∷◌, ◌++◌, Option, Some, None, Bool, true, false, refl, ap, sym, ◌∙◌, subst, append_assoc, append-nil, arith, length, length-drop, take, drop, map, get_or}
use Rattle.std.specs.Prelude.{IfNone, IfOk, IfSome, Result, Ok, Err, option_to_list}
use Rattle.std.proofs.lemmas.Grind.{reverse_onto}
use Rattle.std.proofs.lemmas.List.{drop_all, drop-drop, drop-map, drop_more, take-append-drop, take_all}
use Rattle.std.proofs.lemmas.Bool.Decides.{nat_tests}
use Rattle.std.proofs.lemmas.List.Sums.{sum_by-cons}
use Rattle.policy_args.specs.Policy.{Policy}
use Rattle.policy_args.specs.Words.{PolicyOptions}
use Rattle.policy_view.specs.History.{Event, Bytes, Finished, end_of, history}
use Rattle.policy_view.specs.Laws.{GivesTheSame, PassesAll}
use Rattle.policy_view.specs.Notes.{Note, notes, notes_made, numbered}
use Rattle.policy_view.specs.declared.End.{End}
use Rattle.policy_view.proofs.PastLaws.{ended_is_final}
use Rattle.policy_view.specs.declared.Mode.{Mode}
use Rattle.policy_view.specs.declared.Side.{Side as StreamSide}
use Rattle.proxy_core.specs.Sessions.{SessionView, StandsFor, Taken, at_start, is_memory, nothing}
use Rattle.recording.specs.Recording.{Event as Recorded, Recording}
use Rattle.recording.specs.Recording as recorded
use Rattle.recording.specs.Seen.{seen, size_of}
use Rattle.recording.specs.declared.Event.{Event as Declared}
use Rattle.recording.specs.declared.Side.{Side}
use Rattle.replay_output.specs.Explained.{with_log}
use Rattle.replay_output.specs.Output.{event_of, events_of, mode_of, side_of}
use Rattle.replay.specs.PlayedNotes.{GaveNextNote, GaveNotes, GaveWaitingNote, left_behind, left_of, most_pieces, notes_under}
use Rattle.replay.specs.declared.played_notes.PlayedNotes.{PlayedNotes}

-- where bytes are cut makes no difference
abbrev pub CutsChangeNothing : Type 0
CutsChangeNothing = (policy : Policy) (mode : Mode) (later earlier : List Event) (side : StreamSide) (first second : List ℕ) →
    GivesTheSame policy (history policy mode (later ++ Bytes side (first ++ second) ∷ earlier)) (history policy mode (later ++ Bytes side second ∷ Bytes side first ∷ earlier))

abbrev notes_so_far : PolicyOptions → Recording → List Event → List Note
notes_so_far options recording events = notes options.policy (history options.policy (mode_of (with_log options) recording) events)

-- ---- what is left

none_behind : (events : List Recorded) → left_behind 0 events ≡ events
none_behind [] = refl
none_behind (recorded.Bytes side piece ∷ events) = refl
none_behind (recorded.Finished side ∷ events) = refl

event_first : (e : Recorded) (es : List Recorded) (events : List Event) → events_of (e ∷ es) ++ events ≡ events_of es ++ event_of e ∷ events
event_first e es events = ap (λ xs. xs ++ events) (reverse_onto (map event_of es) (event_of e) []) ∙ append_assoc (events_of es) (event_of e ∷ []) events

pub next_left : (es : List Declared) (i : ℕ) (e : Declared) → i < length es → e ≡ get_or es i e → drop i (map seen es) ≡ seen e ∷ drop (i + 1) (map seen es)
next_left es i e lt is = drop-map seen i es ∙ ap (map seen) (drop_more es i e lt ∙ ap (λ x. x ∷ drop (i + 1) es) (sym is)) ∙ ap (λ xs. seen e ∷ xs) (sym (drop-map seen (i + 1) es))

drop_twice : (n m : ℕ) (xs : List ℕ) → drop (n + m) xs ≡ drop m (drop n xs)
drop_twice n m xs = sym (drop-drop m n xs)

most_more : (e : Recorded) (es : List Recorded) → most_pieces (e ∷ es) ≡ size_of e + 1 + most_pieces es
most_more e es = sum_by-cons (λ event. size_of event + 1) e es

-- ---- steps

-- a session that doesn't filter passes all, and notes nothing
abbrev pub PassesUnfiltered : Type 0
PassesUnfiltered = (policy : Policy) (mode : Mode) (event : Event) (events : List Event) → mode.filter ≡ false → end_of (history policy mode events) ≡ None → PassesAll policy mode (event ∷ events)

none_at_start : (policy : Policy) (mode : Mode) → notes policy (history policy mode []) ≡ []
unfolding history numbered
none_at_start policy mode = refl

none_unfiltered : PassesUnfiltered → (policy : Policy) (mode : Mode) → mode.filter ≡ false → (events : List Event) → notes policy (history policy mode events) ≡ []
none_unfiltered passes policy mode off [] = none_at_start policy mode
none_unfiltered passes policy mode off (event ∷ events) =
    elim (end_of (history policy mode events)) as (λ o. end_of (history policy mode events) ≡ o → notes policy (history policy mode (event ∷ events)) ≡ []) [
      | None ↦ λ running. (passes policy mode event events off running).noted
      | Some end ↦ λ ended. ap (notes policy) (ended_is_final policy mode events event end ended) ∙ none_unfiltered passes policy mode off events
    ] refl

-- nothing was played: nothing is to be where messages aren't filtered
start_same : PassesUnfiltered → (options : PolicyOptions) (recording : Recording) (first : ℕ) (filters : Bool) → options.filter ≡ filters → (filters ≡ true → first ≡ 0) → (filters ≡ false → first ≡ length recording.events) →
    notes_so_far options recording (events_of (left_behind 0 (drop first recording.events)) ++ []) ≡ notes_under options recording
start_same passes options recording first true filters all none =
    ap (λ n. notes_so_far options recording (events_of (left_behind 0 (drop n recording.events)) ++ [])) (all refl)
    ∙ ap (notes_so_far options recording) (append-nil (events_of (left_behind 0 recording.events)) ∙ ap events_of (none_behind recording.events))
start_same passes options recording first false filters all none =
    ap (λ es. notes_so_far options recording (events_of (left_behind 0 es) ++ [])) (drop_all first recording.events (omega (arith, none refl)))
    ∙ none_at_start options.policy (mode_of (with_log options) recording)
    ∙ sym (none_unfiltered passes options.policy (mode_of (with_log options) recording) filters (events_of recording.events))

pub notes-start : PassesUnfiltered → (options : PolicyOptions) (recording : Recording) (session : SessionView) (first : ℕ) → session ≡ at_start (mode_of (with_log options) recording) → StandsFor options.policy session [] nothing →
    (options.filter ≡ true → first ≡ 0) → (options.filter ≡ false → first ≡ length recording.events) → GaveNotes options recording (record { session = session; played = first; begun = 0 }) []
notes-start passes options recording session first start stands all none = record {
  taken = nothing;
  events = [];
  mode = ap (λ (v : SessionView). v.mode) start;
  stands = stands;
  same = start_same passes options recording first options.filter refl all none;
  noted = refl;
}

-- what is left of an event was played
pub notes-whole : (options : PolicyOptions) (recording : Recording) (old : PlayedNotes) (session : SessionView) (e : Recorded) (given : List Note) →
    left_of recording.events old ≡ e ∷ drop (old.played + 1) recording.events → session.mode ≡ old.session.mode →
    ((events : List Event) (taken : Taken) → StandsFor options.policy old.session events taken → StandsFor options.policy session (event_of e ∷ events) taken) →
    GaveNotes options recording old given → GaveNotes options recording (record { session = session; played = old.played + 1; begun = 0 }) given
notes-whole options recording old session e given left mode stands gave =
    let es = drop (old.played + 1) recording.events in
    record {
      taken = gave.taken;
      events = event_of e ∷ gave.events;
      mode = mode ∙ gave.mode;
      stands = stands _ gave.taken gave.stands;
      same = ap (notes_so_far options recording) (ap (λ xs. events_of xs ++ event_of e ∷ gave.events) (none_behind es) ∙ sym (event_first e es gave.events) ∙ ap (λ xs. events_of xs ++ gave.events) (sym left)) ∙ gave.same;
      noted = gave.noted;
    }

-- the next bytes of an event were played, and more are left
pub notes-begun : (options : PolicyOptions) (recording : Recording) (old : PlayedNotes) (session : SessionView) (side : Side) (bytes : List ℕ) (n : ℕ) (given : List Note) →
    CutsChangeNothing → drop old.played recording.events ≡ recorded.Bytes side bytes ∷ drop (old.played + 1) recording.events → session.mode ≡ old.session.mode →
    ((events : List Event) (taken : Taken) → StandsFor options.policy old.session events taken → StandsFor options.policy session (Bytes (side_of side) (take n (drop old.begun bytes)) ∷ events) taken) →
    GaveNotes options recording old given → GaveNotes options recording (record { session = session; played = old.played; begun = old.begun + n }) given
notes-begun options recording old session side bytes n given cuts next mode stands gave =
    let es = drop (old.played + 1) recording.events in
    let bytes_left = drop old.begun bytes in
    let first = take n bytes_left in
    let second = drop n bytes_left in
    let way = mode_of (with_log options) recording in
    let cut = cuts options.policy way (events_of es) gave.events (side_of side) first second in
    let left_now : left_behind (old.begun + n) (drop old.played recording.events) ≡ recorded.Bytes side second ∷ es =
    ap (left_behind (old.begun + n)) next ∙ ap (λ xs. recorded.Bytes side xs ∷ es) (drop_twice old.begun n bytes) in
    let left_then : recorded.Bytes side (first ++ second) ∷ es ≡ left_behind old.begun (drop old.played recording.events) =
    ap (λ xs. recorded.Bytes side xs ∷ es) (take-append-drop n bytes_left) ∙ sym (ap (left_behind old.begun) next) in
    record {
      taken = gave.taken;
      events = Bytes (side_of side) first ∷ gave.events;
      mode = mode ∙ gave.mode;
      stands = stands _ gave.taken gave.stands;
      same = ap (notes_so_far options recording) (ap (λ xs. events_of xs ++ Bytes (side_of side) first ∷ gave.events) left_now ∙ event_first (recorded.Bytes side second) es (Bytes (side_of side) first ∷ gave.events))
          ∙ ap (λ (x : List Note × ℕ). x.0) (sym cut.noted)
          ∙ ap (notes_so_far options recording) (sym (event_first (recorded.Bytes side (first ++ second)) es gave.events) ∙ ap (λ xs. events_of xs ++ gave.events) left_then)
          ∙ gave.same;
      noted = gave.noted;
    }

-- bytes for either side were let go
pub notes-let-go : (options : PolicyOptions) (recording : Recording) (old : PlayedNotes) (session : SessionView) (given : List Note) → session ≡ record (old.session) { bus_side = []; client_side = [] } →
    ((events : List Event) (taken : Taken) → StandsFor options.policy old.session events taken →
    StandsFor options.policy session events (record taken { bus_side = taken.bus_side ++ old.session.bus_side; client_side = taken.client_side ++ old.session.client_side })) →
    GaveNotes options recording old given → GaveNotes options recording (record old { session = session }) given
notes-let-go options recording old session given view stands gave = record {
  taken = record (gave.taken) { bus_side = gave.taken.bus_side ++ old.session.bus_side; client_side = gave.taken.client_side ++ old.session.client_side };
  events = gave.events;
  mode = ap (λ (v : SessionView). v.mode) view ∙ gave.mode;
  stands = stands _ gave.taken gave.stands;
  same = gave.same;
  noted = gave.noted;
}

-- the note that waited next was taken
pub notes-waiting : (options : PolicyOptions) (recording : Recording) (old : PlayedNotes) (session : SessionView) (given : List Note) (next : Option Note) →
    IfNone next ((old.session.notes ≡ []) × (session ≡ old.session)) →
    IfSome next (λ note. (rest : List Note) × (old.session.notes ≡ note ∷ rest) × (session ≡ record (old.session) { notes = rest })) →
    ((events : List Event) (taken : Taken) → StandsFor options.policy old.session events taken → StandsFor options.policy session events (record taken { notes = taken.notes ++ option_to_list next })) →
    GaveNotes options recording old given → GaveWaitingNote options recording (record old { session = session }) given next
notes-waiting options recording old session given None none some stands gave = (
  record {
    taken = gave.taken;
    events = gave.events;
    mode = ap (λ (v : SessionView). v.mode) none.1 ∙ gave.mode;
    stands = subst (λ (v : SessionView). StandsFor options.policy v gave.events gave.taken) (sym none.1) gave.stands;
    same = gave.same;
    noted = gave.noted;
  },
  ap (λ (v : SessionView). v.notes) none.1 ∙ none.0,
)
notes-waiting options recording old session given (Some note) none some stands gave = record {
  taken = record (gave.taken) { notes = gave.taken.notes ++ note ∷ [] };
  events = gave.events;
  mode = ap (λ (v : SessionView). v.mode) some.2 ∙ gave.mode;
  stands = stands _ gave.taken gave.stands;
  same = gave.same;
  noted = ap (λ ns. ns ++ note ∷ []) gave.noted;
}

-- ---- the end

-- all events were played, and no note waits
all-given : (options : PolicyOptions) (recording : Recording) (played : PlayedNotes) (given : List Note) → length recording.events ≤ played.played → is_memory played.session.ended ≡ false →
    GaveNotes options recording played given × (played.session.notes ≡ []) → notes_under options recording ≡ given
all-given options recording played given all running (gave, none) =
    let nothing_left : left_of recording.events played ≡ [] = ap (left_behind played.begun) (drop_all played.played recording.events all) in
    let holds = gave.stands.holds running in
    sym gave.same ∙ ap (λ es. notes_so_far options recording (events_of es ++ gave.events)) nothing_left
    ∙ ap (λ mode. notes_made mode options.policy (history options.policy mode gave.events)) (sym gave.mode)
    ∙ sym holds.noted ∙ ap (λ ns. gave.taken.notes ++ ns) none ∙ append-nil gave.taken.notes ∙ gave.noted

-- and so there is no next one, unless memory was refused
pub no-next-note : {E : Type 0} (options : PolicyOptions) (recording : Recording) (played : PlayedNotes) (given : List Note) (ended : Option End) (result : Result (Option Note) E) →
    length recording.events ≤ played.played → GaveNotes options recording played given × (played.session.notes ≡ []) → ended ≡ played.session.ended →
    IfOk result (λ next. (next ≡ None) × (is_memory ended ≡ false)) → IfOk result (λ next. GaveNextNote options recording played given next)
no-next-note options recording played given ended (Ok next) all gave is (none, running) =
    subst (λ o. GaveNextNote options recording played given o) (sym none) (all-given options recording played given all (ap is_memory (sym is) ∙ running) gave)
no-next-note options recording played given ended (Err error) all gave is refused = tt

-- ---- fewer pieces are left

pub fewer-whole : (events : List Recorded) (old : PlayedNotes) (session : SessionView) (e : Recorded) → left_of events old ≡ e ∷ drop (old.played + 1) events →
    most_pieces (left_of events (record { session = session; played = old.played + 1; begun = 0 })) < most_pieces (left_of events old)
fewer-whole events old session e left =
    let es = drop (old.played + 1) events in
    let now : most_pieces (left_behind 0 es) ≡ most_pieces es = ap most_pieces (none_behind es) in
    let before : most_pieces (left_of events old) ≡ size_of e + 1 + most_pieces es = ap most_pieces left ∙ most_more e es in
    omega (arith, now, before)

pub fewer-begun : (events : List Recorded) (old : PlayedNotes) (session : SessionView) (side : Side) (bytes : List ℕ) (n : ℕ) → drop old.played events ≡ recorded.Bytes side bytes ∷ drop (old.played + 1) events →
    0 < n → n < length (drop old.begun bytes) →
    most_pieces (left_of events (record { session = session; played = old.played; begun = old.begun + n })) < most_pieces (left_of events old)
fewer-begun events old session side bytes n next some more =
    let es = drop (old.played + 1) events in
    let now : most_pieces (left_behind (old.begun + n) (drop old.played events)) ≡ length (drop n (drop old.begun bytes)) + 1 + most_pieces es =
    ap (λ xs. most_pieces (left_behind (old.begun + n) xs)) next ∙ most_more (recorded.Bytes side (drop (old.begun + n) bytes)) es ∙ ap (λ xs. length xs + 1 + most_pieces es) (drop_twice old.begun n bytes) in
    let before : most_pieces (left_of events old) ≡ length (drop old.begun bytes) + 1 + most_pieces es = ap (λ xs. most_pieces (left_behind old.begun xs)) next ∙ most_more (recorded.Bytes side (drop old.begun bytes)) es in
    omega (arith, now, before, length-drop n (drop old.begun bytes))

-- ---- a piece of an event's bytes

abbrev TakesPiece : ℕ → List ℕ → PlayedNotes → PlayedNotes → Type 0
TakesPiece n bytes old new =
    (length bytes - old.begun ≤ n → (new.played ≡ old.played + 1) × (new.begun ≡ 0))
    × (n < length bytes - old.begun → (new.played ≡ old.played) × (new.begun ≡ old.begun + n))

-- a piece is all that is left, or more is left after it
by_piece : (n : ℕ) (bytes : List ℕ) (old new : PlayedNotes) (Q : PlayedNotes → Type 0) → TakesPiece n bytes old new →
    (length bytes - old.begun ≤ n → Q (record { session = new.session; played = old.played + 1; begun = 0 })) →
    (n < length bytes - old.begun → Q (record { session = new.session; played = old.played; begun = old.begun + n })) → Q new
by_piece n bytes old new Q takes whole more =
    elim (nat_le (length bytes - old.begun) n) as (λ b. nat_le (length bytes - old.begun) n ≡ b → Q new) [
      | true ↦ λ e.
          let le : length bytes - old.begun ≤ n = grind (arith, nat_tests, e) in
          let is = takes.0 le in
          subst (λ p. Q (record { session = new.session; played = p; begun = new.begun })) (sym is.0)
          (subst (λ b. Q (record { session = new.session; played = old.played + 1; begun = b })) (sym is.1) (whole le))
      | false ↦ λ e.
          let lt : n < length bytes - old.begun = grind (arith, nat_tests, e) in
          let is = takes.1 lt in
          subst (λ p. Q (record { session = new.session; played = p; begun = new.begun })) (sym is.0)
          (subst (λ b. Q (record { session = new.session; played = old.played; begun = b })) (sym is.1) (more lt))
    ] refl

pub notes-piece : (options : PolicyOptions) (recording : Recording) (old new : PlayedNotes) (side : Side) (bytes : List ℕ) (n : ℕ) (given : List Note) → CutsChangeNothing →
    drop old.played recording.events ≡ recorded.Bytes side bytes ∷ drop (old.played + 1) recording.events → new.session.mode ≡ old.session.mode →
    ((events : List Event) (taken : Taken) → StandsFor options.policy old.session events taken → StandsFor options.policy new.session (Bytes (side_of side) (take n (drop old.begun bytes)) ∷ events) taken) →
    TakesPiece n bytes old new → GaveNotes options recording old given → GaveNotes options recording new given
notes-piece options recording old new side bytes n given cuts next mode stands takes gave =
    by_piece n bytes old new (λ p. GaveNotes options recording p given) takes
    (λ le. notes-whole options recording old new.session (recorded.Bytes side (drop old.begun bytes)) given (ap (left_behind old.begun) next) mode
    (λ events taken stood. subst (λ xs. StandsFor options.policy new.session (Bytes (side_of side) xs ∷ events) taken)
    (take_all n (drop old.begun bytes) (omega (arith, le, length-drop old.begun bytes))) (stands events taken stood)) gave)
    (λ lt. notes-begun options recording old new.session side bytes n given cuts next mode stands gave)

pub fewer-piece : (events : List Recorded) (old new : PlayedNotes) (side : Side) (bytes : List ℕ) (n : ℕ) → drop old.played events ≡ recorded.Bytes side bytes ∷ drop (old.played + 1) events → 0 < n →
    TakesPiece n bytes old new → most_pieces (left_of events new) < most_pieces (left_of events old)
fewer-piece events old new side bytes n next some takes =
    by_piece n bytes old new (λ p. most_pieces (left_of events p) < most_pieces (left_of events old)) takes
    (λ le. fewer-whole events old new.session (recorded.Bytes side (drop old.begun bytes)) (ap (left_behind old.begun) next))
    (λ lt. fewer-begun events old new.session side bytes n next some (omega (arith, lt, length-drop old.begun bytes)))

-- ---- a side's end

at_end : (old new : PlayedNotes) (Q : PlayedNotes → Type 0) → (new.played ≡ old.played + 1) × (new.begun ≡ 0) → Q (record { session = new.session; played = old.played + 1; begun = 0 }) → Q new
at_end old new Q is q = subst (λ p. Q (record { session = new.session; played = p; begun = new.begun })) (sym is.0) (subst (λ b. Q (record { session = new.session; played = old.played + 1; begun = b })) (sym is.1) q)

pub notes-end : (options : PolicyOptions) (recording : Recording) (old new : PlayedNotes) (side : Side) (given : List Note) → drop old.played recording.events ≡ recorded.Finished side ∷ drop (old.played + 1) recording.events →
    new.session.mode ≡ old.session.mode → ((events : List Event) (taken : Taken) → StandsFor options.policy old.session events taken → StandsFor options.policy new.session (Finished (side_of side) ∷ events) taken) →
    (new.played ≡ old.played + 1) × (new.begun ≡ 0) → GaveNotes options recording old given → GaveNotes options recording new given
notes-end options recording old new side given next mode stands is gave =
    at_end old new (λ p. GaveNotes options recording p given) is (notes-whole options recording old new.session (recorded.Finished side) given (ap (left_behind old.begun) next) mode stands gave)

pub fewer-end : (events : List Recorded) (old new : PlayedNotes) (side : Side) → drop old.played events ≡ recorded.Finished side ∷ drop (old.played + 1) events → (new.played ≡ old.played + 1) × (new.begun ≡ 0) →
    most_pieces (left_of events new) < most_pieces (left_of events old)
fewer-end events old new side next is = at_end old new (λ p. most_pieces (left_of events p) < most_pieces (left_of events old)) is (fewer-whole events old new.session (recorded.Finished side) (ap (left_behind old.begun) next))
