-- The file of a session is no longer than the file that its recording was read from, and its events fit their records.
use Rattle.std.proofs.Common.{◌≡◌, ◌≤◌, ◌+◌, ℕ, List, [], ◌∷◌, ◌++◌, true, false, cond, Ok, Some, refl, ap, sym, ◌∙◌, arith, length, length-append, map}
use Rattle.std.specs.Prelude.{◌==◌, All, nat_lt}
use Rattle.std.specs.List.{AllByRecursion, filter, flat_map}
use Rattle.std.proofs.lemmas.Bool.{ltb-false}
use Rattle.std.proofs.lemmas.List.Elements.{All-from_recursion, recursion_from_All}
use Rattle.recording.specs.declared.RecordingKind.TheVariants.{TooLong}
use Rattle.recording.specs.declared.TheConstants.{RECORDING_LIMIT}
use Rattle.recording.specs.Recording.{Event, Bytes, Finished, Recording, spelled_event, spelled_recording}
use Rattle.recording.specs.Seen.{Fits, size_of}
use Rattle.recording.specs.Sessions.{What, Happened, Stopped, SessionEvent, Sessions, bytes_of, migrated, one_session_event, sessions_of, spelled_session_event, spelled_sessions}
use Rattle.recording.specs.SessionsSeen.{EventFits, WhatFits, IsReadable, what_size}
use Rattle.recording.proofs.Fronts.{passed}
use Rattle.recording.proofs.Spellings.{length-spelled_event, length-spelled_recording}
use Rattle.replay.specs.SessionsOutput.{is_of}
use Rattle.session_files.specs.OneSession.{before_stop, happened_in, session_file_of, session_recording}
use Rattle.session_files.proofs.OwnWhats.{whats}

-- what was read is no longer than a recording may be
pub within : (file : List ℕ) (s : Sessions) → sessions_of file ≡ Ok s → length file ≤ RECORDING_LIMIT
unfolding sessions_of
within file s e = ltb-false RECORDING_LIMIT (length file) (passed (nat_lt RECORDING_LIMIT (length file)) TooLong RECORDING_LIMIT _ s e).0

-- ---- records of version 1 are shorter than those of version 2

abbrev spelled_own : List What → List ℕ
spelled_own ws = flat_map spelled_event (before_stop ws)

abbrev spelled_all : List SessionEvent → List ℕ
spelled_all events = flat_map spelled_session_event events

long : (e : SessionEvent) (all : List ℕ) → length (spelled_session_event e ++ all) ≡ 9 + what_size e.what + length all
long e all = omega (arith, length-append (bytes_of e.what) all, length-append (spelled_session_event e) all)

sized : (event : Event) → size_of event ≡ what_size (Happened event)
sized (Bytes side bytes) = refl
sized (Finished side) = refl

long-of-one : (event : Event) (all : List ℕ) → length (spelled_event event ++ all) ≡ 5 + what_size (Happened event) + length all
long-of-one event all = omega (arith, length-append (spelled_event event) all, length-spelled_event event, sized event)

-- what happened, after which shorter records come
shorter-next : (e : SessionEvent) (w : What) (ws : List What) (all : List ℕ) → e.what ≡ w → length (spelled_own ws) ≤ length all → length (spelled_own (w ∷ ws)) ≤ length (spelled_session_event e ++ all)
shorter-next e (Happened event) ws all is le = omega (arith, le, ap what_size is, long e all, long-of-one event (spelled_own ws))
shorter-next e (Stopped end) ws all is le = omega arith

shorter : (k : ℕ) (es : List SessionEvent) → length (spelled_own (happened_in k es)) ≤ length (spelled_all es)
shorter k [] = omega arith
shorter k (e ∷ es) =
    let others = shorter k es in
    elim (e.session == k) as (λ b. length (spelled_own (whats (cond b (e ∷ filter (is_of k) es) (filter (is_of k) es)))) ≤ length (spelled_all (e ∷ es))) [
      | true ↦ shorter-next e e.what (happened_in k es) (spelled_all es) refl others
      | false ↦ omega (arith, others, long e (spelled_all es))
    ]

-- ---- a recording of version 1

shorter-of-one : (k : ℕ) (es : List Event) → length (spelled_own (happened_in k (map one_session_event es))) ≤ length (flat_map spelled_event es)
shorter-of-one k [] = omega arith
shorter-of-one k (e ∷ es) =
    let others = shorter-of-one k es in
    let rest = filter (is_of k) (map one_session_event es) in
    let more = long-of-one e (flat_map spelled_event es) in
    elim (1 == k) as (λ b. length (spelled_own (whats (cond b (one_session_event e ∷ rest) rest))) ≤ length (flat_map spelled_event (e ∷ es))) [
      | true ↦ omega (arith, others, more, long-of-one e (spelled_own (whats rest)))
      | false ↦ omega (arith, others, more)
    ]

-- all its events are of session 1
all-own : (es : List Event) → before_stop (happened_in 1 (map one_session_event es)) ≡ es
all-own [] = refl
all-own (e ∷ es) = ap (λ t. e ∷ t) (all-own es)

-- ---- the bound

fits-by-events : (s : Sessions) (k : ℕ) (all file : List ℕ) → length (spelled_own (happened_in k s.events)) ≤ length all → 6 + length all ≡ length file → length file ≤ RECORDING_LIMIT →
    length (spelled_recording (session_recording s k)) ≤ RECORDING_LIMIT
fits-by-events s k all file le is short = omega (arith, le, is, short, length-spelled_recording (session_recording s k))

length-spelled-sessions : (s : Sessions) → 6 + length (spelled_all s.events) ≡ length (spelled_sessions s)
unfolding spelled_sessions
length-spelled-sessions s = omega arith

pub fits-of-one : (k : ℕ) (r : Recording) (file : List ℕ) → spelled_recording r ≡ file → length file ≤ RECORDING_LIMIT → length (spelled_recording (session_recording (migrated r) k)) ≤ RECORDING_LIMIT
fits-of-one k r file is short = fits-by-events (migrated r) k (flat_map spelled_event r.events) file (shorter-of-one k r.events) (sym (length-spelled_recording r) ∙ ap length is) short

pub fits-of-many : (s : Sessions) (k : ℕ) (file : List ℕ) → spelled_sessions s ≡ file → length file ≤ RECORDING_LIMIT → length (spelled_recording (session_recording s k)) ≤ RECORDING_LIMIT
fits-of-many s k file is short = fits-by-events s k (spelled_all s.events) file (shorter k s.events) (length-spelled-sessions s ∙ ap length is) short

-- ---- each event fits its record

fit-next : (w : What) (ws : List What) → WhatFits w → AllByRecursion Fits (before_stop ws) → AllByRecursion Fits (before_stop (w ∷ ws))
fit-next (Happened event) ws fits others = (fits, others)
fit-next (Stopped end) ws fits others = tt

own-fit : (k : ℕ) (es : List SessionEvent) → AllByRecursion EventFits es → AllByRecursion Fits (before_stop (happened_in k es))
own-fit k [] fit = tt
own-fit k (e ∷ es) fit =
    let others = own-fit k es fit.1 in
    elim (e.session == k) as (λ b. AllByRecursion Fits (before_stop (whats (cond b (e ∷ filter (is_of k) es) (filter (is_of k) es))))) [
      | true ↦ fit-next e.what (happened_in k es) fit.0.what others
      | false ↦ others
    ]

pub events-fit : (s : Sessions) (k : ℕ) → IsReadable s → All Fits (session_recording s k).events
events-fit s k readable = All-from_recursion Fits (before_stop (happened_in k s.events)) (own-fit k s.events (recursion_from_All EventFits s.events readable.fits.each))

-- ---- a recording of version 1 is its session's

pub own-file : (r : Recording) → session_file_of (migrated r) 1 ≡ Some (spelled_recording r)
own-file r = ap (λ es. Some (spelled_recording (record { auth = r.auth; events = es }))) (all-own r.events)
