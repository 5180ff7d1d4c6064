-- A recording of many sessions that is spelled is read again.
use Rattle.std.proofs.Common.{◌≡◌, ℕ, zero, suc, ◌+◌, ◌^◌, ◌<◌, ◌≤◌, Bool, true, false, List, [], ◌∷◌, ◌++◌, length, take, drop, get_or, Ok, refl, sym, ap, ◌∙◌, arith}
use Rattle.std.specs.Prelude.{not, ◌&&◌, ◌==◌, nat_lt, nat_le}
use Rattle.std.specs.List.{flat_map, AllByRecursion}
use Rattle.std.specs.Int.{w32, to_le_bytes, from_le_bytes}
use Rattle.std.proofs.lemmas.List.{length-append, take_at, drop_at}
use Rattle.std.proofs.lemmas.Bool.{le-ltb, le-leb, ne_eqb}
use Rattle.std.proofs.lemmas.Nat.{from_le_bytes-to_le_bytes_4}
use Rattle.recording.specs.declared.Side.TheVariants.{Client, Bus}
use Rattle.recording.specs.declared.RecordingKind.TheVariants.{BadKind, Cut, BadLength, TooLong, BadSession, TooManySessions, BadEnd}
use Rattle.recording.specs.declared.TheConstants.{RECORDING_LIMIT, SESSION_LIMIT}
use Rattle.recording.specs.Recording.{Bytes, Finished, magic, auth_byte, ◌>>=◌, refused}
use Rattle.recording.specs.Sessions.{What, Happened, Stopped, SessionEvent, Sessions, kind_of, bytes_of, spelled_session_event, spelled_sessions, with_session, sessions_named, record_session, session_record_len, is_wrong_length, is_wrong_end, what_of, session_events_at, FileHead, file_head_of, by_version, sessions_of}
use Rattle.recording.specs.SessionsSeen.{WhatFits, EventFits}
use Rattle.recording.proofs.Fronts.{ok}
use Rattle.recording.proofs.Named.{named-grows}
use Rattle.recording.proofs.RecordingLaws.{skip, then_ok, six}

-- ---- one record

-- a record of what happened has no fault, and is read as that
record IsSpelled (what : What) : Type 0 where
  low : nat_lt 4 (kind_of what) ≡ false
  short : length (bytes_of what) < 2 ^ 32
  len_is : is_wrong_length (kind_of what) (length (bytes_of what)) ≡ false
  end_is : (rest : List ℕ) → is_wrong_end (kind_of what) (get_or (bytes_of what ++ rest) 0 0) ≡ false
  back : what_of (kind_of what) (bytes_of what) ≡ what

is_spelled : (what : What) → WhatFits what → IsSpelled what
is_spelled (Happened (Bytes Client bytes)) f = record { low = refl; short = f; len_is = refl; end_is = λ rest. refl; back = refl }
is_spelled (Happened (Bytes Bus bytes)) f = record { low = refl; short = f; len_is = refl; end_is = λ rest. refl; back = refl }
is_spelled (Happened (Finished Client)) f = record { low = refl; short = omega arith; len_is = refl; end_is = λ rest. refl; back = refl }
is_spelled (Happened (Finished Bus)) f = record { low = refl; short = omega arith; len_is = refl; end_is = λ rest. refl; back = refl }
is_spelled (Stopped end) f = record {
  low = refl;
  short = omega arith;
  len_is = refl;
  end_is = λ rest. ap (λ (b : Bool). not (b && nat_le end 11)) (le-leb 7 end f.0) ∙ ap not (le-leb end 11 f.1);
  back = refl;
}

session_front : (before : List ℕ) (place : ℕ) (e : SessionEvent) (rest : List ℕ) → EventFits e → length (with_session before e.session) ≤ SESSION_LIMIT →
    record_session before place (spelled_session_event e ++ rest) ≡ Ok e.session
unfolding record_session
session_front before place e rest f few =
    let number : from_le_bytes w32 (to_le_bytes w32 e.session) ≡ e.session = from_le_bytes-to_le_bytes_4 e.session f.below in
    let all = spelled_session_event e ++ rest in
    let size : length all ≡ 9 + (length (bytes_of e.what) + length rest) = omega (arith, length-append (bytes_of e.what) rest) in
    skip _ (refused BadKind place) _ _ (is_spelled e.what f.what).low
    (skip _ (refused Cut (place + length all)) _ _ (le-ltb (length all) 5 (omega (arith, size)))
    (skip _ (refused BadSession (place + 1)) _ _ (ap (λ (k : ℕ). k == 0) number ∙ ne_eqb e.session 0 (λ z. omega (arith, z, f.above_zero)))
    (skip _ (refused TooManySessions place) _ _ (ap (λ (k : ℕ). nat_lt SESSION_LIMIT (length (with_session before k))) number ∙ le-ltb SESSION_LIMIT (length (with_session before e.session)) few)
    (ap (λ (k : ℕ). ok k) number))))

len_front : (place : ℕ) (e : SessionEvent) (rest : List ℕ) → EventFits e → session_record_len place (spelled_session_event e ++ rest) ≡ Ok (length (bytes_of e.what))
unfolding session_record_len
len_front place e rest f =
    let s = is_spelled e.what f.what in
    let bytes = bytes_of e.what in
    let len : from_le_bytes w32 (to_le_bytes w32 (length bytes)) ≡ length bytes = from_le_bytes-to_le_bytes_4 (length bytes) s.short in
    let all = spelled_session_event e ++ rest in
    let size : length all ≡ 9 + (length bytes + length rest) = omega (arith, length-append bytes rest) in
    skip _ (refused Cut (place + length all)) _ _ (le-ltb (length all) 9 (omega (arith, size)))
    (skip _ (refused BadLength (place + 5)) _ _ (ap (is_wrong_length (kind_of e.what)) len ∙ s.len_is)
    (skip _ (refused Cut (place + length all)) _ _ (ap (λ (k : ℕ). nat_lt (length all) (9 + k)) len ∙ le-ltb (length all) (9 + length bytes) (omega (arith, size)))
    (skip _ (refused BadEnd (place + 9)) _ _ (s.end_is rest)
    (ap (λ (k : ℕ). ok k) len))))

record_step : (n : ℕ) (before : List ℕ) (place : ℕ) (e : SessionEvent) (rest : List ℕ) (events : List SessionEvent) → EventFits e → length (with_session before e.session) ≤ SESSION_LIMIT →
    ((q : ℕ) → session_events_at n (with_session before e.session) q rest ≡ Ok events) →
    session_events_at (suc n) before place (spelled_session_event e ++ rest) ≡ Ok (e ∷ events)
unfolding session_events_at
record_step n before place e rest events f few others =
    let bytes = bytes_of e.what in
    let first = to_le_bytes w32 e.session in
    let second = to_le_bytes w32 (length bytes) in
    let all = spelled_session_event e ++ rest in
    let behind : drop (8 + length bytes) (first ++ second ++ bytes ++ rest) ≡ rest = drop_at (first ++ second ++ bytes) rest (8 + length bytes) (omega arith) in
    then_ok (record_session before place all) (λ session. session_record_len place all >>= λ len. session_events_at n (with_session before session) (place + 9 + len) (drop (8 + len) (first ++ second ++ bytes ++ rest)) >>= λ es. Ok (made session (take len (bytes ++ rest)) ∷ es)) e.session _ (session_front before place e rest f few)
    (then_ok (session_record_len place all) (λ len. session_events_at n (with_session before e.session) (place + 9 + len) (drop (8 + len) (first ++ second ++ bytes ++ rest)) >>= λ es. Ok (made e.session (take len (bytes ++ rest)) ∷ es)) (length bytes) _ (len_front place e rest f)
    (then_ok (session_events_at n (with_session before e.session) (place + 9 + length bytes) (drop (8 + length bytes) (first ++ second ++ bytes ++ rest))) (λ es. Ok (made e.session (take (length bytes) (bytes ++ rest)) ∷ es)) events _
    (ap (session_events_at n (with_session before e.session) (place + 9 + length bytes)) behind ∙ others (place + 9 + length bytes))
    (ap (λ (b : List ℕ). ok (made e.session b ∷ events)) (take_at bytes rest (length bytes) refl)
    ∙ ap (λ (w : What). ok (with_what w ∷ events)) (is_spelled e.what f.what).back)))
  where
    with_what : What → SessionEvent
    with_what w = record { session = e.session; what = w }

    made : ℕ → List ℕ → SessionEvent
    made session b = record { session = session; what = what_of (kind_of e.what) b }

-- ---- all records

events_again : (events : List SessionEvent) (n : ℕ) (before : List ℕ) (place : ℕ) → AllByRecursion EventFits events → length (sessions_named before events) ≤ SESSION_LIMIT →
    length (flat_map spelled_session_event events) ≤ n → session_events_at n before place (flat_map spelled_session_event events) ≡ Ok events
unfolding session_events_at
events_again [] zero before place f few h = refl
events_again [] (suc n) before place f few h = refl
events_again (e ∷ events) zero before place f few h = absurd (omega (arith, h, length-append (spelled_session_event e) (flat_map spelled_session_event events)))
events_again (e ∷ events) (suc n) before place f few h =
    record_step n before place e (flat_map spelled_session_event events) events f.0 (omega (arith, few, named-grows (with_session before e.session) events))
    (λ q. events_again events n (with_session before e.session) q f.1 few (omega (arith, h, length-append (spelled_session_event e) (flat_map spelled_session_event events))))

-- ---- the file

abbrev head : ℕ → Bool → FileHead
head version auth = record { version = version; auth = auth }

head_again : (auth : Bool) (bytes : List ℕ) → file_head_of (magic ++ 2 ∷ auth_byte auth ∷ bytes) ≡ Ok (head 2 auth)
unfolding file_head_of
head_again true bytes =
    skip _ _ _ _ (six 68 66 80 82 2 1 4 bytes (omega arith)) (skip _ _ _ _ (six 68 66 80 82 2 1 5 bytes (omega arith)) (skip _ _ _ _ (six 68 66 80 82 2 1 6 bytes (omega arith)) refl))
head_again false bytes =
    skip _ _ _ _ (six 68 66 80 82 2 0 4 bytes (omega arith)) (skip _ _ _ _ (six 68 66 80 82 2 0 5 bytes (omega arith)) (skip _ _ _ _ (six 68 66 80 82 2 0 6 bytes (omega arith)) refl))

again : (auth : Bool) (events : List SessionEvent) → AllByRecursion EventFits events → length (sessions_named [] events) ≤ SESSION_LIMIT →
    let s : Sessions = record { version = 2; auth = auth; events = events } in length (spelled_sessions s) ≤ RECORDING_LIMIT → sessions_of (spelled_sessions s) ≡ Ok s
unfolding sessions_of spelled_sessions
again auth events fits few short =
    let s : Sessions = record { version = 2; auth = auth; events = events } in
    let all = spelled_sessions s in
    let records = flat_map spelled_session_event events in
    skip (nat_lt RECORDING_LIMIT (length all)) (refused TooLong RECORDING_LIMIT) _ _ (le-ltb RECORDING_LIMIT (length all) short)
    (then_ok (file_head_of all) (λ h. by_version h all) (head 2 auth) _ (head_again auth records)
    (then_ok (session_events_at (length all) [] 6 records) (λ es. Ok (record { version = 2; auth = auth; events = es })) events _ (events_again events (length all) [] 6 fits few (omega arith)) refl))

-- what is spelled is read again
pub sessions_again : (s : Sessions) → s.version ≡ 2 → AllByRecursion EventFits s.events → length (sessions_named [] s.events) ≤ SESSION_LIMIT →
    length (spelled_sessions s) ≤ RECORDING_LIMIT → sessions_of (spelled_sessions s) ≡ Ok s
unfolding spelled_sessions
sessions_again s two fits few short = again s.auth s.events fits few short ∙ ap (λ (v : ℕ). ok (versioned v)) (sym two)
  where
    versioned : ℕ → Sessions
    versioned v = record { version = v; auth = s.auth; events = s.events }
