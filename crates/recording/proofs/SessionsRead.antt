-- A recording of many sessions that is found is spelled by the file's bytes, and can be played.
use Rattle.std.proofs.Common.{◌≡◌, ℕ, zero, suc, ◌+◌, ◌^◌, ◌<◌, ◌≤◌, Bool, true, false, cond, List, [], ◌∷◌, ◌++◌, length, take, drop, get_or, map, Result, Ok, Err, refl, sym, ap, subst, ◌∙◌, append_assoc, arith, inl, inr}
use Rattle.std.specs.Prelude.{not, ◌&&◌, ◌||◌, ◌==◌, ◌⊎◌, nat_lt, nat_le, bytes_eq, IfOk}
use Rattle.std.specs.List.{flat_map, AllByRecursion}
use Rattle.std.specs.Int.{w32, to_le_bytes}
use Rattle.std.proofs.lemmas.List.{length-take-le, length-drop, length-append, get_or-drop, get_or-take, take-append-drop, drop-drop}
use Rattle.std.proofs.lemmas.List.Elements.{All-from_recursion}
use Rattle.std.proofs.lemmas.List.Sums.{sum_by-cons}
use Rattle.std.proofs.lemmas.Bool.{ltb-false, eqb-true, leb-true, and_parts, not-false}
use Rattle.std.proofs.lemmas.Bool.Decides.{nat_tests}
use Rattle.std.proofs.lemmas.Nat.{le_bytes_4}
use Rattle.byte_lists.proofs.Bytes.{bytes_eq-true, AreBytes-take, AreBytes-drop, two_pieces, from_le_bytes-below}
use Rattle.byte_lists.specs.Bytes.{AreBytes}
use Rattle.recording.specs.declared.RecordingKind.TheVariants.{BadMagic, BadVersion, Cut, BadAuth, TooLong}
use Rattle.recording.specs.declared.RecordingRefusal.{RecordingRefusal}
use Rattle.recording.specs.declared.sessions.Sessions.{Sessions as DeclaredSessions}
use Rattle.recording.specs.Gives.{GivesUnlessMemory}
use Rattle.recording.specs.declared.TheConstants.{RECORDING_LIMIT, SESSION_LIMIT}
use Rattle.recording.specs.Recording.{Event, Bytes, Finished, Recording, magic, auth_byte, ◌>>=◌, recording_of}
use Rattle.recording.specs.Seen.{Fits, size, size_of}
use Rattle.recording.specs.Sessions.{What, Happened, SessionEvent, Sessions, one_session_event, migrated, record_head, kind_of, bytes_of, spelled_session_event, spelled_sessions, with_session, sessions_named, record_session, session_record_len, is_wrong_length, is_wrong_end, what_of, session_events_at, FileHead, file_head_of, one_session_of, of_version_2, by_version, sessions_of}
use Rattle.recording.specs.SessionsSeen.{WhatFits, EventFits, IsReadable, what_size, sessions_seen, sessions_size}
use Rattle.recording.proofs.Fronts.{ok, ok_is, passed, bind}
use Rattle.recording.proofs.RecordingRead.{recording-is}
use Rattle.recording.proofs.SessionFronts.{names_session, session_front_is, stop_has_byte}
use Rattle.recording.proofs.Sizes.{recording-size}

-- ---- one record

-- what a kind and its bytes give is spelled by them, and a file can have it
record IsRecord (kind : ℕ) (bytes : List ℕ) : Type 0 where
  kind_is : kind_of (what_of kind bytes) ≡ kind
  bytes_are : bytes_of (what_of kind bytes) ≡ bytes
  fits : WhatFits (what_of kind bytes)

is_record : (kind : ℕ) (bytes : List ℕ) → kind ≤ 4 → is_wrong_length kind (length bytes) ≡ false → is_wrong_end kind (get_or bytes 0 0) ≡ false → length bytes < 2 ^ 32 → IsRecord kind bytes
is_record kind bytes low len end short = go (kind == 0) (kind == 1) (kind == 2) (kind == 3) refl refl refl refl
  where
    none : (k : ℕ) → nat_lt 1 k ≡ true → (k == 4) ≡ false → is_wrong_length k (length bytes) ≡ false → bytes ≡ []
    none k h n e = of_len bytes (not-false (length bytes == 0) (sym (ap (λ (b : Bool). b && not (length bytes == 0)) h) ∙ sym (ap (λ (b : Bool). cond b (not (length bytes == 1)) (nat_lt 1 k && not (length bytes == 0))) n) ∙ e))
      where
        of_len : (xs : List ℕ) → (length xs == 0) ≡ true → xs ≡ []
        of_len [] e = refl
        of_len (x ∷ xs) e = absurd (omega (arith, eqb-true (length (x ∷ xs)) 0 e))

    one : (xs : List ℕ) → length xs ≡ 1 → xs ≡ get_or xs 0 0 ∷ []
    one [] e = absurd (omega (arith, e))
    one (x ∷ []) e = refl
    one (x ∷ y ∷ xs) e = absurd (omega (arith, e))

    within : (n : ℕ) → not (nat_le 7 n && nat_le n 11) ≡ false → (7 ≤ n) × (n ≤ 11)
    within n e = let a = and_parts (nat_le 7 n) (nat_le n 11) (not-false (nat_le 7 n && nat_le n 11) e) in (leb-true 7 n a.0, leb-true n 11 a.1)

    at_kind : (k : ℕ) → kind ≡ k → is_wrong_length k (length bytes) ≡ false
    at_kind k e = ap (λ (x : ℕ). is_wrong_length x (length bytes)) (sym e) ∙ len

    go : (a b c d : Bool) → (kind == 0) ≡ a → (kind == 1) ≡ b → (kind == 2) ≡ c → (kind == 3) ≡ d → IsRecord kind bytes
    go true b c d h i j k = let z : kind ≡ 0 = eqb-true kind 0 h in rw z (record { kind_is = refl; bytes_are = refl; fits = short })
    go false true c d h i j k = let z : kind ≡ 1 = eqb-true kind 1 i in rw z (record { kind_is = refl; bytes_are = refl; fits = short })
    go false false true d h i j k =
        let z : kind ≡ 2 = eqb-true kind 2 j in
        let n : bytes ≡ [] = none 2 refl refl (at_kind 2 z) in
        rw (z, n) (record { kind_is = refl; bytes_are = refl; fits = omega arith })
    go false false false true h i j k =
        let z : kind ≡ 3 = eqb-true kind 3 k in
        let n : bytes ≡ [] = none 3 refl refl (at_kind 3 z) in
        rw (z, n) (record { kind_is = refl; bytes_are = refl; fits = omega arith })
    go false false false false h i j k =
        let z : kind ≡ 4 = grind (arith, nat_tests, h, i, j, k, low) in
        let n : bytes ≡ get_or bytes 0 0 ∷ [] = one bytes (stop_has_byte kind (length bytes) z len) in
        let w = within (get_or bytes 0 0) (ap (λ (x : ℕ). is_wrong_end x (get_or bytes 0 0)) (sym z) ∙ end) in
        rw z (record { kind_is = refl; bytes_are = sym n; fits = w })

-- the last byte of a stop's record
own_end : (kind : ℕ) (bytes : List ℕ) (len : ℕ) → is_wrong_length kind len ≡ false → is_wrong_end kind (get_or (kind ∷ bytes) 9 0) ≡ false → is_wrong_end kind (get_or (take len (drop 8 bytes)) 0 0) ≡ false
own_end kind bytes len l e = by_kind (kind == 4) refl
  where
    by_kind : (b : Bool) → (kind == 4) ≡ b → (b && not (nat_le 7 (get_or (take len (drop 8 bytes)) 0 0) && nat_le (get_or (take len (drop 8 bytes)) 0 0) 11)) ≡ false
    by_kind false k = refl
    by_kind true k =
        let is : len ≡ 1 = stop_has_byte kind len (eqb-true kind 4 k) l in
        let same : get_or (take len (drop 8 bytes)) 0 0 ≡ get_or bytes 8 0 = get_or-take len (drop 8 bytes) 0 0 (omega (arith, is)) ∙ get_or-drop 8 bytes 0 0 in
        ap (λ (x : ℕ). not (nat_le 7 x && nat_le x 11)) same ∙ sym (ap (λ (b : Bool). b && not (nat_le 7 (get_or bytes 8 0) && nat_le (get_or bytes 8 0) 11)) k) ∙ e

-- ---- records up to the end

abbrev spelled_all : List SessionEvent → List ℕ
spelled_all events = flat_map spelled_session_event events

record Read (before : List ℕ) (events : List SessionEvent) (bytes : List ℕ) : Type 0 where
  spelled : spelled_all events ≡ bytes
  fits : AllByRecursion EventFits events
  few : length (sessions_named before events) ≤ SESSION_LIMIT

read_as : (before : List ℕ) (events found : List SessionEvent) (bytes : List ℕ) → ok events ≡ ok found → Read before events bytes → Read before found bytes
read_as before events found bytes e r = subst (λ (es : List SessionEvent). Read before es bytes) (ok_is events found e) r

three_pieces : (len : ℕ) (t : List ℕ) → ((take 4 t ++ take 4 (drop 4 t)) ++ take len (drop 8 t)) ++ drop (8 + len) t ≡ t
three_pieces len t =
    append_assoc (take 4 t ++ take 4 (drop 4 t)) (take len (drop 8 t)) (drop (8 + len) t)
    ∙ ap (λ (x : List ℕ). (take 4 t ++ take 4 (drop 4 t)) ++ (take len (drop 8 t) ++ x)) (sym (drop-drop len 8 t))
    ∙ ap (λ (x : List ℕ). (take 4 t ++ take 4 (drop 4 t)) ++ x) (take-append-drop len (drop 8 t))
    ∙ append_assoc (take 4 t) (take 4 (drop 4 t)) (drop 8 t)
    ∙ sym (append_assoc (take 4 t) (take 4 (drop 4 t)) (drop 8 t))
    ∙ two_pieces 4 4 t

events_are : (n : ℕ) (before : List ℕ) (place : ℕ) (bytes : List ℕ) (events : List SessionEvent) → AreBytes bytes → length before ≤ SESSION_LIMIT → length bytes ≤ n →
    session_events_at n before place bytes ≡ Ok events → Read before events bytes
unfolding session_events_at
events_are zero before place [] events are few h e = read_as before [] events [] e (record { spelled = refl; fits = tt; few = few })
events_are zero before place (b ∷ bytes) events are few h e = absurd (omega (arith, h))
events_are (suc n) before place [] events are few h e = read_as before [] events [] e (record { spelled = refl; fits = tt; few = few })
events_are (suc n) before place (kind ∷ bytes) events are few h e =
    let all = kind ∷ bytes in
    bind (record_session before place all) (λ session. session_record_len place all >>= λ len. session_events_at n (with_session before session) (place + 9 + len) (drop (8 + len) bytes) >>= λ es. Ok (made session (what_of kind (take len (drop 8 bytes))) ∷ es)) events e (λ session es_is e1.
    bind (session_record_len place all) (λ len. session_events_at n (with_session before session) (place + 9 + len) (drop (8 + len) bytes) >>= λ es. Ok (made session (what_of kind (take len (drop 8 bytes))) ∷ es)) events e1 (λ len el e2.
    bind (session_events_at n (with_session before session) (place + 9 + len) (drop (8 + len) bytes)) (λ es. Ok (made session (what_of kind (take len (drop 8 bytes))) ∷ es)) events e2 (λ es ee e3.
    let s = names_session before place all session es_is in
    let f = session_front_is place all len el in
    let own = take len (drop 8 bytes) in
    let rest = drop (8 + len) bytes in
    let are_behind : AreBytes bytes = λ i. are (suc i) in
    let are_next : AreBytes (take 4 (drop 4 bytes)) = AreBytes-take 4 (drop 4 bytes) (AreBytes-drop 4 bytes are_behind) in
    let own_len : length own ≡ len = length-take-le len (drop 8 bytes) (omega (arith, f.all, length-drop 8 bytes)) in
    let first : to_le_bytes w32 session ≡ take 4 bytes = le_bytes_4 (take 4 bytes) session (length-take-le 4 bytes (omega (arith, f.head))) (AreBytes-take 4 bytes are_behind) s.is in
    let second : to_le_bytes w32 len ≡ take 4 (drop 4 bytes) = le_bytes_4 (take 4 (drop 4 bytes)) len (length-take-le 4 (drop 4 bytes) (omega (arith, f.head, length-drop 4 bytes))) are_next f.len_is in
    let small : len < 2 ^ 32 = subst (λ (k : ℕ). k < 2 ^ 32) (sym f.len_is) (from_le_bytes-below (take 4 (drop 4 bytes)) are_next) in
    let numbered : session < 2 ^ 32 = subst (λ (k : ℕ). k < 2 ^ 32) (sym s.is) (from_le_bytes-below (take 4 bytes) (AreBytes-take 4 bytes are_behind)) in
    let r = is_record kind own s.kind (ap (is_wrong_length kind) own_len ∙ f.fits) (own_end kind bytes len f.fits f.ends) (omega (arith, own_len, small)) in
    let others = events_are n (with_session before session) (place + 9 + len) rest es (AreBytes-drop (8 + len) bytes are_behind) s.few (omega (arith, h, length-drop (8 + len) bytes)) ee in
    let fits : EventFits (made session (what_of kind own)) = record { above_zero = above_zero session s.not_zero; below = numbered; what = r.fits } in
    read_as before (made session (what_of kind own) ∷ es) events all e3 (record {
      spelled =
          ap (λ (t : List ℕ). t ++ spelled_all es) (ap (λ (k : ℕ). record_head k session (length (bytes_of (what_of kind own))) ++ bytes_of (what_of kind own)) r.kind_is ∙ ap (λ (b : List ℕ). record_head kind session (length b) ++ b) r.bytes_are ∙ ap (λ (k : ℕ). record_head kind session k ++ own) own_len ∙ ap (λ (t : List ℕ). (kind ∷ t ++ to_le_bytes w32 len) ++ own) first ∙ ap (λ (t : List ℕ). (kind ∷ take 4 bytes ++ t) ++ own) second)
          ∙ ap (λ (t : List ℕ). ((kind ∷ take 4 bytes ++ take 4 (drop 4 bytes)) ++ own) ++ t) others.spelled
          ∙ ap (λ (t : List ℕ). kind ∷ t) (three_pieces len bytes);
      fits = (fits, others.fits);
      few = others.few;
    }))))
  where
    made : ℕ → What → SessionEvent
    made session what = record { session = session; what = what }

    above_zero : (n : ℕ) → (n == 0) ≡ false → 0 < n
    above_zero n e = grind (arith, nat_tests, e)

-- ---- the first six bytes

head_is : (bytes : List ℕ) (h : FileHead) → (h.version == 1) ≡ false → file_head_of bytes ≡ Ok h → bytes ≡ magic ++ 2 ∷ auth_byte h.auth ∷ drop 6 bytes
unfolding file_head_of
head_is bytes h n e =
    let a = passed (nat_lt (length bytes) 4) Cut (length bytes) _ h e in
    let b = passed (not (bytes_eq (take 4 bytes) magic)) BadMagic 0 _ h a.1 in
    let c = passed (nat_lt (length bytes) 5) Cut (length bytes) _ h b.1 in
    let d = passed (not (get_or bytes 4 0 == 1 || get_or bytes 4 0 == 2)) BadVersion 4 _ h c.1 in
    let f = passed (nat_lt (length bytes) 6) Cut (length bytes) _ h d.1 in
    let g = passed (nat_lt 1 (get_or bytes 5 0)) BadAuth 5 _ h f.1 in
    let is : (record { version = get_or bytes 4 0; auth = get_or bytes 5 0 == 1 }) ≡ h = ok_is (record { version = get_or bytes 4 0; auth = get_or bytes 5 0 == 1 }) h g.1 in
    let front : take 4 bytes ≡ magic = bytes_eq-true (take 4 bytes) magic (not-false (bytes_eq (take 4 bytes) magic) b.0) in
    let other : (get_or bytes 4 0 == 1) ≡ false = ap (λ (x : FileHead). x.version == 1) is ∙ n in
    let version : get_or bytes 4 0 ≡ 2 = eqb-true (get_or bytes 4 0) 2 (sym (ap (λ (x : Bool). x || get_or bytes 4 0 == 2) other) ∙ not-false (get_or bytes 4 0 == 1 || get_or bytes 4 0 == 2) d.0) in
    let auth : auth_byte h.auth ≡ get_or bytes 5 0 = ap (λ (x : FileHead). auth_byte x.auth) (sym is) ∙ worth (get_or bytes 5 0) (ltb-false 1 (get_or bytes 5 0) g.0) in
    parted bytes (ltb-false (length bytes) 6 f.0)
    ∙ ap (λ (t : List ℕ). t ++ get_or bytes 4 0 ∷ get_or bytes 5 0 ∷ drop 6 bytes) front
    ∙ ap (λ (v : ℕ). magic ++ v ∷ get_or bytes 5 0 ∷ drop 6 bytes) version
    ∙ ap (λ (x : ℕ). magic ++ 2 ∷ x ∷ drop 6 bytes) (sym auth)
  where
    worth : (x : ℕ) → x ≤ 1 → auth_byte (x == 1) ≡ x
    worth zero h = refl
    worth (suc zero) h = refl
    worth (suc (suc x)) h = absurd (omega (arith, h))

    parted : (bytes : List ℕ) → 6 ≤ length bytes → bytes ≡ take 4 bytes ++ get_or bytes 4 0 ∷ get_or bytes 5 0 ∷ drop 6 bytes
    parted (a ∷ b ∷ c ∷ d ∷ e ∷ f ∷ bytes) h = refl
    parted _ h = absurd (omega (arith, h))

pub file_head_long : (bytes : List ℕ) (h : FileHead) → file_head_of bytes ≡ Ok h → 6 ≤ length bytes
unfolding file_head_of
file_head_long bytes h e =
    let a = passed (nat_lt (length bytes) 4) Cut (length bytes) _ h e in
    let b = passed (not (bytes_eq (take 4 bytes) magic)) BadMagic 0 _ h a.1 in
    let c = passed (nat_lt (length bytes) 5) Cut (length bytes) _ h b.1 in
    let d = passed (not (get_or bytes 4 0 == 1 || get_or bytes 4 0 == 2)) BadVersion 4 _ h c.1 in
    let f = passed (nat_lt (length bytes) 6) Cut (length bytes) _ h d.1 in
    ltb-false (length bytes) 6 f.0

-- ---- the file

-- a file of version 1
pub record IsOfOne (bytes : List ℕ) (s : Sessions) : Type 0 where
  pub recording : Recording
  pub read : recording_of bytes ≡ Ok recording
  pub is : s ≡ migrated recording

-- a file of version 2
pub record IsOfMany (bytes : List ℕ) (s : Sessions) : Type 0 where
  pub auth : Bool
  pub events : List SessionEvent
  pub head : bytes ≡ magic ++ 2 ∷ auth_byte auth ∷ drop 6 bytes
  pub read : session_events_at (length bytes) [] 6 (drop 6 bytes) ≡ Ok events
  pub is : s ≡ record { version = 2; auth = auth; events = events }
  pub short : length bytes ≤ RECORDING_LIMIT

pub of_version : (bytes : List ℕ) (s : Sessions) → sessions_of bytes ≡ Ok s → IsOfOne bytes s ⊎ IsOfMany bytes s
unfolding sessions_of
of_version bytes s e =
    let a = passed (nat_lt RECORDING_LIMIT (length bytes)) TooLong RECORDING_LIMIT _ s e in
    bind (file_head_of bytes) (λ h. by_version h bytes) s a.1 (λ h eh e1. go h eh (h.version == 1) refl e1 (ltb-false RECORDING_LIMIT (length bytes) a.0))
  where
    made : Bool → List SessionEvent → Sessions
    made auth events = record { version = 2; auth = auth; events = events }

    go : (h : FileHead) → file_head_of bytes ≡ Ok h → (b : Bool) → (h.version == 1) ≡ b → cond b (one_session_of bytes) (of_version_2 h.auth bytes) ≡ Ok s → length bytes ≤ RECORDING_LIMIT → IsOfOne bytes s ⊎ IsOfMany bytes s
    go h eh true n e1 short = bind (recording_of bytes) (λ r. Ok (migrated r)) s e1 (λ r er e2. inl (record { recording = r; read = er; is = sym (ok_is (migrated r) s e2) }))
    go h eh false n e1 short =
        bind (session_events_at (length bytes) [] 6 (drop 6 bytes)) (λ events. Ok (made h.auth events)) s e1 (λ events ee e2.
        inr (record { auth = h.auth; events = events; head = head_is bytes h n eh; read = ee; is = sym (ok_is (made h.auth events) s e2); short = short }))

-- ---- what was read can be played

all_read : (bytes : List ℕ) (events : List SessionEvent) → AreBytes bytes → session_events_at (length bytes) [] 6 (drop 6 bytes) ≡ Ok events → Read [] events (drop 6 bytes)
all_read bytes events are e = events_are (length bytes) [] 6 (drop 6 bytes) events (AreBytes-drop 6 bytes are) (omega arith) (omega (arith, length-drop 6 bytes)) e

spelled-size : (events : List SessionEvent) → sessions_size events ≤ length (spelled_all events)
spelled-size [] = omega arith
spelled-size (e ∷ events) =
    omega (arith, sum_by-cons (λ (x : SessionEvent). what_size x.what) e events, spelled-size events, length-append (bytes_of e.what) (spelled_all events), length-append (spelled_session_event e) (spelled_all events))

one_each : (events : List Event) → AllByRecursion Fits events → AllByRecursion EventFits (map one_session_event events)
one_each [] f = tt
one_each (e ∷ events) f = (record { above_zero = omega arith; below = omega arith; what = f.0 }, one_each events f.1)

one_named : (events : List Event) → sessions_named (1 ∷ []) (map one_session_event events) ≡ 1 ∷ []
one_named [] = refl
one_named (e ∷ events) = one_named events

one_few : (events : List Event) → length (sessions_named [] (map one_session_event events)) ≤ SESSION_LIMIT
one_few [] = omega arith
one_few (e ∷ events) = omega (arith, ap length (one_named events))

one_size : (events : List Event) → sessions_size (map one_session_event events) ≡ size events
one_size [] = refl
one_size (e ∷ events) =
    omega (arith, sum_by-cons (λ (x : SessionEvent). what_size x.what) (one_session_event e) (map one_session_event events), sum_by-cons size_of e events, one_size events, own e)
  where
    own : (e : Event) → what_size (Happened e) ≡ size_of e
    own (Bytes side bytes) = refl
    own (Finished side) = refl

migrated-readable : (bytes : List ℕ) (r : Recording) → AreBytes bytes → recording_of bytes ≡ Ok r → IsReadable (migrated r)
migrated-readable bytes r are e = record {
  version = inl refl;
  one_session = λ v. (r, refl);
  fits = record { each = All-from_recursion EventFits (map one_session_event r.events) (one_each r.events (recording-is bytes r are e).fits); few = one_few r.events };
  size = omega (arith, one_size r.events, recording-size bytes r e);
}

many-readable : (bytes : List ℕ) (auth : Bool) (events : List SessionEvent) → length bytes ≤ RECORDING_LIMIT → Read [] events (drop 6 bytes) → IsReadable (record { version = 2; auth = auth; events = events })
many-readable bytes auth events short read = record {
  version = inr refl;
  one_session = λ v. absurd (omega (arith, v));
  fits = record { each = All-from_recursion EventFits events read.fits; few = read.few };
  size = omega (arith, short, spelled-size events, ap length read.spelled, length-drop 6 bytes);
}

pub sessions-readable : (bytes : List ℕ) (s : Sessions) → AreBytes bytes → sessions_of bytes ≡ Ok s → IsReadable s
sessions-readable bytes s are e = elim (of_version bytes s e) [
  | inl one ↦ subst (λ (x : Sessions). IsReadable x) (sym one.is) (migrated-readable bytes one.recording are one.read)
  | inr many ↦ subst (λ (x : Sessions). IsReadable x) (sym many.is) (many-readable bytes many.auth many.events many.short (all_read bytes many.events are many.read))
]

-- a recording of version 2 is spelled by its file
pub sessions-are : (bytes : List ℕ) (s : Sessions) → AreBytes bytes → sessions_of bytes ≡ Ok s → s.version ≡ 2 → spelled_sessions s ≡ bytes
unfolding spelled_sessions
sessions-are bytes s are e two = elim (of_version bytes s e) [
  | inl one ↦ absurd (omega (arith, two, ap (λ (x : Sessions). x.version) one.is))
  | inr many ↦
      let spelled : spelled_all many.events ≡ drop 6 bytes = (all_read bytes many.events are many.read).spelled in
      ap spelled_sessions many.is ∙ ap (λ (t : List ℕ). magic ++ 2 ∷ auth_byte many.auth ∷ t) spelled ∙ sym many.head
]

-- a file of version 1 gives its recording alone
pub only_recording : (bytes : List ℕ) (s : Sessions) → sessions_of bytes ≡ Ok s → s.version ≡ 1 → (r : Recording) × (recording_of bytes ≡ Ok r) × (s ≡ migrated r)
only_recording bytes s e v = elim (of_version bytes s e) [
  | inl one ↦ (one.recording, one.read, one.is)
  | inr many ↦ absurd (omega (arith, v, ap (λ (x : Sessions). x.version) many.is))
]

-- what reading answers
pub given-readable : (result : Result DeclaredSessions RecordingRefusal) (bytes : List ℕ) → AreBytes bytes → GivesUnlessMemory sessions_seen result (sessions_of bytes) → IfOk result (λ s. IsReadable (sessions_seen s))
given-readable (Ok s) bytes are e = sessions-readable bytes (sessions_seen s) are e
given-readable (Err refusal) bytes are e = tt
