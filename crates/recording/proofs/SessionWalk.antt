-- A walk over the records of a file of version 2.
use Rattle.std.proofs.Common.{◌≡◌, ℕ, zero, suc, ◌+◌, ◌-◌, ◌<◌, ◌≤◌, Bool, true, false, cond, List, [], ◌∷◌, ◌++◌, length, take, drop, get_or, map, Result, Ok, Err, refl, sym, ap, ◌∙◌, arith}
use Rattle.std.specs.Prelude.{◌==◌}
use Rattle.std.specs.Int.{w32, from_le_bytes}
use Rattle.std.specs.List.{slice_range}
use Rattle.std.proofs.lemmas.List.{append-nil, drop-drop, drop_all, length-drop, get_or-drop, map_push}
use Rattle.std.proofs.lemmas.Bool.{le-ltb, lt-ltb}
use Rattle.recording.specs.declared.RecordingKind.TheVariants.{TooLong}
use Rattle.recording.specs.declared.BadRecording.{BadRecording}
use Rattle.recording.specs.declared.sessions.SessionEvent.{SessionEvent as DeclaredEvent}
use Rattle.recording.specs.declared.TheConstants.{RECORDING_LIMIT}
use Rattle.recording.specs.Recording.{◌>>=◌, refused}
use Rattle.recording.specs.Passes.{counted}
use Rattle.recording.specs.Sessions.{SessionEvent, Sessions, FileHead, with_session, sessions_named, number_at, record_session, session_record_len, what_of, session_events_at, file_head_of, one_session_of, of_version_2, by_version, sessions_of}
use Rattle.recording.specs.SessionPasses.{session_records, session_event_of}
use Rattle.recording.specs.SessionsSeen.{session_event_seen}
use Rattle.recording.proofs.Fronts.{ok}
use Rattle.recording.proofs.Named.{named-push}
use Rattle.recording.proofs.SessionFronts.{names_session, session_front_is, stop_has_byte}
use Rattle.recording.proofs.Walk.{bind_same, behind, number, counted-behind, with_front, with_front-behind, tail}

-- the events after a record's head, at most this many
abbrev rest_at : ℕ → ℕ → ℕ → List ℕ → List ℕ → ℕ → ℕ → Result (List SessionEvent) BadRecording
rest_at n place kind before bytes session len =
    session_events_at n (with_session before session) (place + 9 + len) (drop (8 + len) bytes) >>= λ es. Ok (record { session = session; what = what_of kind (take len (drop 8 bytes)) } ∷ es)

-- more turns than bytes change nothing
enough : (n m : ℕ) (before : List ℕ) (place : ℕ) (bytes : List ℕ) → length bytes ≤ n → length bytes ≤ m → session_events_at n before place bytes ≡ session_events_at m before place bytes
unfolding session_events_at
enough zero zero before place [] h k = refl
enough zero (suc m) before place [] h k = refl
enough (suc n) zero before place [] h k = refl
enough (suc n) (suc m) before place [] h k = refl
enough zero m before place (kind ∷ bytes) h k = absurd (omega (arith, h))
enough (suc n) zero before place (kind ∷ bytes) h k = absurd (omega (arith, k))
enough (suc n) (suc m) before place (kind ∷ bytes) h k =
    bind_same (record_session before place (kind ∷ bytes))
    (λ session. session_record_len place (kind ∷ bytes) >>= λ len. rest_at n place kind before bytes session len)
    (λ session. session_record_len place (kind ∷ bytes) >>= λ len. rest_at m place kind before bytes session len)
    (λ session. bind_same (session_record_len place (kind ∷ bytes)) (λ len. rest_at n place kind before bytes session len) (λ len. rest_at m place kind before bytes session len)
    (λ len. ap (λ (r : Result (List SessionEvent) BadRecording). r >>= λ es. Ok (record { session = session; what = what_of kind (take len (drop 8 bytes)) } ∷ es))
    (enough n m (with_session before session) (place + 9 + len) (drop (8 + len) bytes) (omega (arith, h, length-drop (8 + len) bytes)) (omega (arith, k, length-drop (8 + len) bytes)))))

-- a record without a fault, and then those after it
records-cons : (before : List ℕ) (place session len : ℕ) (bytes : List ℕ) → 0 < length bytes → record_session before place bytes ≡ Ok session → session_record_len place bytes ≡ Ok len →
    session_records before place bytes
    ≡ behind (record { session = session; what = what_of (get_or bytes 0 0) (take len (drop 9 bytes)) }) (session_records (with_session before session) (place + 9 + len) (drop (9 + len) bytes))
unfolding session_events_at
records-cons before place session len [] some s e = absurd (omega (arith, some))
records-cons before place session len (kind ∷ bytes) some s e =
    let own : SessionEvent = record { session = session; what = what_of kind (take len (drop 8 bytes)) } in
    ap (λ (r : Result ℕ BadRecording). r >>= λ x. session_record_len place (kind ∷ bytes) >>= λ n. rest_at (length bytes) place kind before bytes x n) s
    ∙ ap (λ (r : Result ℕ BadRecording). r >>= λ n. rest_at (length bytes) place kind before bytes session n) e
    ∙ ap (behind own) (enough (length bytes) (length (drop (8 + len) bytes)) (with_session before session) (place + 9 + len) (drop (8 + len) bytes) (omega (arith, length-drop (8 + len) bytes)) (omega arith))
    ∙ ap (λ (k : ℕ). behind own (session_records (with_session before session) (place + 9 + len) (drop k (kind ∷ bytes)))) (suc_is len)
  where
    suc_is : (n : ℕ) → suc (8 + n) ≡ 9 + n
    suc_is n = omega arith

-- a fault of the record in front is the first
records-bad_session : (before : List ℕ) (place : ℕ) (bytes : List ℕ) (fault : BadRecording) → 0 < length bytes → record_session before place bytes ≡ Err fault → session_records before place bytes ≡ Err fault
unfolding session_events_at
records-bad_session before place [] fault some e = absurd (omega (arith, some))
records-bad_session before place (kind ∷ bytes) fault some e =
    ap (λ (r : Result ℕ BadRecording). r >>= λ x. session_record_len place (kind ∷ bytes) >>= λ n. rest_at (length bytes) place kind before bytes x n) e

records-bad_len : (before : List ℕ) (place session : ℕ) (bytes : List ℕ) (fault : BadRecording) → 0 < length bytes → record_session before place bytes ≡ Ok session → session_record_len place bytes ≡ Err fault →
    session_records before place bytes ≡ Err fault
unfolding session_events_at
records-bad_len before place session [] fault some s e = absurd (omega (arith, some))
records-bad_len before place session (kind ∷ bytes) fault some s e =
    ap (λ (r : Result ℕ BadRecording). r >>= λ x. session_record_len place (kind ∷ bytes) >>= λ n. rest_at (length bytes) place kind before bytes x n) s
    ∙ ap (λ (r : Result ℕ BadRecording). r >>= λ n. rest_at (length bytes) place kind before bytes session n) e

records-nil : (before : List ℕ) (place : ℕ) → session_records before place [] ≡ Ok []
unfolding session_events_at
records-nil before place = refl

-- ---- at a place of the file

some_left : (at : ℕ) (file : List ℕ) → at < length file → 0 < length (drop at file)
some_left at file lt = omega (arith, lt, length-drop at file)

-- the record at the place has no fault, and these are its session and its length
pub record IsSoundSession (before : List ℕ) (at session len : ℕ) (file : List ℕ) : Type 0 where
  pub named : record_session before at (drop at file) ≡ Ok session
  pub read : session_record_len at (drop at file) ≡ Ok len

-- and it ends within the file
pub record Within (at len : ℕ) (file : List ℕ) : Type 0 where
  pub head : at + 9 ≤ length file
  pub all : at + 9 + len ≤ length file
  pub stop : get_or file at 0 ≡ 4 → len ≡ 1

pub within_session : (at len : ℕ) (file : List ℕ) → at < length file → session_record_len at (drop at file) ≡ Ok len → Within at len file
within_session at len file lt e =
    let f = session_front_is at (drop at file) len e in
    record {
      head = omega (arith, f.head, lt, length-drop at file);
      all = omega (arith, f.all, lt, length-drop at file);
      stop = λ k. stop_has_byte (get_or (drop at file) 0 0) len (get_or-drop at file 0 0 ∙ ap (λ (x : ℕ). get_or file x 0) (omega arith) ∙ k) f.fits;
    }

number-drop : (k at : ℕ) (file : List ℕ) → number_at k (drop at file) ≡ number_at (at + k) file
number-drop k at file = ap (λ (t : List ℕ). from_le_bytes w32 (take 4 t)) (drop-drop k at file)

records-at : (before : List ℕ) (at session len end : ℕ) (file : List ℕ) → at < length file → IsSoundSession before at session len file → end ≡ at + 9 + len →
    session_records before at (drop at file) ≡ behind (session_event_of file at end) (session_records (with_session before session) end (drop end file))
records-at before at session len end file lt s is =
    let kind : get_or (drop at file) 0 0 ≡ get_or file at 0 = get_or-drop at file 0 0 ∙ ap (λ (k : ℕ). get_or file k 0) (omega arith) in
    let own : take len (drop 9 (drop at file)) ≡ slice_range file (at + 9) end = ap (take len) (drop-drop 9 at file) ∙ ap (λ (k : ℕ). take k (drop (at + 9) file)) (omega (arith, is)) in
    let number : session ≡ number_at (at + 1) file = (names_session before at (drop at file) session s.named).is ∙ number-drop 1 at file in
    let rest : drop (9 + len) (drop at file) ≡ drop end file = drop-drop (9 + len) at file ∙ ap (λ (k : ℕ). drop k file) (omega (arith, is)) in
    records-cons before at session len (drop at file) (some_left at file lt) s.named s.read
    ∙ ap (λ (k : ℕ). behind (made session k (take len (drop 9 (drop at file)))) (session_records (with_session before session) (at + 9 + len) (drop (9 + len) (drop at file)))) kind
    ∙ ap (λ (b : List ℕ). behind (made session (get_or file at 0) b) (session_records (with_session before session) (at + 9 + len) (drop (9 + len) (drop at file)))) own
    ∙ ap (λ (k : ℕ). behind (made k (get_or file at 0) (slice_range file (at + 9) end)) (session_records (with_session before session) (at + 9 + len) (drop (9 + len) (drop at file)))) number
    ∙ ap (λ (b : List ℕ). behind (session_event_of file at end) (session_records (with_session before session) (at + 9 + len) b)) rest
    ∙ ap (λ (k : ℕ). behind (session_event_of file at end) (session_records (with_session before session) k (drop end file))) (sym is)
  where
    made : ℕ → ℕ → List ℕ → SessionEvent
    made session kind bytes = record { session = session; what = what_of kind bytes }

records-at_end : (before : List ℕ) (at : ℕ) (file : List ℕ) → length file ≤ at → session_records before at (drop at file) ≡ Ok []
records-at_end before at file le = ap (session_records before at) (drop_all at file le) ∙ records-nil before at

-- ---- the first pass

pub session_counted-on : (n : ℕ) (before after : List ℕ) (at session len end : ℕ) (file : List ℕ) → at < length file → IsSoundSession before at session len file → end ≡ at + 9 + len →
    after ≡ with_session before session → counted (n + 1) (session_records after end (drop end file)) ≡ counted n (session_records before at (drop at file))
session_counted-on n before after at session len end file lt s is met =
    ap (λ (b : List ℕ). counted (n + 1) (session_records b end (drop end file))) met
    ∙ sym (ap (counted n) (records-at before at session len end file lt s is) ∙ counted-behind n (session_event_of file at end) (session_records (with_session before session) end (drop end file)))

pub session_counted-bad_session : (n : ℕ) (before : List ℕ) (at : ℕ) (file : List ℕ) (fault : BadRecording) → at < length file → record_session before at (drop at file) ≡ Err fault →
    counted n (session_records before at (drop at file)) ≡ Err fault
session_counted-bad_session n before at file fault lt e = ap (counted n) (records-bad_session before at (drop at file) fault (some_left at file lt) e)

pub session_counted-bad_len : (n : ℕ) (before : List ℕ) (at session : ℕ) (file : List ℕ) (fault : BadRecording) → at < length file → record_session before at (drop at file) ≡ Ok session →
    session_record_len at (drop at file) ≡ Err fault → counted n (session_records before at (drop at file)) ≡ Err fault
session_counted-bad_len n before at session file fault lt s e = ap (counted n) (records-bad_len before at session (drop at file) fault (some_left at file lt) s e)

pub session_counted-end : (n : ℕ) (before : List ℕ) (at : ℕ) (file : List ℕ) → length file ≤ at → counted n (session_records before at (drop at file)) ≡ Ok n
session_counted-end n before at file le = ap (counted n) (records-at_end before at file le) ∙ ap number (omega arith)

-- ---- the second pass

-- where the records from here on are counted, the first has no fault
pub record IsFound (before : List ℕ) (at len : ℕ) (file : List ℕ) : Type 0 where
  pub sound : IsSoundSession before at (number_at (at + 1) file) len file
  pub within : Within at len file

pub found : (n count : ℕ) (before : List ℕ) (at len : ℕ) (file : List ℕ) → at < length file → counted n (session_records before at (drop at file)) ≡ Ok count →
    len ≡ number_at 5 (drop at file) → IsFound before at len file
found n count before at len file lt e is = by_session (record_session before at (drop at file)) refl
  where
    by_len : (session : ℕ) → record_session before at (drop at file) ≡ Ok session → (r : Result ℕ BadRecording) → session_record_len at (drop at file) ≡ r → IsFound before at len file
    by_len session s (Ok own) e1 =
        let same : own ≡ len = (session_front_is at (drop at file) own e1).len_is ∙ sym is in
        let numbered : session ≡ number_at (at + 1) file = (names_session before at (drop at file) session s).is ∙ number-drop 1 at file in
        let read : session_record_len at (drop at file) ≡ Ok len = e1 ∙ ap number same in
        record { sound = record { named = s ∙ ap number numbered; read = read }; within = within_session at len file lt read }
    by_len session s (Err fault) e1 = let bad = sym (session_counted-bad_len n before at session file fault lt s e1) ∙ e in absurd cc

    by_session : (r : Result ℕ BadRecording) → record_session before at (drop at file) ≡ r → IsFound before at len file
    by_session (Ok session) s = by_len session s (session_record_len at (drop at file)) refl
    by_session (Err fault) s = let bad = sym (session_counted-bad_session n before at file fault lt s) ∙ e in absurd cc

-- the same, if the length was read in a slice of the file
pub found-slice : (n count : ℕ) (before : List ℕ) (at len : ℕ) (slice file : List ℕ) → slice ≡ file → at < length file → counted n (session_records before at (drop at file)) ≡ Ok count →
    len ≡ number_at 5 (take (length slice - at) (drop at slice)) → IsFound before at len file
found-slice n count before at len slice file e lt c is = found n count before at len file lt c (is ∙ ap (number_at 5) (tail at slice file e))

-- the sessions that events of the code name
abbrev pub named : List DeclaredEvent → List ℕ
named es = sessions_named [] (map session_event_seen es)

named-more : (es fs : List DeclaredEvent) (e : DeclaredEvent) → fs ≡ es ++ e ∷ [] → named fs ≡ with_session (named es) e.session
named-more es fs e more = ap named more ∙ ap (sessions_named []) (map_push session_event_seen es e) ∙ named-push [] (map session_event_seen es) (session_event_seen e)

-- the loop goes on after a record
pub record GoesOn (es fs : List DeclaredEvent) (at len end : ℕ) (file : List ℕ) : Type 0 where
  pub same : with_front (map session_event_seen fs) (session_records (named fs) end (drop end file)) ≡ with_front (map session_event_seen es) (session_records (named es) at (drop at file))
  pub sound : counted (length es + 1) (session_records (named fs) end (drop end file)) ≡ counted (length es) (session_records (named es) at (drop at file))

pub goes_on : (es fs : List DeclaredEvent) (e : DeclaredEvent) (at len end : ℕ) (file : List ℕ) → fs ≡ es ++ e ∷ [] → at < length file →
    IsFound (named es) at len file → end ≡ at + 9 + len → session_event_seen e ≡ session_event_of file at end → GoesOn es fs at len end file
goes_on es fs e at len end file more lt f is own =
    let session : e.session ≡ number_at (at + 1) file = ap (λ (x : SessionEvent). x.session) own in
    let met : named fs ≡ with_session (named es) (number_at (at + 1) file) = named-more es fs e more ∙ ap (with_session (named es)) session in
    record {
      same =
          ap (λ (t : List DeclaredEvent). with_front (map session_event_seen t) (session_records (named fs) end (drop end file))) more
          ∙ ap (λ (b : List ℕ). with_front (map session_event_seen (es ++ e ∷ [])) (session_records b end (drop end file))) met
          ∙ ap (λ (t : List SessionEvent). with_front t (session_records (with_session (named es) (number_at (at + 1) file)) end (drop end file))) (map_push session_event_seen es e)
          ∙ with_front-behind (map session_event_seen es) (session_event_seen e) (session_records (with_session (named es) (number_at (at + 1) file)) end (drop end file))
          ∙ ap (λ (x : SessionEvent). with_front (map session_event_seen es) (behind x (session_records (with_session (named es) (number_at (at + 1) file)) end (drop end file)))) own
          ∙ ap (with_front (map session_event_seen es)) (sym (records-at (named es) at (number_at (at + 1) file) len end file lt f.sound is));
      sound = session_counted-on (length es) (named es) (named fs) at (number_at (at + 1) file) len end file lt f.sound is met;
    }

-- and ends at the end of the file
pub session_events-end : (es : List SessionEvent) (before : List ℕ) (at : ℕ) (file : List ℕ) → length file ≤ at → with_front es (session_records before at (drop at file)) ≡ Ok es
session_events-end es before at file le = ap (with_front es) (records-at_end before at file le) ∙ ap (λ (t : List SessionEvent). ok t) (append-nil es)

-- ---- the file

pub sessions-too_long : (bytes : List ℕ) → RECORDING_LIMIT < length bytes → sessions_of bytes ≡ refused TooLong RECORDING_LIMIT
unfolding sessions_of
sessions-too_long bytes long = ap (λ (b : Bool). cond b (refused TooLong RECORDING_LIMIT) (file_head_of bytes >>= λ h. by_version h bytes)) (lt-ltb RECORDING_LIMIT (length bytes) long)

not_long : (bytes : List ℕ) → length bytes ≤ RECORDING_LIMIT → sessions_of bytes ≡ (file_head_of bytes >>= λ h. by_version h bytes)
unfolding sessions_of
not_long bytes short = ap (λ (b : Bool). cond b (refused TooLong RECORDING_LIMIT) (file_head_of bytes >>= λ h. by_version h bytes)) (le-ltb RECORDING_LIMIT (length bytes) short)

pub sessions-head_fault : (bytes : List ℕ) (fault : BadRecording) → length bytes ≤ RECORDING_LIMIT → file_head_of bytes ≡ Err fault → sessions_of bytes ≡ Err fault
sessions-head_fault bytes fault short e = not_long bytes short ∙ ap (λ (r : Result FileHead BadRecording). r >>= λ h. by_version h bytes) e

sessions-by_version : (bytes : List ℕ) (version : ℕ) (auth : Bool) → length bytes ≤ RECORDING_LIMIT → file_head_of bytes ≡ Ok (record { version = version; auth = auth }) →
    sessions_of bytes ≡ cond (version == 1) (one_session_of bytes) (of_version_2 auth bytes)
sessions-by_version bytes version auth short e = not_long bytes short ∙ ap (λ (r : Result FileHead BadRecording). r >>= λ h. by_version h bytes) e

pub sessions-of_one : (bytes : List ℕ) (version : ℕ) (auth : Bool) → length bytes ≤ RECORDING_LIMIT → file_head_of bytes ≡ Ok (record { version = version; auth = auth }) → (version == 1) ≡ true →
    sessions_of bytes ≡ one_session_of bytes
sessions-of_one bytes version auth short e one = sessions-by_version bytes version auth short e ∙ ap (λ (b : Bool). cond b (one_session_of bytes) (of_version_2 auth bytes)) one

abbrev pub then_sessions : Bool → Result (List SessionEvent) BadRecording → Result Sessions BadRecording
then_sessions auth read = read >>= λ events. Ok (record { version = 2; auth = auth; events = events })

pub sessions-of_many : (bytes : List ℕ) (version : ℕ) (auth : Bool) → length bytes ≤ RECORDING_LIMIT → file_head_of bytes ≡ Ok (record { version = version; auth = auth }) → (version == 1) ≡ false →
    sessions_of bytes ≡ then_sessions auth (session_records [] 6 (drop 6 bytes))
sessions-of_many bytes version auth short e other =
    sessions-by_version bytes version auth short e
    ∙ ap (λ (b : Bool). cond b (one_session_of bytes) (of_version_2 auth bytes)) other
    ∙ ap (then_sessions auth) (enough (length bytes) (length (drop 6 bytes)) [] 6 (drop 6 bytes) (omega (arith, length-drop 6 bytes)) (omega arith))
