-- A walk over the records of a file.
use Rattle.std.proofs.Common.{◌≡◌, ℕ, zero, suc, ◌+◌, ◌-◌, ◌<◌, ◌≤◌, Bool, cond, List, [], ◌∷◌, ◌++◌, length, take, drop, get_or, map, Result, Ok, Err, refl, sym, ap, ◌∙◌, append_assoc, arith}
use Rattle.std.specs.Prelude.{not, ◌==◌, nat_lt, bytes_eq}
use Rattle.std.specs.Int.{w32, from_le_bytes}
use Rattle.std.specs.List.{slice_range}
use Rattle.std.proofs.lemmas.List.{append-nil, drop-drop, drop_all, take_all, length-drop, get_or-drop, map_push}
use Rattle.std.proofs.lemmas.Bool.{ltb-false, le-ltb, lt-ltb}
use Rattle.recording.specs.declared.RecordingKind.TheVariants.{BadMagic, BadVersion, Cut, TooLong}
use Rattle.recording.specs.declared.BadRecording.{BadRecording}
use Rattle.recording.specs.declared.Event.{Event as DeclaredEvent}
use Rattle.recording.specs.declared.TheConstants.{RECORDING_LIMIT}
use Rattle.recording.specs.Recording.{Event, Recording, magic, ◌>>=◌, event_of, record_len, events_at, head_of, recording_of, refused}
use Rattle.recording.specs.Passes.{records, counted, IsChecked}
use Rattle.recording.specs.Seen.{seen}
use Rattle.recording.proofs.Fronts.{ok, passed, front_is}

pub bind_same : {A B : Type 0} (r : Result A BadRecording) (f g : A → Result B BadRecording) → ((x : A) → f x ≡ g x) → (r >>= f) ≡ (r >>= g)
bind_same (Ok x) f g h = h x
bind_same (Err e) f g h = refl

-- more turns than bytes change nothing
pub enough : (n m place : ℕ) (bytes : List ℕ) → length bytes ≤ n → length bytes ≤ m → events_at n place bytes ≡ events_at m place bytes
unfolding events_at
enough zero zero place [] h k = refl
enough zero (suc m) place [] h k = refl
enough (suc n) zero place [] h k = refl
enough (suc n) (suc m) place [] h k = refl
enough zero m place (kind ∷ bytes) h k = absurd (omega (arith, h))
enough (suc n) zero place (kind ∷ bytes) h k = absurd (omega (arith, k))
enough (suc n) (suc m) place (kind ∷ bytes) h k =
    bind_same (record_len place (kind ∷ bytes))
    (λ len. events_at n (place + 5 + len) (drop (4 + len) bytes) >>= λ es. Ok (event_of kind (take len (drop 4 bytes)) ∷ es))
    (λ len. events_at m (place + 5 + len) (drop (4 + len) bytes) >>= λ es. Ok (event_of kind (take len (drop 4 bytes)) ∷ es))
    (λ len. ap (λ (r : Result (List Event) BadRecording). r >>= λ es. Ok (event_of kind (take len (drop 4 bytes)) ∷ es))
    (enough n m (place + 5 + len) (drop (4 + len) bytes) (omega (arith, h, length-drop (4 + len) bytes)) (omega (arith, k, length-drop (4 + len) bytes))))

-- an event before those that are read after it
abbrev pub behind : {A : Type 0} → A → Result (List A) BadRecording → Result (List A) BadRecording
behind event read = read >>= λ events. Ok (event ∷ events)

-- a record without a fault, and then those after it
records-cons : (place len : ℕ) (bytes : List ℕ) → 0 < length bytes → record_len place bytes ≡ Ok len →
    records place bytes ≡ behind (event_of (get_or bytes 0 0) (take len (drop 5 bytes))) (records (place + 5 + len) (drop (5 + len) bytes))
unfolding events_at
records-cons place len [] some e = absurd (omega (arith, some))
records-cons place len (kind ∷ bytes) some e =
    ap (λ (r : Result ℕ BadRecording). r >>= λ n. events_at (length bytes) (place + 5 + n) (drop (4 + n) bytes) >>= λ es. Ok (event_of kind (take n (drop 4 bytes)) ∷ es)) e
    ∙ ap (behind (event_of kind (take len (drop 4 bytes)))) (enough (length bytes) (length (drop (4 + len) bytes)) (place + 5 + len) (drop (4 + len) bytes) (omega (arith, length-drop (4 + len) bytes)) (omega arith))
    ∙ ap (λ (k : ℕ). behind (event_of kind (take len (drop 4 bytes))) (records (place + 5 + len) (drop k (kind ∷ bytes)))) (suc_is len)
  where
    suc_is : (n : ℕ) → suc (4 + n) ≡ 5 + n
    suc_is n = omega arith

-- a fault of the record in front is the first
records-fault : (place : ℕ) (bytes : List ℕ) (fault : BadRecording) → 0 < length bytes → record_len place bytes ≡ Err fault → records place bytes ≡ Err fault
unfolding events_at
records-fault place [] fault some e = absurd (omega (arith, some))
records-fault place (kind ∷ bytes) fault some e =
    ap (λ (r : Result ℕ BadRecording). r >>= λ n. events_at (length bytes) (place + 5 + n) (drop (4 + n) bytes) >>= λ es. Ok (event_of kind (take n (drop 4 bytes)) ∷ es)) e

-- no bytes are no records
records-nil : (place : ℕ) → records place [] ≡ Ok []
unfolding events_at
records-nil place = refl

-- ---- at a place of the file

some_left : (at : ℕ) (file : List ℕ) → at < length file → 0 < length (drop at file)
some_left at file lt = omega (arith, lt, length-drop at file)

-- the event of the record that stands from one place to another
abbrev pub event_at : List ℕ → ℕ → ℕ → Event
event_at file at end = event_of (get_or file at 0) (slice_range file (at + 5) end)

pub records-at : (at len end : ℕ) (file : List ℕ) → at < length file → record_len at (drop at file) ≡ Ok len → end ≡ at + 5 + len →
    records at (drop at file) ≡ behind (event_at file at end) (records end (drop end file))
records-at at len end file lt e is =
    let kind : get_or (drop at file) 0 0 ≡ get_or file at 0 = get_or-drop at file 0 0 ∙ ap (λ (k : ℕ). get_or file k 0) (omega arith) in
    let own : take len (drop 5 (drop at file)) ≡ slice_range file (at + 5) end =
    ap (take len) (drop-drop 5 at file) ∙ ap (λ (k : ℕ). take k (drop (at + 5) file)) (omega (arith, is)) in
    let rest : drop (5 + len) (drop at file) ≡ drop end file = drop-drop (5 + len) at file ∙ ap (λ (k : ℕ). drop k file) (omega (arith, is)) in
    records-cons at len (drop at file) (some_left at file lt) e
    ∙ ap (λ (k : ℕ). behind (event_of k (take len (drop 5 (drop at file)))) (records (at + 5 + len) (drop (5 + len) (drop at file)))) kind
    ∙ ap (λ (b : List ℕ). behind (event_of (get_or file at 0) b) (records (at + 5 + len) (drop (5 + len) (drop at file)))) own
    ∙ ap (λ (b : List ℕ). behind (event_at file at end) (records (at + 5 + len) b)) rest
    ∙ ap (λ (k : ℕ). behind (event_at file at end) (records k (drop end file))) (sym is)

records-at_end : (at : ℕ) (file : List ℕ) → length file ≤ at → records at (drop at file) ≡ Ok []
records-at_end at file le = ap (records at) (drop_all at file le) ∙ records-nil at

-- ---- the first pass

abbrev pub number : ℕ → Result ℕ BadRecording
number n = Ok n

pub counted-behind : {A : Type 0} (n : ℕ) (e : A) (read : Result (List A) BadRecording) → counted n (behind e read) ≡ counted (n + 1) read
counted-behind n e (Ok events) = ap number (omega arith)
counted-behind n e (Err fault) = refl

pub counted-on : (n at len end : ℕ) (file : List ℕ) → at < length file → record_len at (drop at file) ≡ Ok len → end ≡ at + 5 + len →
    counted (n + 1) (records end (drop end file)) ≡ counted n (records at (drop at file))
counted-on n at len end file lt e is =
    sym (ap (counted n) (records-at at len end file lt e is) ∙ counted-behind n (event_at file at end) (records end (drop end file)))

-- those before are among them
pub counted-le : {A : Type 0} (n count : ℕ) (read : Result (List A) BadRecording) → counted n read ≡ Ok count → n ≤ count
counted-le n count (Ok events) e = let same : n + length events ≡ count = cc in omega (arith, same)
counted-le n count (Err fault) e = absurd cc

pub counted-fault : (n at : ℕ) (file : List ℕ) (fault : BadRecording) → at < length file → record_len at (drop at file) ≡ Err fault →
    counted n (records at (drop at file)) ≡ Err fault
counted-fault n at file fault lt e = ap (counted n) (records-fault at (drop at file) fault (some_left at file lt) e)

pub counted-end : (n at : ℕ) (file : List ℕ) → length file ≤ at → counted n (records at (drop at file)) ≡ Ok n
counted-end n at file le = ap (counted n) (records-at_end at file le) ∙ ap number (omega arith)

-- a record without a fault ends within the file
pub within : (at len : ℕ) (file : List ℕ) → at < length file → record_len at (drop at file) ≡ Ok len → at + 5 + len ≤ length file
within at len file lt e = let f = front_is at (drop at file) len e in omega (arith, f.all, lt, length-drop at file)

-- ---- the second pass

-- the record at the place has no fault, and this is its length
pub record IsSound (at len : ℕ) (file : List ℕ) : Type 0 where
  pub read : record_len at (drop at file) ≡ Ok len
  pub head : 5 ≤ length (drop at file)
  pub all : at + 5 + len ≤ length file

-- where the records from here on are counted, the first has no fault
pub sound : (n count at len : ℕ) (file : List ℕ) → at < length file → counted n (records at (drop at file)) ≡ Ok count →
    len ≡ from_le_bytes w32 (take 4 (drop 1 (drop at file))) → IsSound at len file
sound n count at len file lt e is = go (record_len at (drop at file)) refl
  where
    go : (r : Result ℕ BadRecording) → record_len at (drop at file) ≡ r → IsSound at len file
    go (Ok own) e1 =
        let f = front_is at (drop at file) own e1 in
        let same : own ≡ len = f.len_is ∙ sym is in
        record { read = e1 ∙ ap number same; head = f.head; all = omega (arith, f.all, same, lt, length-drop at file) }
    go (Err fault) e1 = let bad = sym (counted-fault n at file fault lt e1) ∙ e in absurd cc

-- the bytes from a place on, as a slice
pub tail : (at : ℕ) (slice file : List ℕ) → slice ≡ file → take (length slice - at) (drop at slice) ≡ drop at file
tail at slice file e =
    ap (λ (b : List ℕ). take (length b - at) (drop at b)) e ∙ take_all (length file - at) (drop at file) (omega (arith, length-drop at file))

-- the same, if the length was read in a slice of the file
pub sound-slice : (n count at len : ℕ) (slice file : List ℕ) → slice ≡ file → at < length file → counted n (records at (drop at file)) ≡ Ok count →
    len ≡ from_le_bytes w32 (take 4 (drop 1 (take (length slice - at) (drop at slice)))) → IsSound at len file
sound-slice n count at len slice file e lt c is = sound n count at len file lt c (is ∙ ap (λ (b : List ℕ). from_le_bytes w32 (take 4 (drop 1 b))) (tail at slice file e))

-- events before those that are read after them
abbrev pub with_front : {A : Type 0} → List A → Result (List A) BadRecording → Result (List A) BadRecording
with_front front read = read >>= λ events. Ok (front ++ events)

pub with_front-behind : {A : Type 0} (front : List A) (e : A) (read : Result (List A) BadRecording) →
    with_front (front ++ e ∷ []) read ≡ with_front front (behind e read)
with_front-behind {A} front e (Ok events) = ap (λ (es : List A). ok es) (append_assoc front (e ∷ []) events)
with_front-behind front e (Err fault) = refl

-- the loop goes on after a record
pub events-on : (es fs : List DeclaredEvent) (e : DeclaredEvent) (at len end : ℕ) (file : List ℕ) → fs ≡ es ++ e ∷ [] → at < length file →
    IsSound at len file → end ≡ at + 5 + len → seen e ≡ event_at file at end →
    with_front (map seen fs) (records end (drop end file)) ≡ with_front (map seen es) (records at (drop at file))
events-on es fs e at len end file more lt s is own =
    ap (λ (t : List DeclaredEvent). with_front (map seen t) (records end (drop end file))) more
    ∙ ap (λ (t : List Event). with_front t (records end (drop end file))) (map_push seen es e)
    ∙ with_front-behind (map seen es) (seen e) (records end (drop end file))
    ∙ ap (λ (x : Event). with_front (map seen es) (behind x (records end (drop end file)))) own
    ∙ ap (with_front (map seen es)) (sym (records-at at len end file lt s.read is))

-- and ends at the end of the file
pub events-end : (es : List Event) (at : ℕ) (file : List ℕ) → length file ≤ at → with_front es (records at (drop at file)) ≡ Ok es
events-end es at file le = ap (with_front es) (records-at_end at file le) ∙ ap (λ (t : List Event). ok t) (append-nil es)

pub events-start : {A : Type 0} (read : Result (List A) BadRecording) → with_front [] read ≡ read
events-start (Ok events) = refl
events-start (Err fault) = refl

-- ---- the file

abbrev then_recording : Bool → Result (List Event) BadRecording → Result Recording BadRecording
then_recording auth read = read >>= λ events. Ok (record { auth = auth; events = events })

abbrev then_events : ℕ → List ℕ → Bool → Result Recording BadRecording
then_events n bytes auth = then_recording auth (events_at n 6 bytes)

pub head_long : (bytes : List ℕ) (auth : Bool) → head_of bytes ≡ Ok auth → 6 ≤ length bytes
unfolding head_of
head_long bytes auth e =
    let a = passed (nat_lt (length bytes) 4) Cut (length bytes) _ auth e in
    let b = passed (not (bytes_eq (take 4 bytes) magic)) BadMagic 0 _ auth a.1 in
    let c = passed (nat_lt (length bytes) 5) Cut (length bytes) _ auth b.1 in
    let d = passed (not (get_or bytes 4 0 == 1)) BadVersion 4 _ auth c.1 in
    let f = passed (nat_lt (length bytes) 6) Cut (length bytes) _ auth d.1 in
    ltb-false (length bytes) 6 f.0

not_long : (bytes : List ℕ) → length bytes ≤ RECORDING_LIMIT → recording_of bytes ≡ (head_of bytes >>= then_events (length bytes) (drop 6 bytes))
unfolding recording_of
not_long bytes short = ap (λ (b : Bool). cond b (refused TooLong RECORDING_LIMIT) (head_of bytes >>= then_events (length bytes) (drop 6 bytes))) (le-ltb RECORDING_LIMIT (length bytes) short)

pub recording-too_long : (bytes : List ℕ) → RECORDING_LIMIT < length bytes → recording_of bytes ≡ refused TooLong RECORDING_LIMIT
unfolding recording_of
recording-too_long bytes long = ap (λ (b : Bool). cond b (refused TooLong RECORDING_LIMIT) (head_of bytes >>= then_events (length bytes) (drop 6 bytes))) (lt-ltb RECORDING_LIMIT (length bytes) long)

pub recording-head_fault : (bytes : List ℕ) (fault : BadRecording) → length bytes ≤ RECORDING_LIMIT → head_of bytes ≡ Err fault → recording_of bytes ≡ Err fault
recording-head_fault bytes fault short e = not_long bytes short ∙ ap (λ (r : Result Bool BadRecording). r >>= then_events (length bytes) (drop 6 bytes)) e

recording-records : (bytes : List ℕ) (auth : Bool) → length bytes ≤ RECORDING_LIMIT → head_of bytes ≡ Ok auth →
    recording_of bytes ≡ then_recording auth (records 6 (drop 6 bytes))
recording-records bytes auth short e =
    not_long bytes short
    ∙ ap (λ (r : Result Bool BadRecording). r >>= then_events (length bytes) (drop 6 bytes)) e
    ∙ ap (then_recording auth) (enough (length bytes) (length (drop 6 bytes)) 6 (drop 6 bytes) (omega (arith, length-drop 6 bytes)) (omega arith))

pub recording-record_fault : (bytes : List ℕ) (auth : Bool) (fault : BadRecording) → length bytes ≤ RECORDING_LIMIT → head_of bytes ≡ Ok auth →
    counted 0 (records 6 (drop 6 bytes)) ≡ Err fault → recording_of bytes ≡ Err fault
recording-record_fault bytes auth fault short e c = recording-records bytes auth short e ∙ go (records 6 (drop 6 bytes)) c
  where
    go : (r : Result (List Event) BadRecording) → counted 0 r ≡ Err fault → then_recording auth r ≡ Err fault
    go (Ok events) c1 = absurd cc
    go (Err bad) c1 = let same : bad ≡ fault = cc in ap (λ (f : BadRecording). Err f) same

-- what the two passes find is the recording
pub recording-is_passed : (bytes file : List ℕ) (auth : Bool) (count : ℕ) (events : List Event) → IsChecked bytes auth count → file ≡ bytes →
    records 6 (drop 6 file) ≡ Ok events → recording_of bytes ≡ Ok (record { auth = auth; events = events })
recording-is_passed bytes file auth count events checked same read =
    recording-records bytes auth checked.short checked.head ∙ ap (then_recording auth) (ap (λ (b : List ℕ). records 6 (drop 6 b)) (sym same) ∙ read)

-- a file in which the first pass finds no fault has none
pub recording-without_fault : (bytes : List ℕ) (auth : Bool) (count : ℕ) → IsChecked bytes auth count → (r : Recording) × (recording_of bytes ≡ Ok r)
recording-without_fault bytes auth count checked = go (records 6 (drop 6 bytes)) refl checked.count
  where
    go : (read : Result (List Event) BadRecording) → records 6 (drop 6 bytes) ≡ read → counted 0 read ≡ Ok count → (r : Recording) × (recording_of bytes ≡ Ok r)
    go (Ok events) e c = (record { auth = auth; events = events }, recording-records bytes auth checked.short checked.head ∙ ap (then_recording auth) e)
    go (Err fault) e c = absurd cc
