-- A recording that is spelled is read again.
use Rattle.std.proofs.Common.{◌≡◌, ℕ, zero, suc, ◌+◌, ◌^◌, ◌<◌, ◌≤◌, Bool, true, false, cond, List, [], ◌∷◌, ◌++◌, length, take, drop, Result, Ok, refl, ap, ◌∙◌, arith}
use Rattle.std.specs.Prelude.{not, ◌&&◌, ◌==◌, nat_lt}
use Rattle.std.specs.List.{flat_map, AllByRecursion}
use Rattle.std.specs.Int.{w32, to_le_bytes, from_le_bytes}
use Rattle.std.proofs.lemmas.List.{length-append, take_at, drop_at}
use Rattle.std.proofs.lemmas.Bool.{le-ltb}
use Rattle.std.proofs.lemmas.Nat.{from_le_bytes-to_le_bytes_4}
use Rattle.recording.specs.declared.Side.TheVariants.{Client, Bus}
use Rattle.recording.specs.declared.RecordingKind.TheVariants.{BadKind, Cut, BadLength, TooLong}
use Rattle.recording.specs.declared.BadRecording.{BadRecording}
use Rattle.recording.specs.declared.TheConstants.{RECORDING_LIMIT}
use Rattle.recording.specs.Recording.{Event, Bytes, Finished, Recording, spelled_record, spelled_event, magic, auth_byte, spelled_recording, ◌>>=◌, event_of, record_len, events_at, head_of, recording_of, refused}
use Rattle.recording.specs.Seen.{Fits}

abbrev ok : {A : Type 0} → A → Result A BadRecording
ok x = Ok x

pub skip : {A : Type 0} (b : Bool) (y z w : Result A BadRecording) → b ≡ false → z ≡ w → cond b y z ≡ w
skip b y z w e k = ap (λ (c : Bool). cond c y z) e ∙ k

-- a record in front of any bytes
record_front : (place kind : ℕ) (bytes rest : List ℕ) → nat_lt 3 kind ≡ false → length bytes < 2 ^ 32 → (nat_lt 1 kind && not (length bytes == 0)) ≡ false → record_len place (spelled_record kind bytes ++ rest) ≡ Ok (length bytes)
unfolding record_len
record_front place kind bytes rest low short none =
    let len : from_le_bytes w32 (to_le_bytes w32 (length bytes)) ≡ length bytes = from_le_bytes-to_le_bytes_4 (length bytes) short in
    let all = spelled_record kind bytes ++ rest in
    let size : length all ≡ 5 + (length bytes + length rest) = omega (arith, length-append bytes rest) in
    skip (nat_lt 3 kind) (refused BadKind place) _ _ low
    (skip (nat_lt (length all) 5) (refused Cut (place + length all)) _ _ (le-ltb (length all) 5 (omega (arith, size)))
    (skip (nat_lt 1 kind && not (from_le_bytes w32 (to_le_bytes w32 (length bytes)) == 0)) (refused BadLength (place + 1)) _ _ (ap (λ (k : ℕ). nat_lt 1 kind && not (k == 0)) len ∙ none)
    (skip (nat_lt (length all) (5 + from_le_bytes w32 (to_le_bytes w32 (length bytes)))) (refused Cut (place + length all)) _ _ (ap (λ (k : ℕ). nat_lt (length all) (5 + k)) len ∙ le-ltb (length all) (5 + length bytes) (omega (arith, size)))
    (ap (λ (k : ℕ). ok k) len))))

pub then_ok : {A B : Type 0} (r : Result A BadRecording) (f : A → Result B BadRecording) (x : A) (z : Result B BadRecording) → r ≡ Ok x → f x ≡ z → (r >>= f) ≡ z
then_ok r f x z e k = ap (λ (q : Result _ BadRecording). q >>= f) e ∙ k

record_step : (n place kind : ℕ) (bytes rest : List ℕ) (events : List Event) → record_len place (spelled_record kind bytes ++ rest) ≡ Ok (length bytes) → ((q : ℕ) → events_at n q rest ≡ Ok events) → events_at (suc n) place (spelled_record kind bytes ++ rest) ≡ Ok (event_of kind bytes ∷ events)
unfolding events_at
record_step n place kind bytes rest events front others =
    let number = to_le_bytes w32 (length bytes) in
    let behind : drop (4 + length bytes) (number ++ bytes ++ rest) ≡ rest = drop_at (number ++ bytes) rest (4 + length bytes) (omega arith) in
    then_ok (record_len place (spelled_record kind bytes ++ rest)) (λ len. events_at n (place + 5 + len) (drop (4 + len) (number ++ bytes ++ rest)) >>= λ es. Ok (event_of kind (take len (bytes ++ rest)) ∷ es)) (length bytes) _ front
    (then_ok (events_at n (place + 5 + length bytes) (drop (4 + length bytes) (number ++ bytes ++ rest))) (λ es. Ok (event_of kind (take (length bytes) (bytes ++ rest)) ∷ es)) events _ (ap (events_at n (place + 5 + length bytes)) behind ∙ others (place + 5 + length bytes))
    (ap (λ (b : List ℕ). ok (event_of kind b ∷ events)) (take_at bytes rest (length bytes) refl)))

events_again : (events : List Event) (n place : ℕ) → AllByRecursion Fits events → length (flat_map spelled_event events) ≤ n → events_at n place (flat_map spelled_event events) ≡ Ok events
unfolding events_at
events_again [] zero place f h = refl
events_again [] (suc n) place f h = refl
events_again (Bytes Client bytes ∷ events) zero place f h = absurd (omega (arith, h))
events_again (Bytes Bus bytes ∷ events) zero place f h = absurd (omega (arith, h))
events_again (Finished Client ∷ events) zero place f h = absurd (omega (arith, h))
events_again (Finished Bus ∷ events) zero place f h = absurd (omega (arith, h))
events_again (Bytes Client bytes ∷ events) (suc n) place f h =
    record_step n place 0 bytes (flat_map spelled_event events) events (record_front place 0 bytes (flat_map spelled_event events) refl f.0 refl) (λ q. events_again events n q f.1 (omega (arith, h, length-append bytes (flat_map spelled_event events))))
events_again (Bytes Bus bytes ∷ events) (suc n) place f h =
    record_step n place 1 bytes (flat_map spelled_event events) events (record_front place 1 bytes (flat_map spelled_event events) refl f.0 refl) (λ q. events_again events n q f.1 (omega (arith, h, length-append bytes (flat_map spelled_event events))))
events_again (Finished Client ∷ events) (suc n) place f h =
    record_step n place 2 [] (flat_map spelled_event events) events (record_front place 2 [] (flat_map spelled_event events) refl (omega arith) refl) (λ q. events_again events n q f.1 (omega (arith, h)))
events_again (Finished Bus ∷ events) (suc n) place f h =
    record_step n place 3 [] (flat_map spelled_event events) events (record_front place 3 [] (flat_map spelled_event events) refl (omega arith) refl) (λ q. events_again events n q f.1 (omega (arith, h)))

pub six : (a b c d e f k : ℕ) (bytes : List ℕ) → k ≤ 6 → nat_lt (length (a ∷ b ∷ c ∷ d ∷ e ∷ f ∷ bytes)) k ≡ false
six a b c d e f k bytes h = le-ltb (length (a ∷ b ∷ c ∷ d ∷ e ∷ f ∷ bytes)) k (omega (arith, h))

head_again : (auth : Bool) (bytes : List ℕ) → head_of (magic ++ 1 ∷ auth_byte auth ∷ bytes) ≡ Ok auth
unfolding head_of
head_again true bytes =
    skip _ _ _ _ (six 68 66 80 82 1 1 4 bytes (omega arith)) (skip _ _ _ _ (six 68 66 80 82 1 1 5 bytes (omega arith)) (skip _ _ _ _ (six 68 66 80 82 1 1 6 bytes (omega arith)) refl))
head_again false bytes =
    skip _ _ _ _ (six 68 66 80 82 1 0 4 bytes (omega arith)) (skip _ _ _ _ (six 68 66 80 82 1 0 5 bytes (omega arith)) (skip _ _ _ _ (six 68 66 80 82 1 0 6 bytes (omega arith)) refl))

-- what is spelled is read again
pub recording_again : (r : Recording) → AllByRecursion Fits r.events → length (spelled_recording r) ≤ RECORDING_LIMIT → recording_of (spelled_recording r) ≡ Ok r
unfolding recording_of spelled_recording
recording_again r fits short =
    let all = spelled_recording r in
    let events = flat_map spelled_event r.events in
    skip (nat_lt (RECORDING_LIMIT) (length all)) (refused TooLong (RECORDING_LIMIT)) _ _ (le-ltb (RECORDING_LIMIT) (length all) short)
    (then_ok (head_of all) (λ auth. events_at (length all) 6 (drop 6 all) >>= λ es. Ok (record { auth = auth; events = es })) r.auth _ (head_again r.auth events)
    (then_ok (events_at (length all) 6 events) (λ es. Ok (record { auth = r.auth; events = es })) r.events _ (events_again r.events (length all) 6 fits (omega arith)) refl))
