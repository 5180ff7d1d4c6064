-- How many bytes the events of a recording have.
use Rattle.std.proofs.Common.{◌≡◌, ℕ, zero, suc, ◌+◌, ◌≤◌, Bool, List, [], ◌∷◌, length, take, drop, Ok, subst, arith}
use Rattle.std.specs.Prelude.{nat_lt, All}
use Rattle.std.proofs.lemmas.List.{length-drop, length-take-le}
use Rattle.std.proofs.lemmas.List.Elements.{All-from_get_or}
use Rattle.std.proofs.lemmas.List.Sums.{get_or-le-sum_by, sum_by-cons}
use Rattle.std.proofs.lemmas.Bool.{ltb-false}
use Rattle.std.proofs.lemmas.Bool.Decides.{nat_tests}
use Rattle.recording.specs.declared.Side.TheVariants.{Client}
use Rattle.recording.specs.declared.RecordingKind.TheVariants.{TooLong}
use Rattle.recording.specs.declared.TheConstants.{RECORDING_LIMIT}
use Rattle.recording.specs.Recording.{Event, Finished, Recording, ◌>>=◌, event_of, record_len, events_at, head_of, recording_of}
use Rattle.recording.specs.Seen.{size_of, size, Fits}
use Rattle.recording.proofs.Fronts.{ok_is, passed, bind, front_is}

own-size : (kind : ℕ) (bytes : List ℕ) → size_of (event_of kind bytes) ≤ length bytes
own-size kind bytes = grind (arith, nat_tests)

-- records have no more bytes than the file from there on
events-size : (n place : ℕ) (bytes : List ℕ) (events : List Event) → events_at n place bytes ≡ Ok events → size events ≤ length bytes
unfolding events_at
events-size zero place bytes events e = subst (λ (es : List Event). size es ≤ length bytes) (ok_is [] events e) (omega arith)
events-size (suc n) place [] events e = subst (λ (es : List Event). size es ≤ 0) (ok_is [] events e) (omega arith)
events-size (suc n) place (kind ∷ bytes) events e =
    bind (record_len place (kind ∷ bytes)) (λ len. events_at n (place + 5 + len) (drop (4 + len) bytes) >>= λ es. Ok (event_of kind (take len (drop 4 bytes)) ∷ es)) events e (λ len el e1.
    bind (events_at n (place + 5 + len) (drop (4 + len) bytes)) (λ es. Ok (event_of kind (take len (drop 4 bytes)) ∷ es)) events e1 (λ es ee e2.
    let own = take len (drop 4 bytes) in
    let all = (front_is place (kind ∷ bytes) len el).all in
    let own_len : length own ≡ len = length-take-le len (drop 4 bytes) (omega (arith, all, length-drop 4 bytes)) in
    let first : size_of (event_of kind own) ≤ length own = own-size kind own in
    let others : size es ≤ length (drop (4 + len) bytes) = events-size n (place + 5 + len) (drop (4 + len) bytes) es ee in
    subst (λ (x : List Event). size x ≤ suc (length bytes)) (ok_is (event_of kind own ∷ es) events e2) (omega (arith, all, own_len, first, others, length-drop (4 + len) bytes, sum_by-cons size_of (event_of kind own) es))))

pub recording-size : (bytes : List ℕ) (r : Recording) → recording_of bytes ≡ Ok r → size r.events ≤ RECORDING_LIMIT
unfolding recording_of
recording-size bytes r e =
    let a = passed (nat_lt RECORDING_LIMIT (length bytes)) TooLong RECORDING_LIMIT _ r e in
    bind (head_of bytes) (λ auth. events_at (length bytes) 6 (drop 6 bytes) >>= λ events. Ok (record { auth = auth; events = events })) r a.1 (λ auth ea e1.
    bind (events_at (length bytes) 6 (drop 6 bytes)) (λ events. Ok (record { auth = auth; events = events })) r e1 (λ events ee e2.
    let small : size events ≤ length (drop 6 bytes) = events-size (length bytes) 6 (drop 6 bytes) events ee in
    let short : length bytes ≤ RECORDING_LIMIT = ltb-false RECORDING_LIMIT (length bytes) a.0 in
    subst (λ (x : Recording). size x.events ≤ RECORDING_LIMIT) (ok_is (made auth events) r e2) (omega (arith, small, short, length-drop 6 bytes))))
  where
    made : Bool → List Event → Recording
    made auth events = record { auth = auth; events = events }

-- within the limit each event fits
pub fits : (events : List Event) → size events ≤ RECORDING_LIMIT → All Fits events
fits events small = All-from_get_or Fits events (Finished Client) (λ i lt. omega (arith, small, get_or-le-sum_by size_of events i (Finished Client) lt))
