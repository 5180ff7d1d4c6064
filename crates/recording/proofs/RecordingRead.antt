-- A recording that is found is spelled by the file's bytes.
use Rattle.std.proofs.Common.{◌≡◌, ℕ, zero, suc, ◌+◌, ◌^◌, ◌<◌, ◌≤◌, Bool, true, false, List, [], ◌∷◌, ◌++◌, length, take, drop, get_or, Ok, refl, sym, ap, subst, ◌∙◌, arith}
use Rattle.std.specs.Prelude.{not, ◌&&◌, ◌==◌, nat_lt, bytes_eq}
use Rattle.std.specs.List.{flat_map, AllByRecursion}
use Rattle.std.specs.Int.{w32, to_le_bytes}
use Rattle.std.proofs.lemmas.List.{length-take-le, length-drop}
use Rattle.std.proofs.lemmas.Bool.{ltb-false, eqb-true, lt-ltb, not-false}
use Rattle.std.proofs.lemmas.Bool.Decides.{nat_tests}
use Rattle.std.proofs.lemmas.Nat.{le_bytes_4}
use Rattle.byte_lists.proofs.Bytes.{bytes_eq-true, AreBytes-take, AreBytes-drop, two_pieces, from_le_bytes-below}
use Rattle.byte_lists.specs.Bytes.{AreBytes}
use Rattle.recording.specs.declared.RecordingKind.TheVariants.{BadMagic, BadVersion, Cut, BadAuth, TooLong}
use Rattle.recording.specs.declared.TheConstants.{RECORDING_LIMIT}
use Rattle.recording.specs.Recording.{Event, Recording, spelled_record, spelled_event, magic, auth_byte, spelled_recording, ◌>>=◌, event_of, record_len, events_at, head_of, recording_of}
use Rattle.recording.specs.Seen.{Fits}
use Rattle.recording.proofs.Fronts.{ok, ok_is, passed, bind, front_is}
use Rattle.recording.proofs.RecordingLaws.{recording_again}

-- ---- one record

-- the event of a kind and its bytes spells that record, and a record can count its bytes
record IsRecord (kind : ℕ) (bytes : List ℕ) : Type 0 where
  spelled : spelled_event (event_of kind bytes) ≡ spelled_record kind bytes
  fits : Fits (event_of kind bytes)

spelled_by : (kind : ℕ) (bytes : List ℕ) → kind ≤ 3 → (nat_lt 1 kind && not (length bytes == 0)) ≡ false → length bytes < 2 ^ 32 → IsRecord kind bytes
spelled_by kind bytes low none short = go (kind == 0) (kind == 1) (kind == 2) refl refl refl
  where
    empty : nat_lt 1 kind ≡ true → bytes ≡ []
    empty h = of_len bytes (not-false (length bytes == 0) (sym (ap (λ (b : Bool). b && not (length bytes == 0)) h) ∙ none))
      where
        of_len : (xs : List ℕ) → (length xs == 0) ≡ true → xs ≡ []
        of_len [] e = refl
        of_len (x ∷ xs) e = absurd (omega (arith, eqb-true (length (x ∷ xs)) 0 e))

    above : (kind == 0) ≡ false → (kind == 1) ≡ false → 1 < kind
    above a b = grind (arith, nat_tests, a, b)

    go : (a b c : Bool) → (kind == 0) ≡ a → (kind == 1) ≡ b → (kind == 2) ≡ c → IsRecord kind bytes
    go true b c h k l = let z : kind ≡ 0 = eqb-true kind 0 h in rw z (record { spelled = refl; fits = short })
    go false true c h k l = let z : kind ≡ 1 = eqb-true kind 1 k in rw z (record { spelled = refl; fits = short })
    go false false true h k l =
        let z : kind ≡ 2 = eqb-true kind 2 l in
        let n : bytes ≡ [] = empty (lt-ltb 1 kind (above h k)) in
        rw (z, n) (record { spelled = refl; fits = omega arith })
    go false false false h k l =
        let n : bytes ≡ [] = empty (lt-ltb 1 kind (above h k)) in
        let z : kind ≡ 3 = grind (arith, nat_tests, above h k, l, low) in
        rw (z, n) (record { spelled = refl; fits = omega arith })

-- ---- records up to the end

abbrev Read : List Event → List ℕ → Type 0
Read events bytes = (flat_map spelled_event events ≡ bytes) × AllByRecursion Fits events

read_as : (events found : List Event) (bytes : List ℕ) → ok events ≡ ok found → Read events bytes → Read found bytes
read_as events found bytes e r = subst (λ (es : List Event). Read es bytes) (ok_is events found e) r

events_are : (n place : ℕ) (bytes : List ℕ) (events : List Event) → AreBytes bytes → length bytes ≤ n → events_at n place bytes ≡ Ok events → Read events bytes
unfolding events_at
events_are zero place [] events are h e = read_as [] events [] e (refl, tt)
events_are zero place (b ∷ bytes) events are h e = absurd (omega (arith, h))
events_are (suc n) place [] events are h e = read_as [] events [] e (refl, tt)
events_are (suc n) place (kind ∷ bytes) events are h e =
    bind (record_len place (kind ∷ bytes)) (λ len. events_at n (place + 5 + len) (drop (4 + len) bytes) >>= λ es. Ok (event_of kind (take len (drop 4 bytes)) ∷ es)) events e (λ len el e1.
    bind (events_at n (place + 5 + len) (drop (4 + len) bytes)) (λ es. Ok (event_of kind (take len (drop 4 bytes)) ∷ es)) events e1 (λ es ee e2.
    let f = front_is place (kind ∷ bytes) len el in
    let own = take len (drop 4 bytes) in
    let rest = drop (4 + len) bytes in
    let are_behind : AreBytes bytes = λ i. are (suc i) in
    let four : length (take 4 bytes) ≡ 4 = length-take-le 4 bytes (omega (arith, f.head)) in
    let own_len : length own ≡ len = length-take-le len (drop 4 bytes) (omega (arith, f.all, length-drop 4 bytes)) in
    let number : to_le_bytes w32 len ≡ take 4 bytes = le_bytes_4 (take 4 bytes) len four (AreBytes-take 4 bytes are_behind) f.len_is in
    let small : len < 2 ^ 32 = subst (λ (k : ℕ). k < 2 ^ 32) (sym f.len_is) (from_le_bytes-below (take 4 bytes) (AreBytes-take 4 bytes are_behind)) in
    let event = spelled_by kind own f.kind (ap (λ (k : ℕ). nat_lt 1 kind && not (k == 0)) own_len ∙ f.none) (omega (arith, own_len, small)) in
    let others = events_are n (place + 5 + len) rest es (AreBytes-drop (4 + len) bytes are_behind) (omega (arith, h, length-drop (4 + len) bytes)) ee in
    read_as (event_of kind own ∷ es) events (kind ∷ bytes) e2 (
      ap (λ (t : List ℕ). t ++ flat_map spelled_event es) (event.spelled ∙ ap (λ (k : ℕ). spelled_record_by kind k own) own_len ∙ ap (λ (t : List ℕ). (kind ∷ t) ++ own) number)
          ∙ ap (λ (t : List ℕ). ((kind ∷ take 4 bytes) ++ own) ++ t) others.0
          ∙ ap (λ (t : List ℕ). kind ∷ t) (two_pieces 4 len bytes),
      (event.fits, others.1),
    )))
  where
    spelled_record_by : ℕ → ℕ → List ℕ → List ℕ
    spelled_record_by kind n bytes = (kind ∷ to_le_bytes w32 n) ++ bytes

-- ---- the first six bytes

pub head_is : (bytes : List ℕ) (auth : Bool) → head_of bytes ≡ Ok auth → bytes ≡ magic ++ 1 ∷ auth_byte auth ∷ drop 6 bytes
unfolding head_of
head_is bytes auth e =
    let a = passed (nat_lt (length bytes) 4) Cut (length bytes) _ auth e in
    let b = passed (not (bytes_eq (take 4 bytes) magic)) BadMagic 0 _ auth a.1 in
    let c = passed (nat_lt (length bytes) 5) Cut (length bytes) _ auth b.1 in
    let d = passed (not (get_or bytes 4 0 == 1)) BadVersion 4 _ auth c.1 in
    let f = passed (nat_lt (length bytes) 6) Cut (length bytes) _ auth d.1 in
    let g = passed (nat_lt 1 (get_or bytes 5 0)) BadAuth 5 _ auth f.1 in
    let front : take 4 bytes ≡ magic = bytes_eq-true (take 4 bytes) magic (not-false (bytes_eq (take 4 bytes) magic) b.0) in
    let version : get_or bytes 4 0 ≡ 1 = eqb-true (get_or bytes 4 0) 1 (not-false (get_or bytes 4 0 == 1) d.0) in
    let is : auth_byte auth ≡ get_or bytes 5 0 = ap auth_byte (sym (ok_is (get_or bytes 5 0 == 1) auth g.1)) ∙ worth (get_or bytes 5 0) (ltb-false 1 (get_or bytes 5 0) g.0) in
    parted bytes (ltb-false (length bytes) 6 f.0)
    ∙ ap (λ (t : List ℕ). t ++ get_or bytes 4 0 ∷ get_or bytes 5 0 ∷ drop 6 bytes) front
    ∙ ap (λ (v : ℕ). magic ++ v ∷ get_or bytes 5 0 ∷ drop 6 bytes) version
    ∙ ap (λ (x : ℕ). magic ++ 1 ∷ x ∷ drop 6 bytes) (sym is)
  where
    worth : (x : ℕ) → x ≤ 1 → auth_byte (x == 1) ≡ x
    worth zero h = refl
    worth (suc zero) h = refl
    worth (suc (suc x)) h = absurd (omega (arith, h))

    parted : (bytes : List ℕ) → 6 ≤ length bytes → bytes ≡ take 4 bytes ++ get_or bytes 4 0 ∷ get_or bytes 5 0 ∷ drop 6 bytes
    parted (a ∷ b ∷ c ∷ d ∷ e ∷ f ∷ bytes) h = refl
    parted _ h = absurd (omega (arith, h))

-- ---- the file

-- a recording that is found is what the file spells, and a record can count each of its events
pub record Spelled (r : Recording) (bytes : List ℕ) : Type 0 where
  pub is : spelled_recording r ≡ bytes
  pub fits : AllByRecursion Fits r.events
  pub short : length bytes ≤ RECORDING_LIMIT

pub recording-is : (bytes : List ℕ) (r : Recording) → AreBytes bytes → recording_of bytes ≡ Ok r → Spelled r bytes
unfolding recording_of spelled_recording
recording-is bytes r are e =
    let a = passed (nat_lt (RECORDING_LIMIT) (length bytes)) TooLong (RECORDING_LIMIT) _ r e in
    bind (head_of bytes) (λ auth. events_at (length bytes) 6 (drop 6 bytes) >>= λ events. Ok (record { auth = auth; events = events })) r a.1 (λ auth ea e1.
    bind (events_at (length bytes) 6 (drop 6 bytes)) (λ events. Ok (record { auth = auth; events = events })) r e1 (λ events ee e2.
    let read = events_are (length bytes) 6 (drop 6 bytes) events (AreBytes-drop 6 bytes are) (omega (arith, length-drop 6 bytes)) ee in
    let is : spelled_recording (made auth events) ≡ bytes = ap (λ (t : List ℕ). magic ++ 1 ∷ auth_byte auth ∷ t) read.0 ∙ sym (head_is bytes auth ea) in
    subst (λ (x : Recording). Spelled x bytes) (ok_is (made auth events) r e2) (record { is = is; fits = read.1; short = ltb-false (RECORDING_LIMIT) (length bytes) a.0 })))
  where
    made : Bool → List Event → Recording
    made auth events = record { auth = auth; events = events }

-- both ways: a file is that recording exactly if it spells it
pub recording-exact : (bytes : List ℕ) (r : Recording) → AreBytes bytes → Spelled r bytes → recording_of bytes ≡ Ok r
recording-exact bytes r are s = ap recording_of (sym s.is) ∙ recording_again r s.fits (omega (arith, ap length s.is, s.short))
