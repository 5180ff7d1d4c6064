-- A file of version 1 gives its recording, as one session's.
use Rattle.std.proofs.Common.{◌≡◌, ℕ, Bool, true, false, List, ◌∷◌, ◌++◌, length, drop, Result, Ok, refl, ap, ◌∙◌, arith}
use Rattle.std.specs.Prelude.{nat_lt}
use Rattle.recording.specs.declared.RecordingKind.TheVariants.{TooLong}
use Rattle.recording.specs.declared.BadRecording.{BadRecording}
use Rattle.recording.specs.declared.TheConstants.{RECORDING_LIMIT}
use Rattle.recording.specs.Recording.{Recording, magic, auth_byte, ◌>>=◌, events_at, head_of, recording_of, refused}
use Rattle.recording.specs.Sessions.{migrated, FileHead, file_head_of, by_version, sessions_of}
use Rattle.recording.proofs.Fronts.{passed, bind}
use Rattle.recording.proofs.RecordingLaws.{skip, then_ok, six}
use Rattle.recording.proofs.RecordingRead.{head_is}

abbrev head : Bool → FileHead
head auth = record { version = 1; auth = auth }

head_again : (auth : Bool) (bytes : List ℕ) → file_head_of (magic ++ 1 ∷ auth_byte auth ∷ bytes) ≡ Ok (head auth)
unfolding file_head_of
head_again true bytes =
    skip _ _ _ _ (six 68 66 80 82 1 1 4 bytes (omega arith)) (skip _ _ _ _ (six 68 66 80 82 1 1 5 bytes (omega arith)) (skip _ _ _ _ (six 68 66 80 82 1 1 6 bytes (omega arith)) refl))
head_again false bytes =
    skip _ _ _ _ (six 68 66 80 82 1 0 4 bytes (omega arith)) (skip _ _ _ _ (six 68 66 80 82 1 0 5 bytes (omega arith)) (skip _ _ _ _ (six 68 66 80 82 1 0 6 bytes (omega arith)) refl))

pub one_session : (bytes : List ℕ) (r : Recording) → recording_of bytes ≡ Ok r → sessions_of bytes ≡ Ok (migrated r)
unfolding recording_of sessions_of
one_session bytes r e =
    let a = passed (nat_lt RECORDING_LIMIT (length bytes)) TooLong RECORDING_LIMIT _ r e in
    bind (head_of bytes) (λ auth. events_at (length bytes) 6 (drop 6 bytes) >>= λ events. Ok (record { auth = auth; events = events })) r a.1 (λ auth ea e1.
    let first : file_head_of bytes ≡ Ok (head auth) = ap file_head_of (head_is bytes auth ea) ∙ head_again auth (drop 6 bytes) in
    skip (nat_lt RECORDING_LIMIT (length bytes)) (refused TooLong RECORDING_LIMIT) _ _ a.0
    (then_ok (file_head_of bytes) (λ h. by_version h bytes) (head auth) _ first (ap (λ (x : Result Recording BadRecording). x >>= λ q. Ok (migrated q)) e)))
