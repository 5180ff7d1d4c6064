-- The first six bytes of a file, looked at in two parts.
use Rattle.std.proofs.Common.{◌≡◌, ℕ, Bool, true, false, cond, List, length, take, get_or, Result, Ok, Err, refl, ap, ◌∙◌}
use Rattle.std.specs.Prelude.{not, ◌==◌, ◌||◌, nat_lt, bytes_eq}
use Rattle.recording.specs.declared.RecordingKind.TheVariants.{BadMagic, BadVersion, Cut}
use Rattle.recording.specs.declared.BadRecording.{BadRecording}
use Rattle.recording.specs.Recording.{◌>>=◌, magic, head_of, refused}
use Rattle.recording.specs.Passes.{version_of, auth_of}
use Rattle.recording.specs.Sessions.{FileHead, file_head_of}

-- three guards, and then one of the version
guarded : {A : Type 0} (a b c : Bool) (x y z : BadRecording) (v : ℕ) (f : ℕ → Result A BadRecording) →
    cond a (Err x) (cond b (Err y) (cond c (Err z) (f v))) ≡ (cond a (Err x) (cond b (Err y) (cond c (Err z) (Ok v))) >>= f)
guarded true b c x y z v f = refl
guarded false true c x y z v f = refl
guarded false false true x y z v f = refl
guarded false false false x y z v f = refl

abbrev head_after : List ℕ → ℕ → Result Bool BadRecording
head_after bytes version = cond (not (version == 1)) (refused BadVersion 4) (auth_of bytes)

-- of version 1
head-parts : (bytes : List ℕ) → head_of bytes ≡ (version_of bytes >>= head_after bytes)
unfolding head_of
head-parts bytes = guarded (nat_lt (length bytes) 4) (not (bytes_eq (take 4 bytes) magic)) (nat_lt (length bytes) 5) _ _ _ (get_or bytes 4 0) (head_after bytes)

pub head-fault : (bytes : List ℕ) (fault : BadRecording) → version_of bytes ≡ Err fault → head_of bytes ≡ Err fault
head-fault bytes fault e = head-parts bytes ∙ ap (λ (r : Result ℕ BadRecording). r >>= head_after bytes) e

pub head-other : (bytes : List ℕ) (version : ℕ) → version_of bytes ≡ Ok version → (version == 1) ≡ false → head_of bytes ≡ refused BadVersion 4
head-other bytes version e n =
    head-parts bytes ∙ ap (λ (r : Result ℕ BadRecording). r >>= head_after bytes) e ∙ ap (λ (b : Bool). cond (not b) (refused BadVersion 4) (auth_of bytes)) n

pub head-same : (bytes : List ℕ) (version : ℕ) → version_of bytes ≡ Ok version → (version == 1) ≡ true → head_of bytes ≡ auth_of bytes
head-same bytes version e n =
    head-parts bytes ∙ ap (λ (r : Result ℕ BadRecording). r >>= head_after bytes) e ∙ ap (λ (b : Bool). cond (not b) (refused BadVersion 4) (auth_of bytes)) n

-- of either version
abbrev headed : ℕ → Bool → Result FileHead BadRecording
headed version auth = Ok (record { version = version; auth = auth })

abbrev pub known : ℕ → Bool
known version = version == 1 || version == 2

pub known_1 : (version : ℕ) → version ≡ 1 → known version ≡ true
known_1 version e = ap known e

pub known_2 : (version : ℕ) → version ≡ 2 → known version ≡ true
known_2 version e = ap known e

abbrev file_head_after : List ℕ → ℕ → Result FileHead BadRecording
file_head_after bytes version = cond (not (known version)) (refused BadVersion 4) (auth_of bytes >>= headed version)

file_head-parts : (bytes : List ℕ) → file_head_of bytes ≡ (version_of bytes >>= file_head_after bytes)
unfolding file_head_of
file_head-parts bytes =
    ap (λ (r : Result FileHead BadRecording). cond (nat_lt (length bytes) 4) (refused Cut (length bytes)) (cond (not (bytes_eq (take 4 bytes) magic)) (refused BadMagic 0) (cond (nat_lt (length bytes) 5) (refused Cut (length bytes)) (cond (not (known (get_or bytes 4 0))) (refused BadVersion 4) r))))
    (two (nat_lt (length bytes) 6) (nat_lt 1 (get_or bytes 5 0)) _ _ (get_or bytes 5 0 == 1) (headed (get_or bytes 4 0)))
    ∙ guarded (nat_lt (length bytes) 4) (not (bytes_eq (take 4 bytes) magic)) (nat_lt (length bytes) 5) _ _ _ (get_or bytes 4 0) (file_head_after bytes)
  where
    two : (a b : Bool) (x y : BadRecording) (v : Bool) (f : Bool → Result FileHead BadRecording) →
        cond a (Err x) (cond b (Err y) (f v)) ≡ (cond a (Err x) (cond b (Err y) (Ok v)) >>= f)
    two true b x y v f = refl
    two false true x y v f = refl
    two false false x y v f = refl

pub file_head-fault : (bytes : List ℕ) (fault : BadRecording) → version_of bytes ≡ Err fault → file_head_of bytes ≡ Err fault
file_head-fault bytes fault e = file_head-parts bytes ∙ ap (λ (r : Result ℕ BadRecording). r >>= file_head_after bytes) e

pub file_head-other : (bytes : List ℕ) (version : ℕ) → version_of bytes ≡ Ok version → (version == 1) ≡ false → (version == 2) ≡ false → file_head_of bytes ≡ refused BadVersion 4
file_head-other bytes version e n m =
    file_head-parts bytes ∙ ap (λ (r : Result ℕ BadRecording). r >>= file_head_after bytes) e
    ∙ ap (λ (b : Bool). cond (not (b || version == 2)) (refused BadVersion 4) (auth_of bytes >>= headed version)) n
    ∙ ap (λ (b : Bool). cond (not b) (refused BadVersion 4) (auth_of bytes >>= headed version)) m

pub file_head-known : (bytes : List ℕ) (version : ℕ) → version_of bytes ≡ Ok version → known version ≡ true → file_head_of bytes ≡ (auth_of bytes >>= headed version)
file_head-known bytes version e n =
    file_head-parts bytes ∙ ap (λ (r : Result ℕ BadRecording). r >>= file_head_after bytes) e
    ∙ ap (λ (b : Bool). cond (not b) (refused BadVersion 4) (auth_of bytes >>= headed version)) n

pub file_head-bad_auth : (bytes : List ℕ) (version : ℕ) (fault : BadRecording) → version_of bytes ≡ Ok version → known version ≡ true → auth_of bytes ≡ Err fault → file_head_of bytes ≡ Err fault
file_head-bad_auth bytes version fault e n a = file_head-known bytes version e n ∙ ap (λ (r : Result Bool BadRecording). r >>= headed version) a

pub file_head-is : (bytes : List ℕ) (version : ℕ) (auth : Bool) → version_of bytes ≡ Ok version → known version ≡ true → auth_of bytes ≡ Ok auth → file_head_of bytes ≡ headed version auth
file_head-is bytes version auth e n a = file_head-known bytes version e n ∙ ap (λ (r : Result Bool BadRecording). r >>= headed version) a
