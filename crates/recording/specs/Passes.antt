-- What the two passes over a file find.
use Rattle.std.specs.Prelude.{◌≡◌, ℕ, ◌+◌, ◌≤◌, ◌==◌, Bool, not, nat_lt, bytes_eq, List, length, take, drop, get_or, Result, Ok, Err, if◌then◌else◌}
use Rattle.recording.specs.declared.BadRecording.{BadRecording}
use Rattle.recording.specs.declared.RecordingKind.TheVariants.{BadMagic, Cut, BadAuth}
use Rattle.recording.specs.declared.TheConstants.{RECORDING_LIMIT, HEAD_LEN}
use Rattle.recording.specs.Recording.{Event, events_at, head_of, magic, refused}

-- the version byte, after those before it
abbrev pub version_of : List ℕ → Result ℕ BadRecording
version_of bytes =
    if nat_lt (length bytes) 4 then refused Cut (length bytes)
    else (if not (bytes_eq (take 4 bytes) magic) then refused BadMagic 0
    else (if nat_lt (length bytes) 5 then refused Cut (length bytes)
    else Ok (get_or bytes 4 0)))

-- the auth byte
abbrev pub auth_of : List ℕ → Result Bool BadRecording
auth_of bytes =
    if nat_lt (length bytes) 6 then refused Cut (length bytes)
    else (if nat_lt 1 (get_or bytes 5 0) then refused BadAuth 5
    else Ok (get_or bytes 5 0 == 1))

-- the events of the records that these bytes are, which begin at the place
abbrev pub records : ℕ → List ℕ → Result (List Event) BadRecording
records place bytes = events_at (length bytes) place bytes

-- how many there are, beside this many before them
abbrev pub counted : {A : Type 0} → ℕ → Result (List A) BadRecording → Result ℕ BadRecording
counted n (Ok events) = Ok (n + length events)
counted n (Err fault) = Err fault

-- a file without a fault, its auth byte and how many records it has
pub record IsChecked (bytes : List ℕ) (auth : Bool) (record_count : ℕ) : Type 0 where
  pub short : length bytes ≤ RECORDING_LIMIT
  pub long : HEAD_LEN ≤ length bytes
  pub head : head_of bytes ≡ Ok auth
  pub count : counted 0 (records HEAD_LEN (drop HEAD_LEN bytes)) ≡ Ok record_count
