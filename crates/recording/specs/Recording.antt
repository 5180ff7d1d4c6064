-- Recordings: their events, their spelling, and the first fault of a file.
use Rattle.std.specs.Prelude.{ℕ, zero, suc, ◌+◌, Bool, true, false, not, ◌&&◌, ◌==◌, nat_lt, List, [], ◌∷◌, ◌++◌, length, take, drop, get_or, codes, Result, Ok, Err, if◌then◌else◌, bytes_eq}
use Rattle.std.specs.Int.{w32, to_le_bytes, from_le_bytes}
use Rattle.std.specs.List.{flat_map}
use Rattle.recording.specs.declared.Side.{Side}
use Rattle.recording.specs.declared.Side.TheVariants.{Client, Bus}
use Rattle.recording.specs.declared.RecordingKind.{RecordingKind}
use Rattle.recording.specs.declared.RecordingKind.TheVariants.{BadMagic, BadVersion, BadKind, Cut, BadAuth, BadLength, TooLong}
use Rattle.recording.specs.declared.BadRecording.{BadRecording}
use Rattle.recording.specs.declared.TheConstants.{RECORDING_LIMIT}

-- bytes that came from a side, or that side's end
pub data Event : Type 0 where
  Bytes : Side → List ℕ → Event
  Finished : Side → Event

pub record Recording : Type 0 where
  pub auth : Bool
  pub events : List Event

-- ---- spelling

-- a kind byte, a length in little order, and that many bytes
abbrev pub spelled_record : ℕ → List ℕ → List ℕ
spelled_record kind bytes = kind ∷ to_le_bytes w32 (length bytes) ++ bytes

abbrev pub spelled_event : Event → List ℕ
spelled_event (Bytes Client bytes) = spelled_record 0 bytes
spelled_event (Bytes Bus bytes) = spelled_record 1 bytes
spelled_event (Finished Client) = spelled_record 2 []
spelled_event (Finished Bus) = spelled_record 3 []

abbrev pub magic : List ℕ
magic = codes "DBPR"

abbrev pub auth_byte : Bool → ℕ
auth_byte true = 1
auth_byte false = 0

unfoldable pub spelled_recording : Recording → List ℕ
spelled_recording r = magic ++ 1 ∷ auth_byte r.auth ∷ flat_map spelled_event r.events

-- ---- faults

abbrev pub refused : {A : Type 0} → RecordingKind → ℕ → Result A BadRecording
refused kind at = Err (record { kind = kind; at = at })

infixl 10 ◌>>=◌
abbrev pub ◌>>=◌ : {A B : Type 0} → Result A BadRecording → (A → Result B BadRecording) → Result B BadRecording
(Ok x) >>= f = f x
(Err fault) >>= f = Err fault

-- ---- reading, from left to right

abbrev pub event_of : ℕ → List ℕ → Event
event_of kind bytes =
    if kind == 0 then Bytes Client bytes
    else (if kind == 1 then Bytes Bus bytes
    else (if kind == 2 then Finished Client else Finished Bus))

-- what is wrong with the record in front, which begins at the place
unfoldable pub record_len : ℕ → List ℕ → Result ℕ BadRecording
record_len place bytes =
    let len = from_le_bytes w32 (take 4 (drop 1 bytes)) in
    if nat_lt 3 (get_or bytes 0 0) then refused BadKind place
    else (if nat_lt (length bytes) 5 then refused Cut (place + length bytes)
    else (if nat_lt 1 (get_or bytes 0 0) && not (len == 0) then refused BadLength (place + 1)
    else (if nat_lt (length bytes) (5 + len) then refused Cut (place + length bytes)
    else Ok len)))

-- records up to the end, at most this many
unfoldable pub events_at : ℕ → ℕ → List ℕ → Result (List Event) BadRecording
events_at zero place bytes = Ok []
events_at (suc n) place [] = Ok []
events_at (suc n) place (kind ∷ bytes) = do
  len ← record_len place (kind ∷ bytes)
  events ← events_at n (place + 5 + len) (drop (4 + len) bytes)
  Ok (event_of kind (take len (drop 4 bytes)) ∷ events)

-- the six first bytes, each checked at its place; then the auth byte
unfoldable pub head_of : List ℕ → Result Bool BadRecording
head_of bytes =
    if nat_lt (length bytes) 4 then refused Cut (length bytes)
    else (if not (bytes_eq (take 4 bytes) magic) then refused BadMagic 0
    else (if nat_lt (length bytes) 5 then refused Cut (length bytes)
    else (if not (get_or bytes 4 0 == 1) then refused BadVersion 4
    else (if nat_lt (length bytes) 6 then refused Cut (length bytes)
    else (if nat_lt 1 (get_or bytes 5 0) then refused BadAuth 5
    else Ok (get_or bytes 5 0 == 1))))))

unfoldable pub recording_of : List ℕ → Result Recording BadRecording
recording_of bytes =
    if nat_lt RECORDING_LIMIT (length bytes) then refused TooLong RECORDING_LIMIT
    else (head_of bytes >>= λ auth. events_at (length bytes) 6 (drop 6 bytes) >>= λ events. Ok (record { auth = auth; events = events }))
