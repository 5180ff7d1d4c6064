-- Recordings of many sessions: their events, their spelling, and the first fault of a file of either version.
use Rattle.std.specs.Prelude.{ℕ, zero, suc, ◌+◌, Bool, not, ◌&&◌, ◌||◌, ◌==◌, nat_lt, nat_le, List, [], ◌∷◌, ◌++◌, length, map, take, drop, get_or, Result, Ok, if◌then◌else◌, bytes_eq}
use Rattle.std.specs.BTreeSet.{insert_key}
use Rattle.std.specs.Int.{w32, to_le_bytes, from_le_bytes}
use Rattle.std.specs.List.{flat_map}
use Rattle.std.specs.Ordering.{nat_cmp}
use Rattle.recording.specs.declared.BadRecording.{BadRecording}
use Rattle.recording.specs.declared.RecordingKind.TheVariants.{BadMagic, BadVersion, BadKind, Cut, BadAuth, BadLength, TooLong, BadSession, TooManySessions, BadEnd}
use Rattle.recording.specs.declared.Side.TheVariants.{Client, Bus}
use Rattle.recording.specs.declared.TheConstants.{RECORDING_LIMIT, SESSION_LIMIT}
use Rattle.recording.specs.Recording.{Event, Bytes, Finished, Recording, magic, auth_byte, event_of, recording_of, refused, ◌>>=◌}

-- what happened in a session: an event of its streams, or a stop by a failed call, which has the number of an End
pub data What : Type 0 where
  Happened : Event → What
  Stopped : ℕ → What

pub record SessionEvent : Type 0 where
  pub session : ℕ
  pub what : What

pub record Sessions : Type 0 where
  pub version : ℕ
  pub auth : Bool
  pub events : List SessionEvent

-- an event of the only session of a file of version 1
abbrev pub one_session_event : Event → SessionEvent
one_session_event event = record { session = 1; what = Happened event }

-- a recording of version 1 is one of session 1 alone
abbrev pub migrated : Recording → Sessions
migrated r = record { version = 1; auth = r.auth; events = map one_session_event r.events }

-- ---- spelling

-- a kind byte, the session and the number of bytes that follow, both in little order
abbrev pub record_head : ℕ → ℕ → ℕ → List ℕ
record_head kind session len = kind ∷ to_le_bytes w32 session ++ to_le_bytes w32 len

-- the kind of a record
abbrev pub kind_of : What → ℕ
kind_of (Happened (Bytes Client bytes)) = 0
kind_of (Happened (Bytes Bus bytes)) = 1
kind_of (Happened (Finished Client)) = 2
kind_of (Happened (Finished Bus)) = 3
kind_of (Stopped end) = 4

-- the bytes that it counts
abbrev pub bytes_of : What → List ℕ
bytes_of (Happened (Bytes side bytes)) = bytes
bytes_of (Happened (Finished side)) = []
bytes_of (Stopped end) = end ∷ []

abbrev pub spelled_session_event : SessionEvent → List ℕ
spelled_session_event e = record_head (kind_of e.what) e.session (length (bytes_of e.what)) ++ bytes_of e.what

-- a file of version 2
unfoldable pub spelled_sessions : Sessions → List ℕ
spelled_sessions s = magic ++ 2 ∷ auth_byte s.auth ∷ flat_map spelled_session_event s.events

-- ---- the sessions that are named

-- sessions in ascending order, each once, and this one
abbrev pub with_session : List ℕ → ℕ → List ℕ
with_session before session = insert_key nat_cmp before session

-- these sessions and those that the events name, in ascending order, each once
abbrev pub sessions_named : List ℕ → List SessionEvent → List ℕ
sessions_named before [] = before
sessions_named before (e ∷ events) = sessions_named (with_session before e.session) events

-- ---- one record

-- four bytes as a number, in little order
abbrev pub number_at : ℕ → List ℕ → ℕ
number_at place bytes = from_le_bytes w32 (take 4 (drop place bytes))

-- the session of the record in front, which begins at the place, after records of these sessions; its kind is looked at
-- before it
unfoldable pub record_session : List ℕ → ℕ → List ℕ → Result ℕ BadRecording
record_session before place bytes =
    let session = number_at 1 bytes in
    if nat_lt 4 (get_or bytes 0 0) then refused BadKind place
    else (if nat_lt (length bytes) 5 then refused Cut (place + length bytes)
    else (if session == 0 then refused BadSession (place + 1)
    else (if nat_lt SESSION_LIMIT (length (with_session before session)) then refused TooManySessions place
    else Ok session)))

-- a stop has one byte, and the end of a stream none
abbrev pub is_wrong_length : ℕ → ℕ → Bool
is_wrong_length kind len = if kind == 4 then not (len == 1) else (nat_lt 1 kind && not (len == 0))

-- the Ends that a failed call gives have the numbers 7 to 11
abbrev pub is_wrong_end : ℕ → ℕ → Bool
is_wrong_end kind end = kind == 4 && not (nat_le 7 end && nat_le end 11)

-- how many bytes it counts; these are looked at after their number
unfoldable pub session_record_len : ℕ → List ℕ → Result ℕ BadRecording
session_record_len place bytes =
    let kind = get_or bytes 0 0 in
    let len = number_at 5 bytes in
    if nat_lt (length bytes) 9 then refused Cut (place + length bytes)
    else (if is_wrong_length kind len then refused BadLength (place + 5)
    else (if nat_lt (length bytes) (9 + len) then refused Cut (place + length bytes)
    else (if is_wrong_end kind (get_or bytes 9 0) then refused BadEnd (place + 9)
    else Ok len)))

abbrev pub what_of : ℕ → List ℕ → What
what_of kind bytes = if kind == 4 then Stopped (get_or bytes 0 0) else Happened (event_of kind bytes)

-- records up to the end, at most this many, after records of these sessions
unfoldable pub session_events_at : ℕ → List ℕ → ℕ → List ℕ → Result (List SessionEvent) BadRecording
session_events_at zero before place bytes = Ok []
session_events_at (suc n) before place [] = Ok []
session_events_at (suc n) before place (kind ∷ bytes) = do
  session ← record_session before place (kind ∷ bytes)
  len ← session_record_len place (kind ∷ bytes)
  events ← session_events_at n (with_session before session) (place + 9 + len) (drop (8 + len) bytes)
  Ok (record { session = session; what = what_of kind (take len (drop 8 bytes)) } ∷ events)

-- ---- a file

-- the version and the auth byte
pub record FileHead : Type 0 where
  pub version : ℕ
  pub auth : Bool

-- the six first bytes, each checked at its place
unfoldable pub file_head_of : List ℕ → Result FileHead BadRecording
file_head_of bytes =
    if nat_lt (length bytes) 4 then refused Cut (length bytes)
    else (if not (bytes_eq (take 4 bytes) magic) then refused BadMagic 0
    else (if nat_lt (length bytes) 5 then refused Cut (length bytes)
    else (if not (get_or bytes 4 0 == 1 || get_or bytes 4 0 == 2) then refused BadVersion 4
    else (if nat_lt (length bytes) 6 then refused Cut (length bytes)
    else (if nat_lt 1 (get_or bytes 5 0) then refused BadAuth 5
    else Ok (record { version = get_or bytes 4 0; auth = get_or bytes 5 0 == 1 }))))))

-- the records of a file of version 2
abbrev pub of_version_2 : Bool → List ℕ → Result Sessions BadRecording
of_version_2 auth bytes = session_events_at (length bytes) [] 6 (drop 6 bytes) >>= λ events. Ok (record { version = 2; auth = auth; events = events })

-- a file of version 1 is read as one session's recording
abbrev pub one_session_of : List ℕ → Result Sessions BadRecording
one_session_of bytes = recording_of bytes >>= λ r. Ok (migrated r)

abbrev pub by_version : FileHead → List ℕ → Result Sessions BadRecording
by_version head bytes = if head.version == 1 then one_session_of bytes else of_version_2 head.auth bytes

-- a file of either version
unfoldable pub sessions_of : List ℕ → Result Sessions BadRecording
sessions_of bytes =
    if nat_lt RECORDING_LIMIT (length bytes) then refused TooLong RECORDING_LIMIT
    else (file_head_of bytes >>= λ head. by_version head bytes)
