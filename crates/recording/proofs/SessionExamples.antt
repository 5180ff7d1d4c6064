-- Worked examples of recordings of many sessions.
use Rattle.std.specs.Prelude.{◌≡◌, ℕ, true, false, [], ◌∷◌, codes, refl, map, Result, Ok, Err}
use Rattle.byte_lists.specs.Hex.{hex}
use Rattle.recording.specs.declared.Side.TheVariants.{Client, Bus}
use Rattle.recording.specs.declared.RecordingKind.{RecordingKind}
use Rattle.recording.specs.declared.RecordingKind.TheVariants.{BadVersion, BadKind, Cut, BadLength, BadSession, BadEnd}
use Rattle.recording.specs.declared.BadRecording.{BadRecording}
use Rattle.recording.specs.declared.TheConstants.{SESSION_LIMIT}
use Rattle.recording.specs.Recording.{record_len, events_at, head_of, recording_of, Recording, Bytes, Finished, spelled_recording}
use Rattle.recording.specs.Sessions.{Sessions, Happened, Stopped, file_head_of, record_session, session_record_len, session_events_at, sessions_of, spelled_sessions, sessions_named, migrated}

two : Sessions
two = record {
  version = 2;
  auth = false;
  events = record { session = 3; what = Happened (Bytes Client (255 ∷ 255 ∷ 255 ∷ [])) } ∷ record { session = 3; what = Happened (Finished Client) } ∷ [];
}

written : spelled_sessions two ≡ hex (codes "44425052 02 00 00 03000000 03000000 ffffff 02 03000000 00000000")
unfolding two spelled_sessions
written = refl

read_again : sessions_of (spelled_sessions two) ≡ Ok two
unfolding two spelled_sessions sessions_of file_head_of session_events_at record_session session_record_len
read_again = refl

abbrev bad : RecordingKind → ℕ → Result Sessions BadRecording
bad kind at = Err (record { kind = kind; at = at })

bad_files : map sessions_of (map hex (codes "44425052 02 00 00 00000000 03000000 ffffff" ∷ codes "44425052 02 00 00 00000000" ∷ codes "44425052 02 00 05" ∷ codes "44425052 02 00 04 01000000 01000000 06" ∷ codes "44425052 02 00 04 01000000 02000000 0707" ∷ codes "44425052 02 00 00 010000" ∷ codes "44425052 03 00" ∷ codes "44425052 01 00 04" ∷ []))
    ≡ bad BadSession 7 ∷ bad BadSession 7 ∷ bad BadKind 6 ∷ bad BadEnd 15 ∷ bad BadLength 11 ∷ bad Cut 10 ∷ bad BadVersion 4 ∷ bad BadKind 6 ∷ []
unfolding sessions_of file_head_of session_events_at record_session session_record_len record_len events_at head_of recording_of
bad_files = refl

-- sessions are counted once each, and stand in ascending order
named_once : sessions_named [] (record { session = 7; what = Stopped 9 } ∷ record { session = 2; what = Happened (Finished Bus) } ∷ record { session = 7; what = Happened (Finished Bus) } ∷ []) ≡ 2 ∷ 7 ∷ []
named_once = refl

one : Recording
one = record { auth = true; events = Bytes Client (1 ∷ []) ∷ Finished Client ∷ [] }

-- a file of version 1 gives its recording, of session 1
of_one_session : sessions_of (spelled_recording one) ≡ Ok (migrated one)
unfolding one spelled_recording sessions_of file_head_of record_len events_at head_of recording_of
of_one_session = refl

-- a recording has 65,536 sessions at most
most_sessions : SESSION_LIMIT ≡ 65536
most_sessions = refl
