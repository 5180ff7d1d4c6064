-- Worked examples of recordings.
use Rattle.std.specs.Prelude.{◌≡◌, ℕ, true, false, [], ◌∷◌, codes, refl, map, Result, Ok, Err}
use Rattle.byte_lists.specs.Hex.{hex}
use Rattle.recording.specs.declared.Side.TheVariants.{Client, Bus}
use Rattle.recording.specs.declared.RecordingKind.{RecordingKind}
use Rattle.recording.specs.declared.RecordingKind.TheVariants.{BadMagic, BadVersion, BadKind, Cut, BadAuth, BadLength}
use Rattle.recording.specs.declared.BadRecording.{BadRecording}
use Rattle.recording.specs.declared.TheConstants.{RECORDING_LIMIT}
use Rattle.recording.specs.Recording.{record_len, events_at, head_of, recording_of, Recording, Bytes, Finished, spelled_recording}

abbrev bad : RecordingKind → ℕ → Result Recording BadRecording
bad kind at = Err (record { kind = kind; at = at })

bad_recordings : map recording_of (map hex (codes "444250" ∷ codes "444250520900" ∷ codes "44425052010007" ∷ codes "44425051" ∷ codes "444250520102" ∷ codes "4442505201000201000000" ∷ codes "44425052010000020000ff" ∷ codes "4442505201" ∷ []))
    ≡ bad Cut 3 ∷ bad BadVersion 4 ∷ bad BadKind 6 ∷ bad BadMagic 0 ∷ bad BadAuth 5 ∷ bad BadLength 7 ∷ bad Cut 11 ∷ bad Cut 5 ∷ []
unfolding record_len events_at head_of recording_of
bad_recordings = refl

some : Recording
some = record { auth = true; events = Bytes Client (1 ∷ 2 ∷ []) ∷ Bytes Bus [] ∷ Finished Bus ∷ [] }

written : spelled_recording some ≡ hex (codes "444250520101 00 02000000 0102 01 00000000 03 00000000")
unfolding some spelled_recording
written = refl

read_again : recording_of (spelled_recording some) ≡ Ok some
unfolding some spelled_recording record_len events_at head_of recording_of
read_again = refl

nothing_recorded : recording_of (hex (codes "444250520100")) ≡ Ok (record { auth = false; events = [] })
unfolding record_len events_at head_of recording_of
nothing_recorded = refl

-- a recording has 64 MiB at most
longest : RECORDING_LIMIT ≡ 67108864
longest = refl
