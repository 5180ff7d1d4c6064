-- Worked examples of the lines of bad recordings, and of those of comparisons.
use Rattle.std.proofs.Common.{◌≡◌, ℕ, List, [], ◌∷◌, ◌++◌, codes, map, refl, Result, Ok, Err}
use Rattle.std.specs.Fmt.{digits}
use Rattle.recording.specs.declared.RecordingKind.TheVariants.{TooLong}
use Rattle.recording.specs.declared.TheConstants.{RECORDING_LIMIT}
use Rattle.recording.specs.Recording.{Recording, record_len, events_at, head_of, recording_of}
use Rattle.proxy_main.specs.declared.Refusal.{Refusal}
use Rattle.replay.specs.declared.comparing.TwinAnswer.TheVariants.{Same, Differ}
use Rattle.proxy_main.specs.Answers.{checked_recording, twin_line}
use Rattle.proxy_main.specs.Lines.{recording_line, refusal_line}

-- the line of a recording, if it is refused
abbrev line_of : Result Recording Refusal → List ℕ
line_of (Ok recording) = []
line_of (Err refusal) = refusal_line refusal

bad_recordings : map (λ bytes. line_of (checked_recording bytes)) (codes "DBP" ∷ (codes "DBPR" ++ 9 ∷ 0 ∷ []) ∷ (codes "DBPR" ++ 1 ∷ 0 ∷ 7 ∷ []) ∷ [])
    ≡ codes "error: recording: Cut at 3\n" ∷ codes "error: recording: BadVersion at 4\n" ∷ codes "error: recording: BadKind at 6\n" ∷ []
unfolding checked_recording record_len events_at head_of recording_of digits
bad_recordings = refl

too_long : recording_line (record { kind = TooLong; at = RECORDING_LIMIT }) ≡ codes "error: recording: TooLong at 67108864\n"
unfolding digits
too_long = refl

comparisons : map twin_line (Same ∷ Differ 1 ∷ Differ 18446744073709551615 ∷ []) ≡ codes "same\n" ∷ codes "differ 1\n" ∷ codes "differ 18446744073709551615\n" ∷ []
unfolding digits
comparisons = refl
