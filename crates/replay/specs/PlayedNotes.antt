-- A recording that is played piece by piece, and the notes that it gives.
use Rattle.std.specs.Prelude.{◌≡◌, ℕ, ◌+◌, List, [], ◌∷◌, ◌++◌, drop, Option, Some, None}
use Rattle.std.specs.List.{sum_by}
use Rattle.policy_args.specs.Words.{PolicyOptions}
use Rattle.policy_view.specs.History.{Event, history}
use Rattle.policy_view.specs.Notes.{Note, notes}
use Rattle.proxy_core.specs.Sessions.{SessionView, StandsFor, Taken}
use Rattle.recording.specs.Recording.{Recording}
use Rattle.recording.specs.Recording as recorded
use Rattle.recording.specs.Seen.{size_of}
use Rattle.replay_output.specs.Explained.{with_log}
use Rattle.replay_output.specs.Output.{events_of, history_of, mode_of}
use Rattle.replay.specs.declared.played_notes.PlayedNotes.{PlayedNotes}

-- the events that are left when this many bytes of the first were played
abbrev pub left_behind : ℕ → List recorded.Event → List recorded.Event
left_behind begun [] = []
left_behind begun (recorded.Bytes side piece ∷ events) = recorded.Bytes side (drop begun piece) ∷ events
left_behind begun (recorded.Finished side ∷ events) = recorded.Finished side ∷ events

-- what is left of a recording's events
abbrev pub left_of : List recorded.Event → PlayedNotes → List recorded.Event
left_of events played = left_behind played.begun (drop played.played events)

-- how many pieces these events are played in at most
abbrev pub most_pieces : List recorded.Event → ℕ
most_pieces events = sum_by (λ event. size_of event + 1) events

-- the notes of a recording, whether the options ask for a log or not; without the filter there are none
abbrev pub notes_under : PolicyOptions → Recording → List Note
notes_under options recording = notes options.policy (history_of (with_log options) recording)

-- The session represents events that have the recording's notes once what is left is played too, and these notes were
-- taken from it.
pub record GaveNotes (options : PolicyOptions) (recording : Recording) (played : PlayedNotes) (given : List Note) : Type 0 where
  pub taken : Taken
  pub events : List Event
  pub mode : played.session.mode ≡ mode_of (with_log options) recording
  pub stands : StandsFor options.policy played.session events taken
  pub same :
      notes options.policy (history options.policy (mode_of (with_log options) recording) (events_of (left_of recording.events played) ++ events))
      ≡ notes_under options recording
  pub noted : taken.notes ≡ given

-- the next note that waited was given, or none waits
abbrev pub GaveWaitingNote : PolicyOptions → Recording → PlayedNotes → List Note → Option Note → Type 0
GaveWaitingNote options recording played given None = GaveNotes options recording played given × (played.session.notes ≡ [])
GaveWaitingNote options recording played given (Some note) = GaveNotes options recording played (given ++ note ∷ [])

-- the next note was given, or these are all notes of the recording
abbrev pub GaveNextNote : PolicyOptions → Recording → PlayedNotes → List Note → Option Note → Type 0
GaveNextNote options recording played given None = notes_under options recording ≡ given
GaveNextNote options recording played given (Some note) = GaveNotes options recording played (given ++ note ∷ [])
