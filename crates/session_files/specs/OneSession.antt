-- One session of a recording, as a recording of its own.
use Rattle.std.specs.Prelude.{◌≡◌, ℕ, ◌<◌, ◌==◌, ◌&&◌, ◌||◌, Bool, true, false, List, [], ◌∷◌, ◌++◌, All, map, Option, Some, None, Ok, if◌then◌else◌}
use Rattle.std.specs.List.{filter, list_any}
use Rattle.recording.specs.Recording.{Event, Recording, spelled_recording}
use Rattle.recording.specs.Sessions.{What, Happened, Stopped, SessionEvent, Sessions, sessions_of}
use Rattle.policy_args.specs.Words.{PolicyOptions}
use Rattle.policy_view.specs.History.{history}
use Rattle.replay_output.specs.Output.{history_of}
use Rattle.replay.specs.SessionsOutput.{is_of, session_events, session_mode}

-- the sessions that a file has
pub record IsOfFile (s : Sessions) : Type 0 where
  pub file : List ℕ
  pub bytes : All (λ b. b < 256) file
  pub read : sessions_of file ≡ Ok s

-- A file of version 1 has session 1, with or without events. A file of version 2 has the sessions of its events.
abbrev pub has_session : Sessions → ℕ → Bool
has_session s session = (s.version == 1 && session == 1) || list_any (is_of session) s.events

-- what happened in one session, in order
abbrev pub happened_in : ℕ → List SessionEvent → List What
happened_in session events = map (λ e. e.what) (filter (is_of session) events)

-- the events before the first stop; version 1 has no record of a stop
abbrev pub before_stop : List What → List Event
before_stop [] = []
before_stop (Happened event ∷ rest) = event ∷ before_stop rest
before_stop (Stopped end ∷ rest) = []

abbrev pub session_recording : Sessions → ℕ → Recording
session_recording s session = record { auth = s.auth; events = before_stop (happened_in session s.events) }

-- the file of the session of a number, if there is such a session
abbrev pub session_file_of : Sessions → ℕ → Option (List ℕ)
session_file_of s session = if has_session s session then Some (spelled_recording (session_recording s session)) else None

-- ---- what the laws say of it

abbrev pub is_stop : What → Bool
is_stop (Happened event) = false
is_stop (Stopped end) = true

-- nothing, or what begins with a stop
abbrev pub EndsOrStops : List SessionEvent → Type 0
EndsOrStops [] = Unit {0}
EndsOrStops (e ∷ rest) = is_stop e.what ≡ true

-- these are the events of a session before its first stop
pub record BeforeStop (own before : List SessionEvent) : Type 0 where
  pub rest : List SessionEvent
  pub split : own ≡ before ++ rest
  pub runs : list_any (λ e. is_stop e.what) before ≡ false
  pub stops : EndsOrStops rest

-- The recording has the session's history up to its first stop.
pub record HasHistoryBeforeStop (options : PolicyOptions) (s : Sessions) (session : ℕ) : Type 0 where
  pub before : List SessionEvent
  pub are : BeforeStop (filter (is_of session) s.events) before
  pub same : history_of options (session_recording s session) ≡ history options.policy (session_mode options s.auth) (session_events before)

-- no call of a link of the session failed
abbrev pub RunsWithoutStop : Sessions → ℕ → Type 0
RunsWithoutStop s session = list_any is_stop (happened_in session s.events) ≡ false
