-- The sessions of a recording while its events are played, and what each of them stands for.
use Rattle.std.specs.Prelude.{◌≡◌, ◌≤◌, ℕ, ◌+◌, ◌*◌, false, List, [], ◌∷◌, ◌++◌, length, map, Option, Some, None}
use Rattle.std.specs.BTreeMap.{BTreeMap, IsOrdered, get, keys}
use Rattle.std.specs.Ordering.{nat_cmp}
use Rattle.policy_args.specs.Policy.{Policy}
use Rattle.policy_view.specs.History.{new_in}
use Rattle.policy_view.specs.Notes.{Note, notes_made}
use Rattle.policy_view.specs.declared.Mode.{Mode}
use Rattle.proxy_core.specs.Sessions.{SessionView, StandsFor, Taken, is_memory}
use Rattle.proxy_core.specs.Steps.{weight}
use Rattle.recording.specs.Sessions.{SessionEvent, sessions_named}
use Rattle.recording.specs.SessionsSeen.{sessions_size}
use Rattle.replay.specs.SessionsOutput.{in_session, own_events, session_history}
use Rattle.replay.specs.declared.session_notes.SessionNote.{SessionNote}
use Rattle.replay.specs.declared.session_playing.Players.{Players}

-- the notes that a session makes by these events of all sessions
abbrev pub notes_by : Policy → Mode → ℕ → List SessionEvent → List Note
notes_by policy mode number events = notes_made mode policy (session_history policy mode number events)

-- those that an event brings after these
abbrev pub notes_more : Policy → Mode → List SessionEvent → SessionEvent → List Note
notes_more policy mode events event = new_in (notes_by policy mode event.session events) (notes_by policy mode event.session (events ++ event ∷ []))

-- the notes that sessions make by events that come after earlier ones, in the order of the events
abbrev pub noted_by : Policy → Mode → List SessionEvent → List SessionEvent → List SessionNote
noted_by policy mode earlier [] = []
noted_by policy mode earlier (event ∷ events) =
    map (in_session event.session) (notes_more policy mode earlier event) ++ noted_by policy mode (earlier ++ event ∷ []) events

-- of a session only these notes were taken
abbrev pub notes_taken : List Note → Taken
notes_taken notes = record { bus_side = []; client_side = []; notes = notes; visible = []; held = 0 }

-- The session of a number runs, or ended for a cause other than memory. It represents its own events among these, and
-- all notes that it made were taken. What waits in it is bounded by the size of all events.
pub record Plays (policy : Policy) (mode : Mode) (events : List SessionEvent) (number : ℕ) (session : SessionView) : Type 0 where
  pub mode_is : session.mode ≡ mode
  pub sound : is_memory session.ended ≡ false
  pub stands : StandsFor policy session (own_events number events) (notes_taken (notes_by policy mode number events))
  pub light : weight policy session ≤ 60161266 + 19 * sessions_size events
  pub no_notes : session.notes ≡ []

-- a session that was not made has no events
abbrev pub PlaysAt : Policy → Mode → List SessionEvent → ℕ → Option SessionView → Type 0
PlaysAt policy mode events number None = own_events number events ≡ []
PlaysAt policy mode events number (Some session) = Plays policy mode events number session

abbrev pub EachPlays : Policy → Mode → List SessionEvent → BTreeMap ℕ SessionView → Type 0
EachPlays policy mode events sessions = (number : ℕ) → PlaysAt policy mode events number (get nat_cmp sessions number)

-- each session plays its own events, and the numbers of the sessions are these, ascending
pub record AllPlay (policy : Policy) (mode : Mode) (events : List SessionEvent) (named : List ℕ) (sessions : BTreeMap ℕ SessionView) : Type 0 where
  pub each : EachPlays policy mode events sessions
  pub named_are : keys sessions ≡ named
  pub ordered : IsOrdered nat_cmp sessions

-- one more event of a session was played, and the notes that it brings were put after the others
pub record PlaysOn (policy : Policy) (mode : Mode) (events : List SessionEvent) (event : SessionEvent) (session : SessionView) (before after : List SessionNote) : Type 0 where
  pub plays : Plays policy mode (events ++ event ∷ []) event.session session
  pub noted : after ≡ before ++ map (in_session event.session) (notes_more policy mode events event)

-- these events were played, and their notes are gathered
pub record PlayedSoFar (policy : Policy) (mode : Mode) (events : List SessionEvent) (players : Players) : Type 0 where
  pub all : AllPlay policy mode events (sessions_named [] events) players.running
  pub noted : players.notes.items ≡ noted_by policy mode [] events

-- a record can count what waits for either side
abbrev pub IsShort : ℕ × SessionView → Type 0
IsShort entry = length entry.1.bus_side + length entry.1.client_side ≤ 1335229682
