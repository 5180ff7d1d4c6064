-- What is counted of the sessions of a recording while its events are looked at, each once.
use Rattle.std.specs.Prelude.{◌≡◌, ◌<◌, ◌^◌, ◌==◌, ℕ, List, [], ◌∷◌, length, Option, Some, None, if◌then◌else◌}
use Rattle.std.specs.BTreeMap.{BTreeMap, IsOrdered, get, keys}
use Rattle.std.specs.List.{sum_by}
use Rattle.std.specs.Ordering.{nat_cmp}
use Rattle.recording.specs.Sessions.{What, SessionEvent}
use Rattle.recording.specs.SessionsSeen.{sessions_size, what_size}
use Rattle.session_files.specs.Listing.{bus_len, client_len, first_end}
use Rattle.session_files.specs.OneSession.{happened_in}
use Rattle.session_files.specs.declared.counting.Counts.{Counts}

-- the counts of a session in which this happened
pub record Counted (whats : List What) (counts : Counts) : Type 0 where
  pub client : counts.client ≡ sum_by client_len whats
  pub bus : counts.bus ≡ sum_by bus_len whats
  pub events : counts.events ≡ length whats
  pub end : counts.end ≡ first_end whats

-- a session that isn't counted has no events
abbrev pub CountedAt : List SessionEvent → ℕ → Option Counts → Type 0
CountedAt events session None = happened_in session events ≡ []
CountedAt events session (Some counts) = Counted (happened_in session events) counts

-- each session's counts are those of its own events, and these are the sessions, ascending
pub record AllCounted (events : List SessionEvent) (sessions : List ℕ) (counts : BTreeMap ℕ Counts) : Type 0 where
  pub each : (session : ℕ) → CountedAt events session (get nat_cmp counts session)
  pub keys_are : keys counts ≡ sessions
  pub ordered : IsOrdered nat_cmp counts

-- the sessions that a recording has before any event
abbrev pub only_session : ℕ → List ℕ
only_session version = if version == 1 then 1 ∷ [] else []

-- the counts of what happened are numbers of 64 bits
pub record IsCountable (whats : List What) : Type 0 where
  pub few : length whats < 2 ^ 64
  pub small : sum_by what_size whats < 2 ^ 64

pub record AreCountable (events : List SessionEvent) : Type 0 where
  pub few : length events < 2 ^ 64
  pub small : sessions_size events < 2 ^ 64
