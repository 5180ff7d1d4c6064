-- The events of one session in a journal, and when a session stands for a journal.
use Rattle.std.specs.Prelude.{ℕ, nat_eq, ◌≡◌, Bool, true, false, is_some, List, [], ◌∷◌, ◌++◌, if◌then◌else◌}
use Rattle.std.specs.List.{list_all}
use Rattle.link_traits.specs.Journals.{Journal, written}
use Rattle.link_traits.specs.Answers.{client_link, bus_link}
use Rattle.link_traits.specs.Entries.{Entry, listened, ready, accepted, connected, read, finished, wrote, not_ready, failed, refused, shut}
use Rattle.link_traits.specs.declared.links.Side.{Side as LinkSide}
use Rattle.link_traits.specs.declared.links.Side.TheVariants as link_side
use Rattle.link_traits.specs.declared.links.Call.{Call}
use Rattle.link_traits.specs.declared.links.Call.TheVariants.{Listen, Accept, Connect, Read, Write}
use Rattle.policy_args.specs.Policy.{Policy}
use Rattle.policy_view.specs.declared.Side.{Side}
use Rattle.policy_view.specs.declared.Side.TheVariants.{Client, Bus}
use Rattle.policy_view.specs.declared.End.{End}
use Rattle.policy_view.specs.declared.End.TheVariants.{ClientRead, ClientWrite, BusRead, BusWrite, BusConnect, Memory, LogFault}
use Rattle.policy_view.specs.Notes.{Note}
use Rattle.policy_view.specs.History.{Event, Bytes, Finished, Stopped}
use Rattle.proxy_core.specs.Sessions.{SessionView, Taken, StandsFor}

-- the side of a session that a link is for
abbrev pub side_of : LinkSide → Side
side_of link_side.Client = Client
side_of link_side.Bus = Bus

-- the Ends of calls that failed
abbrev pub read_end : LinkSide → End
read_end link_side.Client = ClientRead
read_end link_side.Bus = BusRead

abbrev pub write_end : LinkSide → End
write_end link_side.Client = ClientWrite
write_end link_side.Bus = BusWrite

abbrev pub failed_events : ℕ → Call → List Event
failed_events n (Read link) = if nat_eq link.session n then Stopped (read_end link.side) ∷ [] else []
failed_events n (Write link) = if nat_eq link.session n then Stopped (write_end link.side) ∷ [] else []
failed_events n (Connect session) = if nat_eq session n then Stopped BusConnect ∷ [] else []
failed_events n (Accept listener) = []
failed_events n Listen = []

abbrev pub refused_events : ℕ → Call → List Event
refused_events n (Read link) = []
refused_events n (Write link) = []
refused_events n (Connect session) = if nat_eq session n then Stopped Memory ∷ [] else []
refused_events n (Accept listener) = []
refused_events n Listen = []

-- what one entry tells session n
abbrev pub events_by : ℕ → Entry → List Event
events_by n (read link bytes) = if nat_eq link.session n then Bytes (side_of link.side) bytes ∷ [] else []
events_by n (finished link) = if nat_eq link.session n then Finished (side_of link.side) ∷ [] else []
events_by n (failed call) = failed_events n call
events_by n (refused call) = refused_events n call
events_by n (listened listener path) = []
events_by n (ready answer) = []
events_by n (accepted listener session) = []
events_by n (connected session path) = []
events_by n (wrote link bytes) = []
events_by n (not_ready call) = []
events_by n (shut link) = []

-- the events of session n, newest first
unfoldable pub events_of : ℕ → Journal → List Event
events_of n [] = []
events_of n (entry ∷ before) = events_by n entry ++ events_of n before

-- what was written to the links of session n, and notes that were taken
abbrev pub taken_of : ℕ → List Note → Journal → Taken
taken_of n notes journal = record { bus_side = written (bus_link n) journal; client_side = written (client_link n) journal; notes = notes; visible = []; held = 0 }

-- an event that ends a session from outside
abbrev pub is_stop : Event → Bool
is_stop (Bytes side piece) = false
is_stop (Finished side) = false
is_stop (Stopped end) = true

-- What was recorded of a session is its events in the journal. If its log failed, the stop for that is added to them,
-- and nothing is read after that stop.
abbrev pub IsWithStop : Bool → List Event → List Event → Type 0
IsWithStop false events told = events ≡ told
IsWithStop true events told =
    (later : List Event) × (earlier : List Event) × (told ≡ later ++ earlier) × (events ≡ later ++ Stopped LogFault ∷ earlier) × (list_all is_stop later ≡ true)

-- Session n represents its events in the journal; what was written to its links was taken from it, and so were some
-- notes. The stop of a log is put in only if the session makes notes.
pub record Holds (policy : Policy) (n : ℕ) (session : SessionView) (journal : Journal) : Type 0 where
  pub put : Bool
  pub events : List Event
  pub notes : List Note
  pub told : IsWithStop put events (events_of n journal)
  pub over : put ≡ true → is_some session.ended ≡ true
  pub logs : put ≡ true → session.mode.notes ≡ true
  pub stands : StandsFor policy session events (taken_of n notes journal)
