-- What the file of a recording holds of a run of a proxy line.
use Rattle.std.specs.Prelude.{ℕ, ◌≡◌, ◌≤◌, true, false, All, List, [], ◌++◌, length, Option, None, Some, Ok, slice_get}
use Rattle.link_traits.specs.Journals.{Journal, written}
use Rattle.link_traits.specs.Answers.{client_link, bus_link}
use Rattle.link_traits.specs.declared.outside.FileFault.{FileFault}
use Rattle.policy_args.specs.Policy.{Policy}
use Rattle.policy_args.specs.declared.line.Block.{Block}
use Rattle.policy_args.specs.declared.options.Options.{Options}
use Rattle.policy_view.specs.declared.Mode.{Mode}
use Rattle.policy_view.specs.History.{history}
use Rattle.policy_view.specs.Outputs.{bus_bytes, client_bytes}
use Rattle.proxy_core.specs.Sessions.{IsFront}
use Rattle.proxy_loop.specs.Sessions.{events_of}
use Rattle.proxy_loop.specs.Servers.{listener_of}
use Rattle.recording.specs.declared.TheConstants.{RECORDING_LIMIT, SESSION_LIMIT}
use Rattle.recording.specs.Sessions.{SessionEvent, Sessions, sessions_named, sessions_of, spelled_sessions}
use Rattle.recording.specs.SessionsSeen.{EventFits, what_size}
use Rattle.record_net.specs.declared.TheConstants.{READ_LIMIT}
use Rattle.record_net.specs.Sessions.{items_of}
use Rattle.recorded_run.specs.Events.{recorded_events, recorded_history, is_refused}

-- the recording of these entries of a proxy's net, whose streams begin with the lines of authentication
abbrev pub recording_of : Journal → Sessions
recording_of since = record { version = 2; auth = true; events = items_of since }

-- While no append failed, the file is the spelling of the recording of the entries since the start, if its bytes are
-- known.
abbrev pub IsExact : Option (List ℕ) → Option FileFault → Journal → Type 0
IsExact told failed since = (bytes : List ℕ) → told ≡ Some bytes → failed ≡ None → bytes ≡ spelled_sessions (recording_of since)

-- A file can have each event: its session is a number of four bytes above 0, and a stop has the number of an End that a
-- failed call gives. No event has more bytes than one read may give.
pub record FitsFormat (since : Journal) : Type 0 where
  pub each : All EventFits (items_of since)
  pub short : All (λ e. what_size e.what ≤ READ_LIMIT) (items_of since)

-- The limits of a reader on the bytes of the file and on the number of its sessions, which writing does not have.
pub record IsWithinLimits (since : Journal) : Type 0 where
  pub bytes : length (spelled_sessions (recording_of since)) ≤ RECORDING_LIMIT
  pub sessions : length (sessions_named [] (items_of since)) ≤ SESSION_LIMIT

-- If the file is within the limits, a reader finds these events in it, in their order, and no others.
abbrev pub IsReadBack : Option (List ℕ) → Option FileFault → Journal → Type 0
IsReadBack told failed since = IsWithinLimits since → (bytes : List ℕ) → told ≡ Some bytes → failed ≡ None → sessions_of bytes ≡ Ok (recording_of since)

-- Of each session whose connect was not refused memory the recording has the events that the journal tells, so their
-- history is the same.
abbrev pub TellsHistories : Journal → Journal → Type 0
TellsHistories was since = (n : ℕ) → is_refused n since ≡ false →
    (recorded_events n (items_of since) ≡ events_of n (since ++ was))
    × ((policy : Policy) (mode : Mode) → history policy mode (recorded_events n (items_of since)) ≡ history policy mode (events_of n (since ++ was)))

-- What was written to each link of a session is a prefix of that side's bytes of the history of its recorded events.
pub record StandsRecorded (options : Options) (n : ℕ) (events : List SessionEvent) (journal : Journal) : Type 0 where
  pub bus : IsFront (written (bus_link n) journal) (bus_bytes options.policy (recorded_history options n events))
  pub client : IsFront (written (client_link n) journal) (client_bytes options.policy (recorded_history options n events))

-- .. under the block of the listener that accepted it
pub record StandsRecordedUnder (blocks : List Block) (n : ℕ) (events : List SessionEvent) (journal : Journal) : Type 0 where
  pub listener : ℕ
  pub accepted : listener_of n journal ≡ Some listener
  pub block : Block
  pub at : slice_get blocks listener ≡ Some block
  pub stands : StandsRecorded block.options n events journal
