-- A session with the states of its links, and what a turn does for it.
use Rattle.std.specs.Prelude.{ℕ, ◌≡◌, ◌≤◌, ◌<◌, ◌⊎◌, Bool, true, false, not, length, List, [], ◌∷◌, ◌++◌, Option, Some, None, is_some, nat_eq, ◌&&◌, ◌||◌}
use Rattle.explain_log.specs.Lines.{log}
use Rattle.link_traits.specs.Journals.{Journal, written}
use Rattle.link_traits.specs.Views.{NetView, Appends, SinkView}
use Rattle.link_traits.specs.Answers.{client_link, bus_link}
use Rattle.link_traits.specs.Entries.{not_ready}
use Rattle.link_traits.specs.Told.{Rose}
use Rattle.link_traits.specs.declared.links.Side.{Side}
use Rattle.link_traits.specs.declared.links.Side.TheVariants.{Client, Bus}
use Rattle.link_traits.specs.declared.links.Link.{Link}
use Rattle.link_traits.specs.declared.links.Call.TheVariants.{Write}
use Rattle.link_traits.specs.declared.links.Count.{Count}
use Rattle.policy_args.specs.Policy.{Policy}
use Rattle.policy_view.specs.declared.Mode.{Mode}
use Rattle.policy_view.specs.declared.End.{End}
use Rattle.policy_view.specs.declared.End.TheVariants.{LogFault}
use Rattle.policy_view.specs.Closings.{closing}
use Rattle.policy_view.specs.History.{Event, first_items, history}
use Rattle.policy_view.specs.Notes.{Note, notes}
use Rattle.policy_view.specs.Outputs.{bus_bytes, client_bytes}
use Rattle.proxy_core.specs.Sessions.{SessionView, Taken, StandsFor, IsFront, is_memory}
use Rattle.proxy_loop.specs.declared.serving.Running.{Running}
use Rattle.proxy_loop.specs.Sessions.{Holds, IsWithStop, events_of}
use Rattle.proxy_loop.specs.Kinds.{writes_of, gave_bytes, all_are, some_of, gone_by, last_write}
use Rattle.proxy_loop.specs.Works.{Only, Goes, Stood, Cause, OneRead, FedOnce, KeepsWaiting, IsDrained, WritesInOrder, link_at, is_full, ShutBoth}
use Rattle.proxy_loop.specs.Logging.{stop_events, Logs}

-- Nothing more is written to a link that is gone: the session has an End then. While a session runs, no note is left in
-- it.
pub record Sound (running : Running) : Type 0 where
  pub client : running.client.gone ≡ true → is_some running.session.ended ≡ true
  pub bus : running.bus.gone ≡ true → is_some running.session.ended ≡ true
  pub notes : running.session.mode.notes ≡ true → running.session.ended ≡ None → running.session.notes ≡ []

-- the same session under the same block
pub record KeepsPlace (old new : Running) : Type 0 where
  pub number : new.number ≡ old.number
  pub block : new.block ≡ old.block

-- the same links shut
pub record KeepsShut (old new : Running) : Type 0 where
  pub client : new.client.shut ≡ old.client.shut
  pub bus : new.bus.shut ≡ old.bus.shut

-- the wishes of all links of other sessions are as before
pub record KeepsSessions (n : ℕ) (old new : NetView) : Type 0 where
  pub each : (link : Link) → nat_eq n link.session ≡ false → new.wishes link ≡ old.wishes link

-- a session is over when it has ended and both its links are shut
abbrev pub is_over : Running → Bool
is_over running = is_some running.session.ended && (running.client.shut && running.bus.shut)

-- ---- the parts of a turn

-- What was written to both links of a session: bytes were taken from the start of each queue, until nothing waited, or
-- a write failed or wasn't ready. A failed write ends the session.
pub record WroteBoth (n : ℕ) (old new : Running) (added : Journal) : Type 0 where
  pub all : all_are (writes_of n) added ≡ true
  pub order : WritesInOrder n (old.client.gone || old.client.shut) (old.bus.gone || old.bus.shut) added
  pub client_took : old.session.client_side ≡ written (client_link n) added ++ new.session.client_side
  pub bus_took : old.session.bus_side ≡ written (bus_link n) added ++ new.session.bus_side
  pub client_gone : new.client.gone ≡ (some_of (gone_by (client_link n)) added || old.client.gone)
  pub bus_gone : new.bus.gone ≡ (some_of (gone_by (bus_link n)) added || old.bus.gone)
  pub ended : is_some new.session.ended ≡ (is_some old.session.ended || (some_of (gone_by (client_link n)) added || some_of (gone_by (bus_link n)) added))
  pub client_drained : IsDrained (client_link n) new.session.client_side (new.client.gone || new.client.shut) added
  pub bus_drained : IsDrained (bus_link n) new.session.bus_side (new.bus.gone || new.bus.shut) added

abbrev pub pick_side : Side → Bool → Bool → Bool
pick_side Client client bus = client
pick_side Bus client bus = bus

-- one link of a session was read
pub record Reads (policy : Policy) (n : ℕ) (side : Side) (old new : Running) (before after : NetView) : Type 0 where
  pub gone : Bool
  pub goes : Goes (Only policy) n old.session new.session before after (FedOnce (link_at n side) old.session new.session gone)
  pub client_gone : new.client.gone ≡ pick_side side gone old.client.gone
  pub bus_gone : new.bus.gone ≡ pick_side side old.bus.gone gone
  pub client : new.client.gone ≡ true → is_some new.session.ended ≡ true
  pub bus : new.bus.gone ≡ true → is_some new.session.ended ≡ true

-- the notes are logged, if there is a log
abbrev pub LogsIf : Bool → ℕ → SessionView → SessionView → SinkView → SinkView → Type 0
LogsIf true n old new before after = Logs n old new before after
LogsIf false n old new before after = (new ≡ old) × (after ≡ before)

-- one read, unless nothing is to be read
abbrev pub ReadUnless : Bool → Link → Journal → Type 0
ReadUnless true link added = added ≡ []
ReadUnless false link added = (is_last : Bool) × OneRead link is_last added

-- The read of a turn, and what it does to the states of the links. It takes nothing that waits, whatever the End. If it
-- gave no bytes, no memory is refused.
pub record ReadPart (n : ℕ) (side : Side) (idle : Bool) (old new : Running) (added : Journal) : Type 0 where
  pub once : ReadUnless idle (link_at n side) added
  pub client_gone : new.client.gone ≡ (some_of (gone_by (client_link n)) added || old.client.gone)
  pub bus_gone : new.bus.gone ≡ (some_of (gone_by (bus_link n)) added || old.bus.gone)
  pub waits : KeepsWaiting old.session new.session
  pub unfed : some_of gave_bytes added ≡ false → is_memory new.session.ended ≡ is_memory old.session.ended

-- all lines of the notes that were taken were written, or the sink failed
abbrev pub WrittenUnless : Bool → List ℕ → SinkView → SinkView → Type 0
WrittenUnless false rest before after = rest ≡ []
WrittenUnless true rest before after = Rose before.faults after.faults

-- an End that the log brings
abbrev pub IsLogEnd : End → SinkView → SinkView → Type 0
IsLogEnd end before after = (end ≡ LogFault) × Rose before.faults after.faults

-- The read of a turn and the lines of the new notes: the session first receives what was read; then notes are taken,
-- and their lines are written, or a prefix of these if the sink failed, which ends the session.
pub record ReadsAndLogs (policy : Policy) (logs : Bool) (n : ℕ) (side : Side) (idle : Bool) (old new : Running) (before after : NetView) (first last : SinkView) : Type 0 where
  pub fed : SessionView
  pub goes : Goes (Only policy) n old.session fed before after (ReadPart n side idle old new)
  pub taken : List Note
  pub lines : List ℕ
  pub rest : List ℕ
  pub failed : Bool
  pub still : idle ≡ true → failed ≡ false
  pub logged : failed ≡ true → logs ≡ true
  pub unread : idle ≡ true → lines ≡ []
  pub stands : (p : Policy) (events : List Event) (was : Taken) → StandsFor p fed events was →
      StandsFor p new.session (stop_events failed ++ events) (record was { notes = was.notes ++ taken })
  pub is : log n taken ≡ lines ++ rest
  pub appends : Appends first last lines
  pub counts : first.faults ≤ last.faults
  pub written : WrittenUnless failed rest first last
  pub all : logs ≡ true → failed ≡ false → old.session.notes ≡ [] → new.session.notes ≡ []
  pub end : (end : End) → fed.ended ≡ Some end → new.session.ended ≡ Some end
  pub stopped : failed ≡ true → is_some new.session.ended ≡ true
  pub cause : (end : End) → new.session.ended ≡ Some end → (fed.ended ≡ Some end) ⊎ IsLogEnd end first last
  pub mode : new.session.mode ≡ fed.mode
  pub unlogged : logs ≡ false → last ≡ first

-- nothing waits, or the link is shut, or its last write in this turn wasn't ready
abbrev pub IsDone : Link → List ℕ → Bool → Journal → Type 0
IsDone link queue shut added = (queue ≡ []) ⊎ (shut ≡ true) ⊎ (last_write link added ≡ Some (not_ready (Write link)))

-- What a turn does for a session on one of whose links something is ready: it writes to both links, reads that link
-- exactly once unless the session has ended by then or too much waits for the other side, writes again, and shuts
-- links. Both times it writes to the client first. It writes nothing to a link that is gone or shut, and nothing after
-- a write that wasn't ready or failed. What waited before the turn is a prefix of what the turn wrote and then waits,
-- whatever the End. If the read gave no bytes, no memory is refused.
pub record Served (n : ℕ) (side : Side) (old new : Running) (added : Journal) : Type 0 where
  pub mid : SessionView
  pub first : Journal
  pub reads : Journal
  pub second : Journal
  pub shuts : Journal
  pub is : added ≡ shuts ++ (second ++ (reads ++ first))
  pub first_writes : all_are (writes_of n) first ≡ true
  pub first_order : WritesInOrder n (old.client.gone || old.client.shut) (old.bus.gone || old.bus.shut) first
  pub client_took : old.session.client_side ≡ written (client_link n) first ++ mid.client_side
  pub bus_took : old.session.bus_side ≡ written (bus_link n) first ++ mid.bus_side
  pub client_drained : IsDrained (client_link n) mid.client_side ((some_of (gone_by (client_link n)) first || old.client.gone) || old.client.shut) first
  pub bus_drained : IsDrained (bus_link n) mid.bus_side ((some_of (gone_by (bus_link n)) first || old.bus.gone) || old.bus.shut) first
  pub mid_ended : is_some mid.ended ≡ (is_some old.session.ended || (some_of (gone_by (client_link n)) first || some_of (gone_by (bus_link n)) first))
  pub once : ReadUnless (is_some mid.ended || is_full side mid) (link_at n side) reads
  pub unfed : some_of gave_bytes reads ≡ false → is_memory new.session.ended ≡ is_memory old.session.ended
  pub second_writes : all_are (writes_of n) second ≡ true
  pub second_order : WritesInOrder n ((some_of (gone_by (client_link n)) (reads ++ first) || old.client.gone) || old.client.shut) ((some_of (gone_by (bus_link n)) (reads ++ first) || old.bus.gone) || old.bus.shut) second
  pub client_written : IsDrained (client_link n) new.session.client_side (new.client.gone || old.client.shut) second
  pub bus_written : IsDrained (bus_link n) new.session.bus_side (new.bus.gone || old.bus.shut) second
  pub shut : ShutBoth n (not old.client.shut && new.client.shut) (not old.bus.shut && new.bus.shut) shuts
  pub client_gone : new.client.gone ≡ (some_of (gone_by (client_link n)) added || old.client.gone)
  pub bus_gone : new.bus.gone ≡ (some_of (gone_by (bus_link n)) added || old.bus.gone)
  pub client_kept : IsFront old.session.client_side (written (client_link n) added ++ new.session.client_side)
  pub bus_kept : IsFront old.session.bus_side (written (bus_link n) added ++ new.session.bus_side)
  pub client_done : IsDone (client_link n) new.session.client_side new.client.shut added
  pub bus_done : IsDone (bus_link n) new.session.bus_side new.bus.shut added

-- ---- what is known after it

-- the lines of all notes of a session, by the journal
unfoldable pub log_of : Policy → Mode → ℕ → Journal → List ℕ
log_of policy mode n journal = log n (notes policy (history policy mode (events_of n journal)))

-- Memory was refused to the session in this turn: it holds the first `done` items of its history. All items from before
-- the turn are among them. The log has the lines of these items and of no later one, and what was written to each link
-- and then waits is what these items give.
pub record HoldsFirstOf (policy : Policy) (n : ℕ) (new : SessionView) (first last : Journal) (lines : List ℕ) : Type 0 where
  pub memory : is_memory new.ended ≡ true
  pub done : ℕ
  pub before : length (history policy new.mode (events_of n first)) ≤ done
  pub within : done ≤ length (history policy new.mode (events_of n last))
  pub logged : log n (notes policy (first_items done (history policy new.mode (events_of n last)))) ≡ log_of policy new.mode n first ++ lines
  pub for_bus : written (bus_link n) last ++ new.bus_side ≡ bus_bytes policy (first_items done (history policy new.mode (events_of n last)))
  pub for_client : written (client_link n) last ++ new.client_side ≡ client_bytes policy (first_items done (history policy new.mode (events_of n last)))

-- why lines weren't written: memory was refused to the session at a message, and neither it nor a later one has an
-- effect; or the sink failed
abbrev pub WhyCut : Policy → ℕ → SessionView → Journal → Journal → List ℕ → SinkView → SinkView → Type 0
WhyCut policy n new first last lines before after = HoldsFirstOf policy n new first last lines ⊎ Rose before.faults after.faults

-- lines of some notes, each of them whole
abbrev pub AreLines : ℕ → List ℕ → Type 0
AreLines n lines = (told : List Note) × (lines ≡ log n told)

-- The log got the lines of the session's new notes in order; or a prefix of these, and then the session has an End and
-- it is known why the others weren't written. Unless the sink failed, each line is whole.
pub record Logged (policy : Policy) (n : ℕ) (new : SessionView) (first last : Journal) (before after : SinkView) : Type 0 where
  pub lines : List ℕ
  pub rest : List ℕ
  pub appends : Appends before after lines
  pub is : log_of policy new.mode n last ≡ log_of policy new.mode n first ++ (lines ++ rest)
  pub cut : (rest ≡ []) ⊎ ((is_some new.ended ≡ true) × WhyCut policy n new first last lines before after)
  pub whole : Rose before.faults after.faults ⊎ AreLines n lines

-- The session's events in the journal, with the stop that its log put in, if any, close with this End at an event that
-- came after those of the journal before.
pub record ClosesIn (policy : Policy) (n : ℕ) (new : SessionView) (end : End) (first last : Journal) : Type 0 where
  pub put : Bool
  pub events : List Event
  pub told : IsWithStop put events (events_of n last)
  pub at : ℕ
  pub closes : closing policy new.mode events ≡ Some (end, at)
  pub here : length (events_of n first) < at

-- A session that represented the journal before represents the one after, and the log is exact. An End that came in
-- between, other than that of refused memory, is the one with which the session's events close, at an event that came
-- in between.
pub record ServedStands (policy : Policy) (logs : Bool) (n : ℕ) (old new : SessionView) (first last : Journal) (before after : SinkView) : Type 0 where
  pub holds : Holds policy n new last
  pub closes : old.ended ≡ None → (end : End) → new.ended ≡ Some end → is_memory new.ended ≡ false → ClosesIn policy n new end first last
  pub logged : logs ≡ true → Logged policy n new first last before after

-- why a session has an End: the count of its link or of the log rose; an End of the session's own needs no such count
abbrev pub CauseOf : ℕ → End → NetView → NetView → SinkView → SinkView → Type 0
CauseOf n end before after first last = Cause n end before after ⊎ IsLogEnd end first last

-- The whole work of a turn for one session.
pub record Serving (policy : Policy) (logs : Bool) (n : ℕ) (side : Side) (old new : Running) (before after : NetView) (first last : SinkView) : Type 0 where
  pub told : (now : Journal) → after.journal ≡ Some now → (was : Journal) × (before.journal ≡ Some was)
      × (added : Journal) × (now ≡ added ++ was) × Served n side old new added
      × (Holds policy n old.session was → ServedStands policy logs n old.session new.session was now first last)
  pub counts : (count : Count) → before.counts count ≤ after.counts count
  pub log_counts : first.faults ≤ last.faults
  pub stood : Stood policy new.session
  pub end : (end : End) → old.session.ended ≡ Some end → new.session.ended ≡ Some end
  pub cause : (end : End) → new.session.ended ≡ Some end → (old.session.ended ≡ Some end) ⊎ CauseOf n end before after first last
  pub mode : new.session.mode ≡ old.session.mode
  pub unlogged : logs ≡ false → last ≡ first
