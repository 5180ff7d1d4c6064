-- When the sessions of a server serve a journal.
use Rattle.std.specs.Prelude.{ℕ, nat_eq, ◌≡◌, ◌⊎◌, ◌≤◌, Bool, true, false, ◌||◌, List, [], ◌∷◌, ◌++◌, Option, Some, None, if◌then◌else◌, slice_get}
use Rattle.link_traits.specs.Journals.{Journal, accepts, written}
use Rattle.link_traits.specs.Views.{NetView, SinkView}
use Rattle.link_traits.specs.Answers.{client_link, bus_link}
use Rattle.link_traits.specs.Entries.{Entry, listened, ready, accepted, connected, read, finished, wrote, not_ready, failed, refused, shut}
use Rattle.link_traits.specs.declared.links.Ready.{Ready}
use Rattle.link_traits.specs.declared.links.Ready.TheVariants.{Listener, Link as ReadyLink, Quiet, Failed as ReadyFailed}
use Rattle.policy_args.specs.declared.line.Block.{Block}
use Rattle.policy_view.specs.History.{first_items, history}
use Rattle.policy_view.specs.Outputs.{bus_bytes, client_bytes}
use Rattle.policy_view.specs.Past.{History}
use Rattle.policy_args.specs.Policy.{Policy}
use Rattle.proxy_core.specs.Sessions.{SessionView, IsFront, is_memory}
use Rattle.proxy_loop.specs.declared.serving.Running.{Running}
use Rattle.proxy_loop.specs.Sessions.{Holds, events_of}
use Rattle.proxy_loop.specs.Kinds.{about, some_of, gone_by}
use Rattle.proxy_loop.specs.Runs.{is_over, Logged}
use Rattle.proxy_loop.specs.Tables.{Table, unless_over, session_mode}

-- ---- what a journal tells of a number

-- the entry tells that session n was accepted
abbrev pub accepted_here : ℕ → Entry → Bool
accepted_here n (accepted listener session) = nat_eq session n
accepted_here n (listened listener path) = false
accepted_here n (ready answer) = false
accepted_here n (connected session path) = false
accepted_here n (read at bytes) = false
accepted_here n (finished at) = false
accepted_here n (wrote at bytes) = false
accepted_here n (not_ready call) = false
accepted_here n (failed call) = false
accepted_here n (refused call) = false
accepted_here n (shut at) = false

-- an entry that speaks of session n
abbrev pub touches : ℕ → Entry → Bool
touches n entry = about n entry || accepted_here n entry

-- nothing was told of a session
abbrev pub Fresh : ℕ → Journal → Type 0
Fresh n journal = some_of (touches n) journal ≡ false

abbrev pub listened_by : ℕ → Entry → Option ℕ → Option ℕ
listened_by n (accepted listener session) before = if nat_eq session n then Some listener else before
listened_by n (listened listener path) before = before
listened_by n (ready answer) before = before
listened_by n (connected session path) before = before
listened_by n (read at bytes) before = before
listened_by n (finished at) before = before
listened_by n (wrote at bytes) before = before
listened_by n (not_ready call) before = before
listened_by n (failed call) before = before
listened_by n (refused call) before = before
listened_by n (shut at) before = before

-- the listener that accepted session n
unfoldable pub listener_of : ℕ → Journal → Option ℕ
listener_of n [] = None
listener_of n (entry ∷ before) = listened_by n entry (listener_of n before)

-- ---- sessions

-- A session stands for its events in the journal, under the block of the listener that accepted it. Nothing more is
-- written to a link exactly where its end was read or one of its calls failed.
pub record Held (blocks : List Block) (n : ℕ) (running : Running) (journal : Journal) : Type 0 where
  pub block : Block
  pub at : slice_get blocks running.block ≡ Some block
  pub listener : listener_of n journal ≡ Some running.block
  pub mode : running.session.mode ≡ session_mode block.options
  pub holds : Holds block.options.policy n running.session journal
  pub client_gone : running.client.gone ≡ some_of (gone_by (client_link n)) journal
  pub bus_gone : running.bus.gone ≡ some_of (gone_by (bus_link n)) journal
  pub known : n ≤ accepts journal

-- a session that isn't held is over, and all stands as it did
pub record HeldOver (blocks : List Block) (n : ℕ) (journal : Journal) : Type 0 where
  pub running : Running
  pub over : is_over running ≡ true
  pub held : Held blocks n running journal

-- a number without a session: nothing was told of it, or its session is over
abbrev pub Stays : List Block → ℕ → Option Running → Journal → Type 0
Stays blocks n None journal = Fresh n journal ⊎ HeldOver blocks n journal
Stays blocks n (Some running) journal = Held blocks n running journal

-- sessions serve a journal
pub record Serves (blocks : List Block) (table : Table) (journal : Journal) : Type 0 where
  pub each : (n : ℕ) → Stays blocks n (table.at n) journal
  pub counted : table.accepted ≡ accepts journal

-- a journal without sessions
pub record WithoutSessions (journal : Journal) : Type 0 where
  pub fresh : (n : ℕ) → Fresh n journal
  pub accepted : accepts journal ≡ 0

-- sessions that served the journal before serve the one after; if it is told after, it was told before, and it grew
pub record GoesOn (blocks : List Block) (old new : Table) (before after : NetView) : Type 0 where
  pub each : (now : Journal) → after.journal ≡ Some now → (was : Journal) × (before.journal ≡ Some was)
      × (added : Journal) × (now ≡ added ++ was) × (Serves blocks old was → Serves blocks new now)

-- ---- the log

-- The lines of the new notes of a session that was served were logged. The session is kept as it is after the turn,
-- unless it is over then.
pub record SessionLogged (block : Block) (n : ℕ) (new : Table) (was now : Journal) (first last : SinkView) : Type 0 where
  pub served : Running
  pub left : new.at n ≡ unless_over served
  pub mode : served.session.mode ≡ session_mode block.options
  pub logged : Logged block.options.policy n served.session was now first last

-- for a session under a block with a log the lines of its new notes, else nothing
abbrev pub BlockLogs : Bool → Block → ℕ → Table → Journal → Journal → SinkView → SinkView → Type 0
BlockLogs true block n new was now first last = SessionLogged block n new was now first last
BlockLogs false block n new was now first last = last ≡ first

abbrev pub LinkLogs : List Block → ℕ → Option Running → Table → Journal → Journal → SinkView → SinkView → Type 0
LinkLogs blocks n None new was now first last = last ≡ first
LinkLogs blocks n (Some running) new was now first last =
    (block : Block) → slice_get blocks running.block ≡ Some block → BlockLogs block.options.log block n new was now first last

-- what the log got in a turn, by what was ready: the lines of the session whose link was named, else nothing
abbrev pub ReadyLogs : List Block → Ready → Table → Table → Journal → Journal → SinkView → SinkView → Type 0
ReadyLogs blocks (ReadyLink link) old new was now first last = LinkLogs blocks link.session (old.at link.session) new was now first last
ReadyLogs blocks (Listener listener) old new was now first last = last ≡ first
ReadyLogs blocks Quiet old new was now first last = last ≡ first
ReadyLogs blocks ReadyFailed old new was now first last = last ≡ first

-- What a turn adds to the log: the lines of the new notes of the session that it served, if its block has a log, and
-- nothing else; or a part of these, and then that session has an End.
pub record LogExact (blocks : List Block) (old new : Table) (before after : NetView) (first last : SinkView) : Type 0 where
  pub each : (now : Journal) → after.journal ≡ Some now → (was : Journal) × (before.journal ≡ Some was)
      × (answer : Ready) × (added : Journal) × (now ≡ added ++ ready answer ∷ was)
      × (Serves blocks old was → ReadyLogs blocks answer old new was now first last)

-- ---- what was written

-- A session under the block of the listener that accepted it: what was written to each of its links is a prefix of that
-- side's bytes of the history of its events.
pub record StandsUnder (blocks : List Block) (n : ℕ) (journal : Journal) : Type 0 where
  pub listener : ℕ
  pub accepted : listener_of n journal ≡ Some listener
  pub block : Block
  pub at : slice_get blocks listener ≡ Some block
  pub bus : IsFront (written (bus_link n) journal) (bus_bytes block.options.policy (history block.options.policy (session_mode block.options) (events_of n journal)))
  pub client : IsFront (written (client_link n) journal) (client_bytes block.options.policy (history block.options.policy (session_mode block.options) (events_of n journal)))

-- What was written to each link of a session, and then what waits for it, is what the items give that side.
pub record LinksHold (policy : Policy) (n : ℕ) (session : SessionView) (journal : Journal) (items : History) : Type 0 where
  pub bus : written (bus_link n) journal ++ session.bus_side ≡ bus_bytes policy items
  pub client : written (client_link n) journal ++ session.client_side ≡ client_bytes policy items

-- the items of the session's history under its block
abbrev pub items_under : Block → ℕ → Journal → History
items_under block n journal = history block.options.policy (session_mode block.options) (events_of n journal)

-- For each session that isn't over these are the items of its history, or the first of them if memory was refused to
-- it.
pub record QueuesStand (blocks : List Block) (table : Table) (journal : Journal) : Type 0 where
  pub whole : (n : ℕ) (running : Running) (block : Block) → table.at n ≡ Some running → slice_get blocks running.block ≡ Some block → is_memory running.session.ended ≡ false →
      LinksHold block.options.policy n running.session journal (items_under block n journal)
  pub refused : (n : ℕ) (running : Running) (block : Block) → table.at n ≡ Some running → slice_get blocks running.block ≡ Some block → is_memory running.session.ended ≡ true →
      (done : ℕ) × LinksHold block.options.policy n running.session journal (first_items done (items_under block n journal))

-- of each number either nothing is told, or its session stands under its block
pub record LinksStand (blocks : List Block) (journal : Journal) : Type 0 where
  pub each : (n : ℕ) → Fresh n journal ⊎ StandsUnder blocks n journal
