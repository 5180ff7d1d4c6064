-- What a turn does with the sessions of a server.
use Rattle.std.specs.Prelude.{ℕ, nat_eq, nat_lt, nat_le, ◌≡◌, ◌<◌, ◌+◌, ◌&&◌, [], ◌∷◌, ◌++◌, Result, Ok, Err, ◌||◌, Bool, true, false, List, Option, Some, None, if◌then◌else◌, slice_get, string_bytes, length}
use Rattle.std.specs.Option.{option_map}
use Rattle.link_traits.specs.Journals.{Journal, accepts}
use Rattle.link_traits.specs.Views.{NetView, Adds, RoseAt, KeepsWishes, SinkView}
use Rattle.link_traits.specs.Answers.{client_link, bus_link, accept_entry, connect_entry, AfterAccept}
use Rattle.link_traits.specs.Entries.{ready as ready_entry}
use Rattle.link_traits.specs.declared.links.Accepted.{Accepted}
use Rattle.link_traits.specs.declared.links.Accepted.TheVariants.{New, NotReady as AcceptNotReady, Failed as AcceptFailed, Memory as AcceptMemory}
use Rattle.link_traits.specs.declared.links.NetFault.{NetFault}
use Rattle.link_traits.specs.declared.links.NetFault.TheVariants.{Failed as FaultFailed, Memory as FaultMemory}
use Rattle.link_traits.specs.declared.links.Count.TheVariants.{Own as OfNet, Listener as OfListener}
use Rattle.link_traits.specs.declared.links.Ready.{Ready}
use Rattle.link_traits.specs.declared.links.Ready.TheVariants.{Listener, Link as ReadyLink, Quiet, Failed as ReadyFailed}
use Rattle.link_traits.specs.declared.links.Side.{Side}
use Rattle.link_traits.specs.declared.links.Side.TheVariants.{Client, Bus}
use Rattle.link_traits.specs.declared.links.Link.{Link}
use Rattle.link_traits.specs.declared.links.Wishes.{Wishes}
use Rattle.policy_args.specs.declared.line.Block.{Block}
use Rattle.policy_view.specs.declared.End.{End}
use Rattle.policy_view.specs.declared.End.TheVariants.{BusConnect, Memory}
use Rattle.proxy_core.specs.Sessions.{SessionView, StandsFor, nothing}
use Rattle.proxy_loop.specs.declared.link_work.LinkState.{LinkState}
use Rattle.proxy_loop.specs.declared.serving.Running.{Running}
use Rattle.proxy_loop.specs.declared.turns.Turn.{Turn}
use Rattle.proxy_loop.specs.declared.turns.Turn.TheVariants.{Went, Stopped}
use Rattle.proxy_loop.specs.declared.turns.ServerEnd.{ServerEnd}
use Rattle.proxy_loop.specs.declared.turns.ServerEnd.TheVariants.{Listen as EndListen, Wait, Memory as EndMemory}
use Rattle.proxy_loop.specs.Kinds.{some_of, gone_by}
use Rattle.proxy_loop.specs.Works.{Any, Cause, Goes, ShutBoth, shuts_now, wishes_of}
use Rattle.proxy_loop.specs.Runs.{Sound, KeepsPlace, KeepsSessions, Serving}
use Rattle.proxy_loop.specs.Tables.{Table, Sets, unless_over, SoundUnder, IsCounted}

-- ---- if nothing is done

-- the same sessions
pub record SameTable (old new : Table) : Type 0 where
  pub at : (k : ℕ) → new.at k ≡ old.at k
  pub accepted : new.accepted ≡ old.accepted
  pub left : new.left ≡ old.left

-- nothing was done
pub record Still (old new : Table) (before after : NetView) (first last : SinkView) : Type 0 where
  pub same : SameTable old new
  pub net : after ≡ before
  pub log : last ≡ first

-- ---- if a link is named

-- One session was served, under its block. A link is shut if it was shut before, or if the session has an End and
-- nothing more is to be written to the link. The wishes of any other link of the session are stated, if the net knows
-- it; those of other sessions stay.
pub record IsServed (blocks : List Block) (side : Side) (old new : Running) (before after : NetView) (first last : SinkView) : Type 0 where
  pub own : Block
  pub at : slice_get blocks old.block ≡ Some own
  pub serving : Serving own.options.policy own.options.log old.number side old new before after first last
  pub place : KeepsPlace old new
  pub sound : Sound new
  pub client_shut : new.client.shut ≡ (old.client.shut || shuts_now Client new.session new.client.gone)
  pub bus_shut : new.bus.shut ≡ (old.bus.shut || shuts_now Bus new.session new.bus.gone)
  pub client_wishes : new.client.shut ≡ false → after.wishes (client_link old.number) ≡ option_map (λ (_ : Wishes). wishes_of Client new.session) (before.wishes (client_link old.number))
  pub bus_wishes : new.bus.shut ≡ false → after.wishes (bus_link old.number) ≡ option_map (λ (_ : Wishes). wishes_of Bus new.session) (before.wishes (bus_link old.number))
  pub others : KeepsSessions old.number before after

-- the session of the link was served; it is held unless it is over now
pub record ServedDid (blocks : List Block) (link : Link) (running : Running) (old new : Table) (before after : NetView) (first last : SinkView) : Type 0 where
  pub now : Running
  pub served : IsServed blocks link.side running now before after first last
  pub sets : Sets link.session (unless_over now) old.at new.at
  pub accepted : new.accepted ≡ old.accepted

-- nothing without a session that isn't over, else its session is served
abbrev pub LinkDid : List Block → Link → Option Running → Table → Table → NetView → NetView → SinkView → SinkView → Type 0
LinkDid blocks link None old new before after first last = Still old new before after first last
LinkDid blocks link (Some running) old new before after first last = ServedDid blocks link running old new before after first last

-- ---- if a listener is named

-- the state of a link that was just made
abbrev pub at_first : LinkState
at_first = record { gone = false; shut = false }

-- the End of a new session, by the answer of its connect
abbrev pub connect_end : Result (Unit {0}) NetFault → Option End
connect_end (Ok done) = None
connect_end (Err FaultFailed) = Some BusConnect
connect_end (Err FaultMemory) = Some Memory

-- a new session is connected
pub record OneConnect (n : ℕ) (address : List ℕ) (ended : Option End) (gone : Bool) (added : Journal) : Type 0 where
  pub answer : Result (Unit {0}) NetFault
  pub is : added ≡ connect_entry n address answer ∷ []
  pub end : ended ≡ connect_end answer
  pub client_gone : some_of (gone_by (client_link n)) added ≡ false
  pub bus_gone : some_of (gone_by (bus_link n)) added ≡ gone

-- a new session is connected, and its links are shut if it could not be
pub record Opened (n : ℕ) (address : List ℕ) (running : Running) (added : Journal) : Type 0 where
  pub answer : Result (Unit {0}) NetFault
  pub shuts : Journal
  pub is : added ≡ shuts ++ connect_entry n address answer ∷ []
  pub end : running.session.ended ≡ connect_end answer
  pub shut : ShutBoth n running.client.shut running.bus.shut shuts
  pub client_gone : running.client.gone ≡ some_of (gone_by (client_link n)) added
  pub bus_gone : running.bus.gone ≡ some_of (gone_by (bus_link n)) added

-- A session was accepted: it represented no events, runs under the listener's block, and was connected to that block's
-- bus. It is kept unless it is over.
pub record NewDid (blocks : List Block) (listener : ℕ) (address : List ℕ) (n : ℕ) (old new : Table) (before after : NetView) : Type 0 where
  pub session : SessionView
  pub fresh : (block : Block) → slice_get blocks listener ≡ Some block → StandsFor block.options.policy session [] nothing
  pub runs : session.ended ≡ None
  pub running : Running
  pub goes : Goes Any n session running.session before after (Opened n address running)
  pub cause : (end : End) → running.session.ended ≡ Some end → Cause n end before after
  pub number : running.number ≡ n
  pub block : running.block ≡ listener
  pub sound : SoundUnder blocks running
  pub client_shut : running.client.shut ≡ shuts_now Client running.session running.client.gone
  pub bus_shut : running.bus.shut ≡ shuts_now Bus running.session running.bus.gone
  pub client_wishes : running.client.shut ≡ false → after.wishes (client_link n) ≡ Some (wishes_of Client running.session)
  pub bus_wishes : running.bus.shut ≡ false → after.wishes (bus_link n) ≡ Some (wishes_of Bus running.session)
  pub others : KeepsSessions n before after
  pub sets : Sets n (unless_over running) old.at new.at
  pub accepted : new.accepted ≡ old.accepted + 1

-- what follows an accept
abbrev pub Brought : List Block → ℕ → List ℕ → Accepted → Table → Table → NetView → NetView → Type 0
Brought blocks listener address (New n) old new before after = NewDid blocks listener address n old new before after
Brought blocks listener address AcceptNotReady old new before after = SameTable old new × (after ≡ before)
Brought blocks listener address AcceptFailed old new before after = SameTable old new × (after ≡ before)
Brought blocks listener address AcceptMemory old new before after = SameTable old new × (after ≡ before)

-- one accept, and what it brings
pub record AcceptDid (blocks : List Block) (listener : ℕ) (address : List ℕ) (old new : Table) (before after : NetView) : Type 0 where
  pub answer : Accepted
  pub between : NetView
  pub adds : Adds before between (accept_entry listener answer ∷ [])
  pub numbered : (session : ℕ) → answer ≡ New session → (was : Journal) → before.journal ≡ Some was → session ≡ accepts was + 1
  pub failed : answer ≡ AcceptFailed → RoseAt (OfListener listener) before between
  pub wishes : AfterAccept answer before between
  pub brings : Brought blocks listener address answer old new between after

-- nothing if all sessions were accepted or the listener isn't the server's, else one accept
abbrev pub ListenerDid : Bool → List Block → ℕ → Option Block → Table → Table → NetView → NetView → SinkView → SinkView → Type 0
ListenerDid true blocks listener (Some block) old new before after first last = AcceptDid blocks listener (string_bytes block.address) old new before after × (last ≡ first)
ListenerDid true blocks listener None old new before after first last = Still old new before after first last
ListenerDid false blocks listener block old new before after first last = Still old new before after first last

-- ---- the turn

-- the work of a turn, by what was ready
abbrev pub ReadyDid : List Block → ℕ → Ready → Table → Table → NetView → NetView → SinkView → SinkView → Type 0
ReadyDid blocks limit (Listener listener) old new before after first last =
    ListenerDid (nat_lt old.accepted limit) blocks listener (slice_get blocks listener) old new before after first last
ReadyDid blocks limit (ReadyLink link) old new before after first last = LinkDid blocks link (old.at link.session) old new before after first last
ReadyDid blocks limit Quiet old new before after first last = Still old new before after first last
ReadyDid blocks limit ReadyFailed old new before after first last = Still old new before after first last

-- all sessions that may come were accepted, and none is left that isn't over
abbrev pub is_done : ℕ → Table → Bool
is_done limit table = nat_le limit table.accepted && nat_eq table.left 0

abbrev pub answer_at : Bool → Ready → Result Turn ServerEnd
answer_at done Quiet = Ok Stopped
answer_at done ReadyFailed = if done then Ok Stopped else Err Wait
answer_at done (Listener listener) = if done then Ok Stopped else Ok Went
answer_at done (ReadyLink link) = if done then Ok Stopped else Ok Went

-- a listener of the server's is ready, and not all sessions that may come were accepted
pub record WouldAccept (limit : ℕ) (blocks : List Block) (ready : Ready) (old : Table) : Type 0 where
  pub listener : ℕ
  pub named : ready ≡ Listener listener
  pub among : listener < length blocks
  pub room : old.accepted < limit

-- after its wait, a turn does the work for what was ready and answers by it; or memory was refused to it when it would
-- have accepted a session
abbrev pub AfterWait : List Block → ℕ → Ready → Table → Table → NetView → NetView → SinkView → SinkView → Result Turn ServerEnd → Type 0
AfterWait blocks limit ready old new before after first last (Err EndMemory) = Still old new before after first last × WouldAccept limit blocks ready old
AfterWait blocks limit ready old new before after first last (Err Wait) =
    ReadyDid blocks limit ready old new before after first last × (Err Wait ≡ answer_at (is_done limit new) ready)
AfterWait blocks limit ready old new before after first last (Err (EndListen k)) = ⊥
AfterWait blocks limit ready old new before after first last (Ok turn) =
    ReadyDid blocks limit ready old new before after first last × (Ok turn ≡ answer_at (is_done limit new) ready)

-- one turn: one wait, and the work for what it answered
pub record TurnDid (blocks : List Block) (limit : ℕ) (old new : Table) (before after : NetView) (first last : SinkView) (answer : Result Turn ServerEnd) : Type 0 where
  pub ready : Ready
  pub between : NetView
  pub waited : Adds before between (ready_entry ready ∷ [])
  pub failed : ready ≡ ReadyFailed → RoseAt OfNet before between
  pub quiet : ready ≡ Quiet → between.script_done ≡ true
  pub wishes : KeepsWishes before between
  pub does : AfterWait blocks limit ready old new between after first last answer
  pub counted : IsCounted new
