-- A whole run of a proxy line: listening, and then turn after turn.
use Rattle.std.specs.Prelude.{ℕ, zero, suc, ◌≡◌, ◌⊎◌, List, [], Option, Some, None, Result, Ok, Err}
use Rattle.link_traits.specs.Journals.{Journal}
use Rattle.link_traits.specs.Views.{NetView, SinkView}
use Rattle.policy_args.specs.declared.line.Block.{Block}
use Rattle.proxy_loop.specs.declared.turns.Turn.{Turn}
use Rattle.proxy_loop.specs.declared.turns.Turn.TheVariants.{Went, Stopped}
use Rattle.proxy_loop.specs.declared.turns.ServerEnd.{ServerEnd}
use Rattle.proxy_loop.specs.declared.turns.ServerEnd.TheVariants.{Memory}
use Rattle.proxy_loop.specs.Tables.{Table, IsEmpty, AllWished, SoundTable}
use Rattle.proxy_loop.specs.Turns.{TurnDid}
use Rattle.proxy_loop.specs.Servers.{Serves, GoesOn, LogExact, LinksStand, QueuesStand, WithoutSessions}
use Rattle.proxy_loop.specs.Listening.{ListenDid, ListensForBlocks, listeners_of}

-- what comes of a run
abbrev pub RunEnd : Type 0
RunEnd = Result (Unit {0}) ServerEnd

-- how a run ends with the answer of a turn, if it does
abbrev pub end_at : Result Turn ServerEnd → Option RunEnd
end_at (Ok Went) = None
end_at (Ok Stopped) = Some (Ok tt)
end_at (Err end) = Some (Err end)

-- One turn: each session was held under its number and wasn't over; what was done for what was ready; sessions that
-- served the journal go on serving it; the wishes of their links are as they have to be; what was added to the log; and
-- what waits after what was written.
pub record OneTurn (blocks : List Block) (limit : ℕ) (old new : Table) (before after : NetView) (first last : SinkView) (answer : Result Turn ServerEnd) : Type 0 where
  pub sound : SoundTable blocks old.at
  pub did : TurnDid blocks limit old new before after first last answer
  pub serves : GoesOn blocks old new before after
  pub wished : AllWished old.at before → AllWished new.at after
  pub log : LogExact blocks old new before after first last
  pub queues : (journal : Journal) → Serves blocks new journal → QueuesStand blocks new journal

-- this many turns that went on, one after the other
abbrev pub Turns : List Block → ℕ → ℕ → Table → Table → NetView → NetView → SinkView → SinkView → Type 0
Turns blocks limit zero old new before after first last = (new ≡ old) × (after ≡ before) × (last ≡ first)
Turns blocks limit (suc count) old new before after first last = (mid : Table) × (between : NetView) × (so_far : SinkView)
    × Turns blocks limit count old mid before between first so_far × OneTurn blocks limit mid new between after so_far last (Ok Went)

-- turns that went on, and a last one with this answer
pub record LastTurn (blocks : List Block) (limit : ℕ) (old new : Table) (before after : NetView) (first last : SinkView) (answer : Result Turn ServerEnd) : Type 0 where
  pub count : ℕ
  pub mid : Table
  pub between : NetView
  pub so_far : SinkView
  pub turns : Turns blocks limit count old mid before between first so_far
  pub turn : OneTurn blocks limit mid new between after so_far last answer

-- how many turns a run takes at most
abbrev pub most_turns : ℕ
most_turns = 18446744073709551615

-- A run goes on until a turn answers Stopped, and then it is done, or until a turn ends the server. It is done, too,
-- after as many turns as it may take.
abbrev pub TurnsEnd : List Block → ℕ → Table → Table → NetView → NetView → SinkView → SinkView → RunEnd → Type 0
TurnsEnd blocks limit old new before after first last (Ok done) =
    LastTurn blocks limit old new before after first last (Ok Stopped) ⊎ Turns blocks limit most_turns old new before after first last
TurnsEnd blocks limit old new before after first last (Err end) = LastTurn blocks limit old new before after first last (Err end)

-- the turns of a server without sessions
pub record TookTurns (blocks : List Block) (limit : ℕ) (before after : NetView) (first last : SinkView) (end : RunEnd) : Type 0 where
  pub old : Table
  pub empty : IsEmpty old
  pub new : Table
  pub ended : TurnsEnd blocks limit old new before after first last end

-- what follows listening: turns; or nothing, if a path was refused
abbrev pub AfterListen : List Block → ℕ → RunEnd → NetView → NetView → SinkView → SinkView → RunEnd → Type 0
AfterListen blocks limit (Ok done) before after first last end = TookTurns blocks limit before after first last end
AfterListen blocks limit (Err refused) before after first last end = (after ≡ before) × (last ≡ first) × (end ≡ Err refused)

-- the listening, and then the turns
pub record ListensAndTurns (blocks : List Block) (limit : ℕ) (before after : NetView) (first last : SinkView) (end : RunEnd) : Type 0 where
  pub between : NetView
  pub heard : RunEnd
  pub listened : ListenDid blocks before between heard
  pub rest : AfterListen blocks limit heard between after first last end

-- a server was refused memory, and nothing was done
pub record Unserved (before after : NetView) (first last : SinkView) (end : RunEnd) : Type 0 where
  pub net : after ≡ before
  pub log : last ≡ first
  pub answer : end ≡ Err Memory

-- a run of a proxy line
abbrev pub RunDid : List Block → ℕ → NetView → NetView → SinkView → SinkView → RunEnd → Type 0
RunDid blocks limit before after first last end = ListensAndTurns blocks limit before after first last end ⊎ Unserved before after first last end

-- If the journal is known at the end, it was known at the start. If it had no sessions then, what was written to each
-- link is a prefix of that side's bytes of the history of its session's events, under the block of the listener that
-- accepted it. If the journal had no listeners then, its listeners are those of the blocks: a session is under the
-- block to whose path its client connected.
pub record RunLinks (blocks : List Block) (before after : NetView) : Type 0 where
  pub each : (now : Journal) → after.journal ≡ Some now → (was : Journal) × (before.journal ≡ Some was) × (WithoutSessions was → LinksStand blocks now)
      × (listeners_of was ≡ [] → ListensForBlocks blocks now)
