-- The sessions of a server that aren't over, by their numbers.
use Rattle.std.specs.Prelude.{ℕ, nat_eq, ◌≡◌, ◌<◌, true, false, cond, List, length, Option, Some, None, if◌then◌else◌, slice_get}
use Rattle.std.specs.Global.{Box}
use Rattle.std.specs.HashMap.{HashMap, get, hash_map_len}
use Rattle.std.specs.Option.{option_map}
use Rattle.link_traits.specs.Views.{NetView}
use Rattle.link_traits.specs.Answers.{client_link, bus_link}
use Rattle.link_traits.specs.declared.links.Side.TheVariants.{Client, Bus}
use Rattle.policy_args.specs.declared.line.Block.{Block}
use Rattle.policy_args.specs.declared.options.Options.{Options}
use Rattle.policy_view.specs.declared.Mode.{Mode}
use Rattle.proxy_loop.specs.declared.serving.Running.{Running}
use Rattle.proxy_loop.specs.declared.table.Sessions.{Sessions}
use Rattle.proxy_loop.specs.Works.{Stood, wishes_of}
use Rattle.proxy_loop.specs.Runs.{Sound, is_over}

-- the session with a number, if it isn't over
abbrev pub At : Type 0
At = ℕ → Option Running

-- the sessions that aren't over, how many were accepted, and how many aren't over
pub record Table : Type 0 where
  pub at : At
  pub accepted : ℕ
  pub left : ℕ

-- those of a map of them
abbrev pub at_in : {S : Type 0} → HashMap ℕ (Box Running) S → At
at_in running n = option_map (λ (b : Box Running). b.value) (get nat_eq running n)

abbrev pub table_of : Sessions → Table
table_of sessions = record { at = at_in sessions.running; accepted = sessions.accepted; left = hash_map_len sessions.running }

-- one number has this session now, and each other number what it had
pub record Sets (n : ℕ) (now : Option Running) (old new : At) : Type 0 where
  pub each : (k : ℕ) → new k ≡ cond (nat_eq n k) now (old k)

-- a session that is over isn't held
abbrev pub unless_over : Running → Option Running
unless_over running = if is_over running then None else Some running

-- how a session works under the options of its block: both streams begin with lines, messages are filtered if the
-- filter is asked for, and make notes if the log is
abbrev pub session_mode : Options → Mode
session_mode options = record { auth = true; filter = options.filter; notes = options.log }

-- what holds of a session by itself: under its block it is held by the block's options, and stands for some events
pub record SoundUnder (blocks : List Block) (running : Running) : Type 0 where
  pub sound : Sound running
  pub block : running.block < length blocks
  pub mode : (block : Block) → slice_get blocks running.block ≡ Some block → running.session.mode ≡ session_mode block.options
  pub stood : (block : Block) → slice_get blocks running.block ≡ Some block → Stood block.options.policy running.session

-- each session is held under its number, and isn't over
pub record SoundTable (blocks : List Block) (at : At) : Type 0 where
  pub each : (n : ℕ) (running : Running) → at n ≡ Some running → SoundUnder blocks running
  pub number : (n : ℕ) (running : Running) → at n ≡ Some running → running.number ≡ n
  pub runs : (n : ℕ) (running : Running) → at n ≡ Some running → is_over running ≡ false

-- the wishes of a session's links that aren't shut are as they are to be
pub record Wished (n : ℕ) (running : Running) (net : NetView) : Type 0 where
  pub client : running.client.shut ≡ false → net.wishes (client_link n) ≡ Some (wishes_of Client running.session)
  pub bus : running.bus.shut ≡ false → net.wishes (bus_link n) ≡ Some (wishes_of Bus running.session)

-- and so they are of all sessions
pub record AllWished (at : At) (net : NetView) : Type 0 where
  pub each : (n : ℕ) (running : Running) → at n ≡ Some running → Wished n running net

-- what is counted as left is what is held
pub record IsCounted (table : Table) : Type 0 where
  pub none : table.left ≡ 0 → (k : ℕ) → table.at k ≡ None
  pub all : ((k : ℕ) → table.at k ≡ None) → table.left ≡ 0

-- no session was accepted
pub record IsEmpty (table : Table) : Type 0 where
  pub at : (k : ℕ) → table.at k ≡ None
  pub accepted : table.accepted ≡ 0
  pub left : table.left ≡ 0
