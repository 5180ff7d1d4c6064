-- What a run of a proxy line writes to the log.
use Rattle.std.specs.Prelude.{ℕ, nat_eq, ◌≡◌, ◌⊎◌, Bool, false, ◌||◌, List, [], ◌∷◌, ◌++◌, Option, Some, None, if◌then◌else◌, slice_get}
use Rattle.link_traits.specs.Journals.{Journal}
use Rattle.link_traits.specs.Told.{Rose}
use Rattle.link_traits.specs.Views.{NetView, Appends, SinkView}
use Rattle.link_traits.specs.Entries.{Entry, listened, ready, accepted, connected, read, finished, wrote, not_ready, failed, refused, shut}
use Rattle.policy_args.specs.declared.line.Block.{Block}
use Rattle.policy_view.specs.History.{first_items, history, new_in}
use Rattle.policy_view.specs.Notes.{notes}
use Rattle.policy_view.specs.Past.{History}
use Rattle.explain_log.specs.Lines.{log}
use Rattle.proxy_core.specs.Sessions.{IsFront}
use Rattle.proxy_loop.specs.Sessions.{events_of}
use Rattle.proxy_loop.specs.Runs.{log_of}
use Rattle.proxy_loop.specs.Tables.{session_mode}
use Rattle.proxy_loop.specs.Servers.{listener_of, WithoutSessions}

-- the session of which a link was read
abbrev pub read_of : Entry → Option ℕ
read_of (read link bytes) = Some link.session
read_of (listened listener path) = None
read_of (ready answer) = None
read_of (accepted listener session) = None
read_of (connected session path) = None
read_of (finished link) = None
read_of (wrote link bytes) = None
read_of (not_ready call) = None
read_of (failed call) = None
read_of (refused call) = None
read_of (shut link) = None

-- the lines of the messages that an entry adds to a part of a session's history, if its block has a log
abbrev pub lines_under : Block → ℕ → Entry → Journal → (History → History) → List ℕ
lines_under block n entry before part =
    if block.options.log
    then new_in (log_of block.options.policy (session_mode block.options) n before)
    (log n (notes block.options.policy (part (history block.options.policy (session_mode block.options) (events_of n (entry ∷ before))))))
    else []

abbrev pub lines_at : Option Block → ℕ → Entry → Journal → (History → History) → List ℕ
lines_at None n entry before part = []
lines_at (Some block) n entry before part = lines_under block n entry before part

abbrev pub block_at : List Block → Option ℕ → Option Block
block_at blocks None = None
block_at blocks (Some listener) = slice_get blocks listener

-- under the block of the listener that accepted the session
abbrev pub lines_of : List Block → ℕ → Entry → Journal → (History → History) → List ℕ
lines_of blocks n entry before part = lines_at (block_at blocks (listener_of n before)) n entry before part

abbrev pub all_items : History → History
all_items items = items

-- a session is among those whose lines weren't all written
abbrev pub is_cut : ℕ → List ℕ → Bool
is_cut n [] = false
is_cut n (m ∷ cut) = nat_eq m n || is_cut n cut

-- The lines of a read are written, or a prefix of them; then the session is in the list. Unless the log failed, the
-- prefix is the lines of the first items of its history: memory was refused to the session at the next item.
abbrev pub IsWritten : Type 0 → ℕ → ((History → History) → List ℕ) → List ℕ → List ℕ → List ℕ → Type 0
IsWritten log_failed n due before cut lines =
    ((lines ≡ due all_items) × (cut ≡ before)) ⊎ (IsFront lines (due all_items) × (log_failed ⊎ (done : ℕ) × (lines ≡ due (first_items done))) × (cut ≡ n ∷ before))

-- What a read of a session that isn't among those adds to the log. None is read of a session that is among them.
pub record ReadLogs (log_failed : Type 0) (n : ℕ) (due : (History → History) → List ℕ) (Rest : List ℕ → List ℕ → Type 0) (cut got : List ℕ) : Type 0 where
  pub before : List ℕ
  pub earlier : List ℕ
  pub lines : List ℕ
  pub rest : Rest before earlier
  pub uncut : is_cut n before ≡ false
  pub written : IsWritten log_failed n due before cut lines
  pub all : got ≡ earlier ++ lines

abbrev pub EntryLogs : Type 0 → Option ℕ → (ℕ → (History → History) → List ℕ) → (List ℕ → List ℕ → Type 0) → List ℕ → List ℕ → Type 0
EntryLogs log_failed None due Rest cut got = Rest cut got
EntryLogs log_failed (Some n) due Rest cut got = ReadLogs log_failed n (due n) Rest cut got

-- The log of a journal: for each read, in order, the lines of the messages that it adds to its session's history. Of
-- the last read of a session it may be a prefix of them; these sessions are listed.
abbrev pub LogOf : Type 0 → List Block → Journal → List ℕ → List ℕ → Type 0
LogOf log_failed blocks [] cut got = (cut ≡ []) × (got ≡ [])
LogOf log_failed blocks (entry ∷ before) cut got = EntryLogs log_failed (read_of entry) (λ n. lines_of blocks n entry before) (λ c g. LogOf log_failed blocks before c g) cut got

-- If the journal is known at the end, it was known at the start. If it had no sessions then, the sink got the journal's
-- log, which failed only if the sink's count rose.
pub record RunLogs (blocks : List Block) (before after : NetView) (first last : SinkView) : Type 0 where
  pub each : (now : Journal) → after.journal ≡ Some now → (was : Journal) × (before.journal ≡ Some was)
      × (WithoutSessions was → (cut : List ℕ) × (got : List ℕ) × LogOf (Rose first.faults last.faults) blocks now cut got × Appends first last got)
