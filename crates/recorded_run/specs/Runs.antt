-- A run of a proxy line over a net that is recorded.
use Rattle.std.specs.Prelude.{ℕ, ◌≡◌, ◌≤◌, ◌⊎◌, false, All, List, ◌++◌, Some, Err}
use Rattle.link_traits.specs.Journals.{Journal}
use Rattle.link_traits.specs.Views.{NetView, RoseAt, SinkView}
use Rattle.link_traits.specs.declared.links.Count.TheVariants.{Own as OfNet}
use Rattle.policy_args.specs.declared.line.Block.{Block}
use Rattle.policy_args.specs.declared.options.Options.{Options}
use Rattle.proxy_loop.specs.declared.turns.ServerEnd.TheVariants.{Listen, Wait}
use Rattle.proxy_loop.specs.Servers.{Fresh, WithoutSessions}
use Rattle.proxy_run.specs.Runs.{RunEnd, RunDid, RunLinks}
use Rattle.proxy_run.specs.Logs.{RunLogs}
use Rattle.record_net.specs.Sessions.{items_of}
use Rattle.recorded_run.specs.Events.{is_refused}
use Rattle.recorded_run.specs.Recordings.{StandsRecorded, StandsRecordedUnder}

-- What holds of a run of a proxy line over any net: the clauses of `serve`.
pub record RunServed (blocks : List Block) (limit : ℕ) (before after : NetView) (first last : SinkView) (end : RunEnd) : Type 0 where
  pub did : RunDid blocks limit before after first last end
  pub links : RunLinks blocks before after
  pub log : RunLogs blocks before after first last
  pub listen : (k : ℕ) → end ≡ Err (Listen k) → RoseAt OfNet before after
  pub wait : end ≡ Err Wait → RoseAt OfNet before after
  pub count : first.faults ≤ last.faults

-- If the journal is known at the end, it was known at the start, and entries were added to it. This holds of the
-- journal at the start and of these entries.
abbrev pub RunAdded : NetView → NetView → (Journal → Journal → Type 0) → Type 0
RunAdded before after Holds = (now : Journal) → after.journal ≡ Some now →
    (was : Journal) × (since : Journal) × (before.journal ≡ Some was) × (now ≡ since ++ was) × Holds was since

-- .. where the journal was without sessions at the start
abbrev pub FromNoSessions : (Journal → Type 0) → Journal → Journal → Type 0
FromNoSessions Holds was since = WithoutSessions was → Holds since

-- Each number whose connect was not refused memory belongs to no session, or what was written to its session's links is
-- a prefix of the bytes of the history of its recorded events, under the block of the listener that accepted it.
abbrev pub LinksRecorded : List Block → Journal → Journal → Type 0
LinksRecorded blocks was since = WithoutSessions was → (n : ℕ) → is_refused n since ≡ false →
    Fresh n (since ++ was) ⊎ StandsRecordedUnder blocks n (items_of since) (since ++ was)

-- .. and so under these options, if all blocks have them
abbrev pub LinksReplayed : List Block → Journal → Journal → Type 0
LinksReplayed blocks was since = WithoutSessions was → (options : Options) → All (λ block. block.options ≡ options) blocks → (n : ℕ) → is_refused n since ≡ false →
    StandsRecorded options n (items_of since) (since ++ was)
