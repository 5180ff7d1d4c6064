-- No count falls in a turn, nor in turns one after the other.
use Rattle.std.proofs.Common.{ℕ, zero, suc, nat_lt, ◌≡◌, ◌≤◌, Bool, true, false, List, Option, Some, None, Result, Ok, Err, arith, slice_get, string_bytes}
use Rattle.link_traits.specs.Views.{NetView, SinkView}
use Rattle.link_traits.specs.declared.links.Count.{Count}
use Rattle.link_traits.specs.declared.links.Link.{Link}
use Rattle.link_traits.specs.declared.links.Ready.{Ready}
use Rattle.link_traits.specs.declared.links.Ready.TheVariants.{Listener, Link as ReadyLink, Quiet, Failed as ReadyFailed}
use Rattle.link_traits.specs.declared.links.Accepted.{Accepted}
use Rattle.link_traits.specs.declared.links.Accepted.TheVariants.{New, NotReady as AcceptNotReady, Failed as AcceptFailed, Memory as AcceptMemory}
use Rattle.policy_args.specs.declared.line.Block.{Block}
use Rattle.proxy_loop.specs.declared.serving.Running.{Running}
use Rattle.proxy_loop.specs.declared.turns.Turn.{Turn}
use Rattle.proxy_loop.specs.declared.turns.Turn.TheVariants.{Went}
use Rattle.proxy_loop.specs.declared.turns.ServerEnd.{ServerEnd}
use Rattle.proxy_loop.specs.declared.turns.ServerEnd.TheVariants.{Listen, Wait, Memory}
use Rattle.proxy_loop.specs.Tables.{Table}
use Rattle.proxy_loop.specs.Turns.{Still, LinkDid, Brought, ListenerDid, ReadyDid, AfterWait, TurnDid}
use Rattle.proxy_run.specs.Runs.{Turns}

-- the net's counts, and that of the log
pub record KeepsCounts (before after : NetView) (first last : SinkView) : Type 0 where
  pub net : (count : Count) → before.counts count ≤ after.counts count
  pub log : first.faults ≤ last.faults

same_counts : (before after : NetView) (first last : SinkView) → after ≡ before → last ≡ first → KeepsCounts before after first last
same_counts before after first last n l = rw n (rw l (record { net = λ count. omega arith; log = omega arith }))

counts_then : (a b c : NetView) (x y z : SinkView) → KeepsCounts a b x y → KeepsCounts b c y z → KeepsCounts a c x z
counts_then a b c x y z h k = record {
  net = λ count. let p : a.counts count ≤ b.counts count = h.net count in let q : b.counts count ≤ c.counts count = k.net count in omega arith;
  log = let p : x.faults ≤ y.faults = h.log in let q : y.faults ≤ z.faults = k.log in omega arith;
}

module _ (blocks : List Block) (limit : ℕ) (old new : Table) (before after : NetView) (first last : SinkView) where
  still_counts : Still old new before after first last → KeepsCounts before after first last
  still_counts d = same_counts before after first last d.net d.log

  brought_counts : (listener : ℕ) (address : List ℕ) (answer : Accepted) (between : NetView) → ((count : Count) → before.counts count ≤ between.counts count) →
      Brought blocks listener address answer old new between after → last ≡ first → KeepsCounts before after first last
  brought_counts listener address (New n) between h d e =
      counts_then before between after first first last (record { net = h; log = omega arith }) (record { net = d.goes.counts; log = rw e (omega arith) })
  brought_counts listener address AcceptNotReady between h d e = rw d.1 (rw e (record { net = h; log = omega arith }))
  brought_counts listener address AcceptFailed between h d e = rw d.1 (rw e (record { net = h; log = omega arith }))
  brought_counts listener address AcceptMemory between h d e = rw d.1 (rw e (record { net = h; log = omega arith }))

  listener_counts : (room : Bool) (listener : ℕ) (block : Option Block) → ListenerDid room blocks listener block old new before after first last → KeepsCounts before after first last
  listener_counts true listener (Some block) d = brought_counts listener (string_bytes block.address) d.0.answer d.0.between d.0.adds.counts d.0.brings d.1
  listener_counts true listener None d = still_counts d
  listener_counts false listener block d = still_counts d

  link_counts : (link : Link) (at : Option Running) → LinkDid blocks link at old new before after first last → KeepsCounts before after first last
  link_counts link None d = still_counts d
  link_counts link (Some running) d = record { net = d.served.serving.counts; log = d.served.serving.log_counts }

  ready_counts : (ready : Ready) → ReadyDid blocks limit ready old new before after first last → KeepsCounts before after first last
  ready_counts (Listener listener) d = listener_counts (nat_lt old.accepted limit) listener (slice_get blocks listener) d
  ready_counts (ReadyLink link) d = link_counts link (old.at link.session) d
  ready_counts Quiet d = still_counts d
  ready_counts ReadyFailed d = still_counts d

  after_counts : (ready : Ready) (answer : Result Turn ServerEnd) → AfterWait blocks limit ready old new before after first last answer → KeepsCounts before after first last
  after_counts ready (Err Memory) d = still_counts d.0
  after_counts ready (Err Wait) d = ready_counts ready d.0
  after_counts ready (Err (Listen k)) d = absurd d
  after_counts ready (Ok turn) d = ready_counts ready d.0

pub turn_counts : (blocks : List Block) (limit : ℕ) (old new : Table) (before after : NetView) (first last : SinkView) (answer : Result Turn ServerEnd) →
    TurnDid blocks limit old new before after first last answer → KeepsCounts before after first last
turn_counts blocks limit old new before after first last answer d =
    counts_then before d.between after first first last (record { net = d.waited.counts; log = omega arith })
    (after_counts blocks limit old new d.between after first last d.ready answer d.does)

pub turns_counts : (blocks : List Block) (limit count : ℕ) (old new : Table) (before after : NetView) (first last : SinkView) →
    Turns blocks limit count old new before after first last → KeepsCounts before after first last
turns_counts blocks limit zero old new before after first last t = same_counts before after first last t.1 t.2
turns_counts blocks limit (suc count) old new before after first last t =
    counts_then before t.1 after first t.2 last (turns_counts blocks limit count old t.0 before t.1 first t.2 t.3)
    (turn_counts blocks limit t.0 new t.1 after t.2 last (Ok Went) t.4.did)
