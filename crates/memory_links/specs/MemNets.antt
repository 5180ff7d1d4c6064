-- What contracts see of a net in memory.
use Rattle.std.specs.Prelude.{◌≡◌, Bool, true, false, [], Option, Some, None, IsSome, Contains}
use Rattle.link_traits.specs.Journals.{Journal}
use Rattle.link_traits.specs.Views.{NetView}
use Rattle.link_traits.specs.Tables.{count_in, wishes_in}
use Rattle.memory_links.specs.Transcripts.{is_spent}
use Rattle.memory_links.specs.Scripts.{ends_next, next_place}
use Rattle.link_traits.specs.declared.links.Link.{Link}
use Rattle.link_traits.specs.declared.links.Count.{Count}
use Rattle.memory_links.specs.declared.scripts.Exception.TheVariants.{PrepareFails, PrepareRefused, ReadFails, ReadNotReady}
use Rattle.memory_links.specs.declared.mem_net.MemNet.{MemNet}

abbrev pub journal_if : Bool → Journal → Option Journal
journal_if true entries = Some entries
journal_if false entries = None

abbrev pub mem_view : MemNet → NetView
mem_view net = record {
  journal = journal_if net.transcript.tells net.transcript.entries;
  counts = count_in net.table;
  wishes = wishes_in net.table;
  script_done = net.done;
}

-- nothing happened yet
pub record IsNew (net : NetView) : Type 0 where
  pub journal : net.journal ≡ Some []
  pub counts : (count : Count) → net.counts count ≡ 0
  pub wishes : (link : Link) → net.wishes link ≡ None
  pub script_done : net.script_done ≡ false

-- whether the script says that the next prepare is refused memory
abbrev pub IsPrepareRefused : MemNet → Type 0
IsPrepareRefused net = Contains net.script.exceptions.items (PrepareRefused (next_place net.calls.prepares))

-- whether it says that the next prepare fails, and doesn't say that it is refused memory
abbrev pub IsPrepareFailing : MemNet → Type 0
IsPrepareFailing net = (IsPrepareRefused net → ⊥) × Contains net.script.exceptions.items (PrepareFails (next_place net.calls.prepares))

-- the room isn't spent, the link was made and isn't shut, the script has no exception for the next read, and the end of
-- the link is next on it
pub record HasEndNext (net : MemNet) (link : Link) : Type 0 where
  pub room : is_spent net.transcript ≡ false
  pub made : IsSome (wishes_in net.table link)
  pub fails : Contains net.script.exceptions.items (ReadFails (next_place net.calls.reads)) → ⊥
  pub waits : Contains net.script.exceptions.items (ReadNotReady (next_place net.calls.reads)) → ⊥
  pub ends : ends_next link net.script.steps.items ≡ true
