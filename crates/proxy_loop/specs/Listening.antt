-- What listening adds to a journal.
use Rattle.std.specs.Prelude.{ℕ, ◌≡◌, ◌+◌, ◌≤◌, ◌<◌, Bool, true, false, map, take, length, List, [], ◌∷◌, ◌++◌, Some, Result, Ok, Err, string_bytes}
use Rattle.link_traits.specs.Journals.{Journal, listens}
use Rattle.link_traits.specs.Views.{NetView, Adds, RoseAt}
use Rattle.link_traits.specs.Entries.{Entry, listened, ready, accepted, connected, read, finished, wrote, not_ready, failed, refused, shut}
use Rattle.link_traits.specs.declared.links.Count.{Count}
use Rattle.link_traits.specs.declared.links.Count.TheVariants.{Own as OfNet}
use Rattle.link_traits.specs.declared.links.Call.TheVariants.{Listen}
use Rattle.policy_args.specs.declared.line.Block.{Block}
use Rattle.proxy_core.specs.Sessions.{IsFront}
use Rattle.proxy_loop.specs.declared.turns.ServerEnd.{ServerEnd}
use Rattle.proxy_loop.specs.declared.turns.ServerEnd.TheVariants.{Listen as EndListen, Wait, Memory as EndMemory}
use Rattle.proxy_loop.specs.Kinds.{all_are}

abbrev pub is_listened : Entry → Bool
is_listened (listened listener path) = true
is_listened (ready answer) = false
is_listened (accepted listener session) = false
is_listened (connected session path) = false
is_listened (read link bytes) = false
is_listened (finished link) = false
is_listened (wrote link bytes) = false
is_listened (not_ready call) = false
is_listened (failed call) = false
is_listened (refused call) = false
is_listened (shut link) = false

abbrev pub listener_by : Entry → List (ℕ × List ℕ)
listener_by (listened listener path) = (listener, path) ∷ []
listener_by (ready answer) = []
listener_by (accepted listener session) = []
listener_by (connected session path) = []
listener_by (read link bytes) = []
listener_by (finished link) = []
listener_by (wrote link bytes) = []
listener_by (not_ready call) = []
listener_by (failed call) = []
listener_by (refused call) = []
listener_by (shut link) = []

-- the listeners that were made, in order, with their paths
unfoldable pub listeners_of : Journal → List (ℕ × List ℕ)
listeners_of [] = []
listeners_of (entry ∷ before) = listeners_of before ++ listener_by entry

-- If the net tells its journal after this, it told it before, and no listener was added.
pub record HearsNoMore (before after : NetView) : Type 0 where
  pub each : (now : Journal) → after.journal ≡ Some now → (was : Journal) × (before.journal ≡ Some was) × (listeners_of now ≡ listeners_of was)

-- paths with numbers from one on
abbrev pub numbered_from : ℕ → List (List ℕ) → List (ℕ × List ℕ)
numbered_from n [] = []
numbered_from n (path ∷ paths) = (n, path) ∷ numbered_from (n + 1) paths

abbrev pub path_at : Block → List ℕ
path_at block = string_bytes block.path

-- The listeners of a journal are those of the first blocks: each has its block's number and its block's path.
abbrev pub ListensForBlocks : List Block → Journal → Type 0
ListensForBlocks blocks journal = IsFront (listeners_of journal) (numbered_from 0 (map path_at blocks))

-- The first blocks' paths were listened at, in order, and nothing else was done. Their listeners are numbered on from
-- those that were there before. A new net has none: then a block's listener has the block's place as its number.
pub record Heard (blocks : List Block) (count : ℕ) (before after : NetView) : Type 0 where
  pub told : (now : Journal) → after.journal ≡ Some now → (was : Journal) × (before.journal ≡ Some was)
      × (added : Journal) × (now ≡ added ++ was) × (all_are is_listened added ≡ true) × (listeners_of added ≡ numbered_from (listens was) (map path_at (take count blocks)))
      × (listens now ≡ listens was + count)
  pub counts : (c : Count) → before.counts c ≤ after.counts c

-- all paths; or those before the one that was refused
abbrev pub ListenDid : List Block → NetView → NetView → Result (Unit {0}) ServerEnd → Type 0
ListenDid blocks before after (Ok done) = Heard blocks (length blocks) before after
ListenDid blocks before after (Err (EndListen k)) = (mid : NetView) × (k < length blocks) × Heard blocks k before mid × Adds mid after (failed Listen ∷ []) × RoseAt OfNet mid after
ListenDid blocks before after (Err EndMemory) = (mid : NetView) × (k : ℕ) × (k < length blocks) × Heard blocks k before mid × Adds mid after (refused Listen ∷ [])
ListenDid blocks before after (Err Wait) = ⊥
