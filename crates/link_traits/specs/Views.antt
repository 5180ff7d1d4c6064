-- What contracts see of files, of a sink and of a net, and how that changes from call to call.
use Rattle.std.specs.Prelude.{ℕ, ◌≡◌, ◌≤◌, Bool, false, List, ◌++◌, Option, Some}
use Rattle.link_traits.specs.Told.{added}
pub use Rattle.link_traits.specs.Told.{Rose}
use Rattle.link_traits.specs.Journals.{Journal, same_link}
use Rattle.link_traits.specs.declared.links.Count.{Count}
use Rattle.link_traits.specs.declared.links.Link.{Link}
use Rattle.link_traits.specs.declared.links.Wishes.{Wishes}

-- ---- files

pub record FilesView : Type 0 where
  -- the bytes of the file at each path, if they are known
  pub told : List ℕ → Option (List ℕ)
  -- how many calls have failed, up to the greatest number of the count
  pub faults : ℕ
  -- the path of each read, in order, whatever its result
  pub reads : List (List ℕ)

-- a call of the files failed: their count of faults rose
abbrev pub FilesRose : FilesView → FilesView → Type 0
FilesRose old new = Rose old.faults new.faults

-- ---- a sink

pub record SinkView : Type 0 where
  -- all bytes that were taken, if they are known
  pub told : Option (List ℕ)
  -- how many writes have failed, up to the greatest number of the count
  pub faults : ℕ

-- a write of the sink failed: its count of faults rose
abbrev pub SinkRose : SinkView → SinkView → Type 0
SinkRose old new = Rose old.faults new.faults

-- a sink got these bytes
abbrev pub Appends : SinkView → SinkView → List ℕ → Type 0
Appends old new bytes = new.told ≡ added bytes old.told

-- ---- a net

-- the journal while it is known, the counts, the wishes of each link that was made and isn't shut, and whether the
-- script is done
pub record NetView : Type 0 where
  pub journal : Option Journal
  pub counts : Count → ℕ
  pub wishes : Link → Option Wishes
  pub script_done : Bool

-- If the journal is still known, it was known before, and these entries were added. No count falls. A net may cease to
-- keep its journal; one that keeps none meets this.
pub record Adds (old new : NetView) (added : Journal) : Type 0 where
  pub told : (after : Journal) → new.journal ≡ Some after → (before : Journal) × (old.journal ≡ Some before) × (after ≡ added ++ before)
  pub counts : (count : Count) → old.counts count ≤ new.counts count

abbrev pub RoseAt : Count → NetView → NetView → Type 0
RoseAt count old new = Rose (old.counts count) (new.counts count)

-- the wishes of all links but one are as before
pub record KeepsOthers (link : Link) (old new : NetView) : Type 0 where
  pub each : (other : Link) → same_link link other ≡ false → new.wishes other ≡ old.wishes other

-- the wishes of all links are as before
pub record KeepsWishes (old new : NetView) : Type 0 where
  pub each : (link : Link) → new.wishes link ≡ old.wishes link
