-- What contracts see of a table.
use Rattle.std.specs.Prelude.{ℕ, ◌≡◌, ◌≤◌, true, false, ◌||◌, Option, Some, None, slice_get, unwrap_or}
use Rattle.std.specs.Option.{option_map}
use Rattle.std.specs.Ordering.{nat_cmp}
use Rattle.std.specs.BTreeMap as tree
use Rattle.link_traits.specs.Journals.{same_link}
use Rattle.link_traits.specs.Numbers.{number_of}
use Rattle.link_traits.specs.declared.links.Link.{Link}
use Rattle.link_traits.specs.declared.links.Wishes.{Wishes}
use Rattle.link_traits.specs.declared.links.Count.{Count}
use Rattle.link_traits.specs.declared.links.Count.TheVariants.{Own, Listener, Link as OfLink, Waits}
use Rattle.link_traits.specs.declared.tables.LinkRow.{LinkRow}
use Rattle.link_traits.specs.declared.tables.LinkTable.{LinkTable}

-- the row of a link that was made and isn't shut
abbrev pub row_in : LinkTable → Link → Option LinkRow
row_in table link = tree.get nat_cmp table.links (number_of link)

abbrev pub wishes_in : LinkTable → Link → Option Wishes
wishes_in table link = option_map (λ (row : LinkRow). row.wishes) (row_in table link)

abbrev pub count_in : LinkTable → Count → ℕ
count_in table Own = table.own
count_in table Waits = table.waits
count_in table (Listener listener) = unwrap_or (slice_get table.listeners.items listener) table.absent
count_in table (OfLink link) = unwrap_or (option_map (λ (row : LinkRow). row.faults) (row_in table link)) table.absent

-- a link is there, and is watched for reading or writing
abbrev pub HasWish : Option Wishes → Type 0
HasWish None = ⊥
HasWish (Some wishes) = (wishes.read || wishes.write) ≡ true

-- no count falls
pub record Grows (old new : LinkTable) : Type 0 where
  pub each : (count : Count) → count_in old count ≤ count_in new count

pub record KeepsCounts (old new : LinkTable) : Type 0 where
  pub each : (count : Count) → count_in new count ≡ count_in old count

pub record KeepsWishesIn (old new : LinkTable) : Type 0 where
  pub each : (link : Link) → wishes_in new link ≡ wishes_in old link

pub record KeepsOthersIn (link : Link) (old new : LinkTable) : Type 0 where
  pub each : (other : Link) → same_link link other ≡ false → wishes_in new other ≡ wishes_in old other
