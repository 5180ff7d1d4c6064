-- When a tracker has learned facts, and what it then answers.
use Rattle.std.specs.Prelude.{◌≡◌, ℕ, true, List, [], Option, Some, None, length, if◌then◌else◌}
use Rattle.std.specs.List.{list_all, list_any}
use Rattle.std.specs.Ordering.{nat_cmp}
use Rattle.std.specs.Cmp.Lexicographic.{slice_cmp}
use Rattle.std.specs.FinMap.{FinMap, get, insert}
use Rattle.std.specs.Prelude.{◌&&◌, nat_le}
use Rattle.dbus_names.specs.Texts.{Text}
use Rattle.dbus_names.specs.Names.{is_unique, is_well_known}
use Rattle.policy_args.specs.Policy.{Policy, at_least, greater, level}
use Rattle.policy_args.specs.Levels.{covers_name_of, level_of_id, numbers_where}
use Rattle.policy_args.specs.declared.Level.{Level}
use Rattle.policy_args.specs.declared.Level.TheVariants.{None as Hidden, See, Talk}
use Rattle.policy_args.specs.declared.fact.Fact.{Fact}
use Rattle.policy_args.specs.declared.fact.Fact.TheVariants.{Owned, SelfId, Met}
use Rattle.unique_names.specs.Known.{Known}
use Rattle.unique_names.specs.Merged.{merged_from}

-- the model of a tracker: what is known of each unique name
abbrev pub Ids : Type 0
Ids = FinMap (slice_cmp nat_cmp) Known

-- ---- what follows from facts for a unique name

-- the numbers of the entries that cover a name that it has owned
abbrev pub owned_numbers : Policy → List Fact → Text → List ℕ
owned_numbers policy facts id = numbers_where (λ e. list_any (covers_name_of e id) facts) 1 policy.entries

-- nothing is kept of a unique name to which the facts give no level
abbrev pub known_of : Policy → List Fact → Text → Option Known
known_of policy facts id =
    if at_least See (level_of_id policy facts id) then Some (record { level = level_of_id policy facts id; numbers = owned_numbers policy facts id }) else None

-- the tracker has learned these facts, in any order, under the policy
pub record Taught (ids : Ids) (policy : Policy) (facts : List Fact) : Type 0 where
  pub each : (id : Text) → get ids id ≡ known_of policy facts id

-- the numbers that it keeps are those of entries of the policy
abbrev pub AreNumbers : ℕ → List ℕ → Type 0
AreNumbers count numbers = list_all (λ n. nat_le 1 n && nat_le n count) numbers ≡ true

pub record Fits (ids : Ids) (policy : Policy) : Type 0 where
  pub each : (id : Text) (k : Known) → get ids id ≡ Some k → AreNumbers (length policy.entries) k.numbers

-- ---- what it answers

abbrev pub known_level : Option Known → Level
known_level None = Hidden
known_level (Some k) = k.level

abbrev pub known_numbers : Option Known → List ℕ
known_numbers None = []
known_numbers (Some k) = k.numbers

abbrev pub kept_level : Policy → Ids → Text → Level
kept_level policy ids text =
    if is_well_known text then level policy text else (if is_unique text then known_level (get ids text) else Hidden)

-- the numbers of the entries of a text: of a unique name, those that are kept
abbrev pub kept_numbers : Policy → Ids → Text → List ℕ
kept_numbers policy ids text =
    if is_unique text then known_numbers (get ids text) else merged_from text 1 policy.entries (known_numbers (get ids text))

-- ---- what it learns

-- what is known of a unique name about which nothing was learned
abbrev pub nothing_known : Known
nothing_known = record { level = Hidden; numbers = [] }

-- at least this level, and no more entries
abbrev pub raised : Level → Option Known → Known
raised level k = record { level = greater (known_level k) level; numbers = known_numbers k }

-- a name that it owns
abbrev pub owning : Policy → Text → Option Known → Known
owning policy name k = record { level = greater (known_level k) (level policy name); numbers = merged_from name 1 policy.entries (known_numbers k) }

-- nothing is learned from the owner of a name to which the policy gives no level
abbrev pub learned : Policy → Ids → Fact → Ids
learned policy ids (Owned name id) = if at_least See (level policy name) then insert ids id (owning policy name (get ids id)) else ids
learned policy ids (SelfId id) = insert ids id (raised Talk (get ids id))
learned policy ids (Met id) = insert ids id (raised See (get ids id))
