-- The level of a name or a unique name, given the known facts, and the entries that cover it.
use Rattle.std.specs.Prelude.{ℕ, ◌+◌, Bool, false, ◌&&◌, ◌||◌, List, [], ◌∷◌, if◌then◌else◌}
use Rattle.std.specs.Str.{bytes_eq}
use Rattle.std.specs.List.{list_any}
use Rattle.dbus_names.specs.Texts.{Text}
use Rattle.dbus_names.specs.Names.{is_unique, is_well_known}
use Rattle.name_patterns.specs.Patterns.{covers}
use Rattle.policy_args.specs.Policy.{Policy, level, greater}
use Rattle.policy_args.specs.declared.entry.Entry.{Entry}
use Rattle.policy_args.specs.declared.fact.Fact.{Fact}
use Rattle.policy_args.specs.declared.fact.Fact.TheVariants.{Owned, SelfId, Met}
use Rattle.policy_args.specs.declared.Level.{Level}
use Rattle.policy_args.specs.declared.Level.TheVariants.{None as Hidden, See, Talk}

-- the level that one fact gives to the id
abbrev pub level_by : Policy → Text → Fact → Level
level_by policy id (Owned name owner) = if bytes_eq owner id then level policy name else Hidden
level_by policy id (SelfId own) = if bytes_eq own id then Talk else Hidden
level_by policy id (Met peer) = if bytes_eq peer id then See else Hidden

-- the maximum over all facts
abbrev pub level_of_id : Policy → List Fact → Text → Level
level_of_id policy [] id = Hidden
level_of_id policy (fact ∷ facts) id = greater (level_by policy id fact) (level_of_id policy facts id)

-- the level of any text
unfoldable pub level_of : Policy → List Fact → Text → Level
level_of policy facts text =
    if is_well_known text then level policy text
    else (if is_unique text then level_of_id policy facts text else Hidden)

-- the entry covers a name that the id owned
abbrev pub covers_name_of : Entry → Text → Fact → Bool
covers_name_of entry id (Owned name owner) = bytes_eq owner id && covers entry.pattern name
covers_name_of entry id (SelfId own) = false
covers_name_of entry id (Met peer) = false

abbrev pub applies_to : List Fact → Text → Entry → Bool
applies_to facts text entry = covers entry.pattern text || list_any (covers_name_of entry text) facts

-- the numbers, from the given one, of the entries that pass the test
abbrev pub numbers_where : (Entry → Bool) → ℕ → List Entry → List ℕ
numbers_where test n [] = []
numbers_where test n (e ∷ es) = if test e then n ∷ numbers_where test (n + 1) es else numbers_where test (n + 1) es

-- the entries that cover the text or a name that it owned, ascending
unfoldable pub entries : Policy → List Fact → Text → List ℕ
entries policy facts text = numbers_where (applies_to facts text) 1 policy.entries
