-- The elements that entries name, and an element that they don't name.
use Rattle.std.specs.Prelude.{◌≡◌, ◌<◌, ◌^◌, true, false, ℕ, zero, suc, ◌+◌, List, [], ◌++◌, length, flat_map, codes, decimal, Option, Some, None, bytes_eq, Bool, if◌then◌else◌}
use Rattle.std.specs.List.{list_any}
use Rattle.dbus_names.specs.Names.{parts_at}
use Rattle.dbus_names.specs.Texts.{Text}
use Rattle.policy_args.specs.declared.entry.Entry.{Entry}
use Rattle.policy_args.specs.declared.entry.Grant.{Grant}
use Rattle.policy_args.specs.declared.entry.Grant.TheVariants.{See as to_see, Talk as to_talk, Own as to_own, Call as to_call, Broadcast as to_broadcast, Property as to_property}

-- ---- elements

-- the elements of a part of a rule, none if the rule names no such part
abbrev pub parts_in : ℕ → Option Text → List Text
parts_in separator None = []
parts_in separator (Some text) = parts_at separator text

abbrev pub rule_elements : Option Text → Option Text → Option Text → List Text
rule_elements interface member path = parts_in 46 interface ++ parts_in 46 member ++ parts_in 47 path

abbrev pub grant_elements : Grant → List Text
grant_elements to_see = []
grant_elements to_talk = []
grant_elements to_own = []
grant_elements (to_call r) = rule_elements r.interface r.member r.path
grant_elements (to_broadcast r) = rule_elements r.interface r.member r.path
grant_elements (to_property r) = rule_elements (Some r.interface) r.property r.path

abbrev pub entry_elements : Entry → List Text
entry_elements e = parts_at 46 e.pattern.name ++ grant_elements e.grant

-- the elements of all names, interfaces, members, properties and paths
abbrev pub elements : List Entry → List Text
elements entries = flat_map entry_elements entries

-- ---- the first of z0, z1 .. that is no element

abbrev pub is_among : List Text → Text → Bool
is_among texts text = list_any (bytes_eq text) texts

abbrev pub z_word : ℕ → Text
z_word k = codes "z" ++ decimal k

-- the first of z0, z1 .. that is none of these elements
pub record IsFirstFree (taken : List Text) (word : Text) : Type 0 where
  pub number : ℕ
  pub small : number < 2 ^ 64
  pub is : word ≡ z_word number
  pub free : is_among taken word ≡ false
  pub below : (k : ℕ) → k < number → is_among taken (z_word k) ≡ true

-- the first from zK on that isn't taken, of at most this many words and one more
abbrev pub fresh_from : ℕ → ℕ → List Text → Text
fresh_from zero k taken = z_word k
fresh_from (suc more) k taken = if is_among taken (z_word k) then fresh_from more (k + 1) taken else z_word k

-- At least one of the words is no element, since there is one word more than there are elements.
unfoldable pub fresh : List Entry → Text
fresh entries = fresh_from (length (elements entries)) 0 (elements entries)
