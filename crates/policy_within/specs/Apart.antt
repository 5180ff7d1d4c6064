-- An element that entries don't name, in the form of an element of a name and of a path.
use Rattle.std.specs.Prelude.{◌≡◌, ℕ, Bool, true, false, not, nat_eq, List, ◌∷◌, drop, Option, Some, None}
use Rattle.std.specs.List.{list_all}
use Rattle.dbus_names.specs.Names.{is_bus_element, is_empty}
use Rattle.dbus_names.specs.Texts.{Text}
use Rattle.name_patterns.specs.Patterns.{is_pattern}
use Rattle.policy_args.specs.declared.entry.Entry.{Entry}
use Rattle.policy_args.specs.declared.entry.Grant.{Grant}
use Rattle.policy_args.specs.declared.entry.Grant.TheVariants.{See as to_see, Talk as to_talk, Own as to_own, Call as to_call, Broadcast as to_broadcast, Property as to_property}
use Rattle.policy_within.specs.Elements.{elements, is_among}

-- the separator doesn't occur in the text
abbrev pub lacks : ℕ → Text → Bool
lacks separator text = list_all (λ c. not (nat_eq c separator)) text

-- an element of a name that begins with `z`
pub record IsPlain (f : Text) : Type 0 where
  pub no_dot : lacks 46 f ≡ true
  pub no_slash : lacks 47 f ≡ true
  pub element : is_bus_element f ≡ true
  pub first : f ≡ 122 ∷ drop 1 f

-- the path of a rule, if it names one, isn't empty
abbrev pub is_rooted : Option Text → Bool
is_rooted None = true
is_rooted (Some path) = not (is_empty path)

abbrev pub has_rooted : Grant → Bool
has_rooted to_see = true
has_rooted to_talk = true
has_rooted to_own = true
has_rooted (to_call r) = is_rooted r.path
has_rooted (to_broadcast r) = is_rooted r.path
has_rooted (to_property r) = is_rooted r.path

abbrev pub are_rooted : List Entry → Bool
are_rooted entries = list_all (λ (e : Entry). has_rooted e.grant) entries

abbrev pub are_patterns : List Entry → Bool
are_patterns entries = list_all (λ (e : Entry). is_pattern e.pattern) entries

-- it is no element of the entries, whose paths aren't empty
pub record IsApart (f : Text) (entries : List Entry) : Type 0 where
  pub plain : IsPlain f
  pub free : is_among (elements entries) f ≡ false
  pub rooted : are_rooted entries ≡ true
