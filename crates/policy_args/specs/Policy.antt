-- The policy: levels, entries, and the level that entries give a name.
use Rattle.std.specs.Prelude.{◌≡◌, ◌⊎◌, ℕ, zero, suc, Bool, true, false, not, ◌&&◌, List, [], ◌∷◌, ◌++◌, codes, Option, Some, None, slice_get, if◌then◌else◌, bytes_eq}
use Rattle.std.specs.List.{list_any}
use Rattle.dbus_names.specs.Names.{is_bus}
use Rattle.name_patterns.specs.Patterns.{Pattern, covers, pattern_text, is_pattern}
use Rattle.call_rules.specs.Properties.{PropertyRule, property_rule_of}
use Rattle.call_rules.specs.Rules.{Rule, rule_of}
use Rattle.policy_args.specs.declared.Level.{Level}
use Rattle.policy_args.specs.declared.Level.TheVariants.{None as NoLevel, See, Talk, Own}
use Rattle.policy_args.specs.declared.entry.Grant.{Grant}
use Rattle.policy_args.specs.declared.entry.Grant.TheVariants.{See as to_see, Talk as to_talk, Own as to_own, Call as to_call, Broadcast as to_broadcast, Property as to_property}
use Rattle.policy_args.specs.declared.entry.Entry.{Entry}

-- ---- levels

-- the first level is no greater than the second
abbrev pub at_least : Level → Level → Bool
at_least NoLevel given = true
at_least wanted NoLevel = false
at_least See given = true
at_least wanted See = false
at_least Talk given = true
at_least Own Talk = false
at_least Own Own = true

abbrev pub greater : Level → Level → Level
greater NoLevel b = b
greater a NoLevel = a
greater See b = b
greater a See = a
greater Talk b = b
greater Own b = Own

-- ---- entries

abbrev pub given_by : Grant → Level
given_by to_see = See
given_by to_talk = Talk
given_by to_own = Own
given_by (to_call r) = See
given_by (to_broadcast r) = See
given_by (to_property r) = See

-- the word of the entry
abbrev pub entry_word_by : List ℕ → Grant → List ℕ
entry_word_by name to_see = codes "--see=" ++ name
entry_word_by name to_talk = codes "--talk=" ++ name
entry_word_by name to_own = codes "--own=" ++ name
entry_word_by name (to_call r) = codes "--call=" ++ name ++ 61 ∷ r.text
entry_word_by name (to_broadcast r) = codes "--broadcast=" ++ name ++ 61 ∷ r.text
entry_word_by name (to_property r) = codes "--property=" ++ name ++ 61 ∷ r.text

abbrev pub entry_word : Entry → List ℕ
entry_word e = entry_word_by (pattern_text e.pattern) e.grant

-- an entry that a word can give: its name is in the grammar, and its rule is what the rule's text says
pub record InGrammar (e : Entry) : Type 0 where
  pub pattern : is_pattern e.pattern ≡ true
  pub rule : (r : Rule) → (e.grant ≡ to_call r) ⊎ (e.grant ≡ to_broadcast r) → rule_of r.text ≡ Some r
  pub property_rule : (r : PropertyRule) → e.grant ≡ to_property r → property_rule_of r.text ≡ Some r

abbrev pub is_given : List Entry → Entry → Bool
is_given entries e = list_any (λ other. bytes_eq (entry_word other) (entry_word e)) entries

-- the entries, each once, in the order of their first words
abbrev pub with_entry : List Entry → Entry → List Entry
with_entry entries e = if is_given entries e then entries else entries ++ e ∷ []

-- the entry with a number, from 1
abbrev pub entry_at : List Entry → ℕ → Option Entry
entry_at entries zero = None
entry_at entries (suc n) = slice_get entries n

-- ---- patterns

abbrev pub same_pattern : Pattern → Pattern → Bool
same_pattern a b = bytes_eq a.name b.name && (if a.exact then b.exact else not b.exact)

-- one more pattern, unless it is there already
abbrev pub with_pattern : List Pattern → Pattern → List Pattern
with_pattern patterns p = if list_any (same_pattern p) patterns then patterns else patterns ++ p ∷ []

abbrev pub patterns_with : List Pattern → List Entry → List Pattern
patterns_with patterns [] = patterns
patterns_with patterns (e ∷ es) = patterns_with (with_pattern patterns e.pattern) es

-- the patterns of the entries, each once, in the order of their first entries
unfoldable pub patterns_of : List Entry → List Pattern
patterns_of entries = patterns_with [] entries

-- ---- policies

-- What contracts see of a policy.
pub record Policy : Type 0 where
  pub entries : List Entry
  -- owner changes of all unique names are shown; this changes no level
  pub sloppy : Bool
  -- a message of the client with a header field of an unknown code is refused
  pub known_fields : Bool
  -- a name at See that a Call entry covers may be started; this changes no level
  pub start_called : Bool

abbrev pub policy_with : List Entry → Bool → Bool → Bool → Policy
policy_with entries sloppy known_fields start_called = record { entries = entries; sloppy = sloppy; known_fields = known_fields; start_called = start_called }

-- the policy with these entries and nothing else
abbrev pub policy_of : List Entry → Policy
policy_of entries = policy_with entries false false false

-- the greatest level that a covering entry gives the name
abbrev pub granted : List Entry → List ℕ → Level
granted [] name = NoLevel
granted (e ∷ es) name = if covers e.pattern name then greater (given_by e.grant) (granted es name) else granted es name

-- the level of a name; the bus itself may always be talked to
unfoldable pub level : Policy → List ℕ → Level
level policy name = if is_bus name then greater Talk (granted policy.entries name) else granted policy.entries name
