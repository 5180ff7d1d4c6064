-- Requests of a name, what a policy permits of them, and when a policy permits nothing that another doesn't.
use Rattle.std.specs.Prelude.{◌≡◌, Bool, true, false, not, ◌&&◌, ◌||◌, codes, Option, Some, None}
use Rattle.std.specs.List.{list_any}
use Rattle.call_rules.specs.Properties.{property_matches}
use Rattle.call_rules.specs.Rules.{matches}
use Rattle.dbus_names.specs.Names.{are_two_joined, is_bus, is_bus_element}
use Rattle.dbus_names.specs.Texts.{Text}
use Rattle.name_patterns.specs.Patterns.{covers}
use Rattle.policy_args.specs.Policy.{Policy, at_least, given_by, level}
use Rattle.policy_args.specs.declared.Level.{Level}
use Rattle.policy_args.specs.declared.Level.TheVariants.{See, Talk, Own}
use Rattle.policy_args.specs.declared.entry.Grant.{Grant}
use Rattle.policy_args.specs.declared.entry.Grant.TheVariants.{See as to_see, Talk as to_talk, Own as to_own, Call as to_call, Broadcast as to_broadcast, Property as to_property}
use Rattle.policy_args.specs.declared.entry.Entry.{Entry}
use Rattle.policy_args.specs.declared.requests.Asked.{Asked}
use Rattle.policy_args.specs.declared.requests.Asked.TheVariants.{Call, Signal, Own as OwnName, Owner, Broadcast, Property}
use Rattle.policy_args.specs.declared.requests.Access.{Access}
use Rattle.policy_args.specs.declared.requests.Access.TheVariants.{Get, Set, GetAll}

-- ---- rules

-- the grant's rule matches a call
abbrev pub calls : Text → Option Text → Text → Grant → Bool
calls path interface member to_see = false
calls path interface member to_talk = false
calls path interface member to_own = false
calls path interface member (to_call rule) = matches rule path interface member
calls path interface member (to_broadcast rule) = false
calls path interface member (to_property rule) = false

-- .. a broadcast
abbrev pub broadcasts : Text → Text → Text → Grant → Bool
broadcasts path interface member to_see = false
broadcasts path interface member to_talk = false
broadcasts path interface member to_own = false
broadcasts path interface member (to_call rule) = false
broadcasts path interface member (to_broadcast rule) = matches rule path (Some interface) member
broadcasts path interface member (to_property rule) = false

-- .. a request of a property, or of all properties of an interface if none is named
abbrev pub accesses : Text → Text → Option Text → Grant → Bool
accesses path interface property to_see = false
accesses path interface property to_talk = false
accesses path interface property to_own = false
accesses path interface property (to_call rule) = false
accesses path interface property (to_broadcast rule) = false
accesses path interface property (to_property rule) = property_matches rule path interface property

-- an entry that covers the name has a grant that passes the test
abbrev pub has_entry : Policy → Text → (Grant → Bool) → Bool
has_entry policy name test = list_any (λ (e : Entry). covers e.pattern name && test e.grant) policy.entries

-- ---- requests of properties

abbrev pub properties_interface : Text
properties_interface = codes "org.freedesktop.DBus.Properties"

-- the method that is called
abbrev pub access_member : Access → Text
access_member (Get property) = codes "Get"
access_member (Set property) = codes "Set"
access_member GetAll = codes "GetAll"

-- the property that is named
abbrev pub access_property : Access → Option Text
access_property (Get property) = Some property
access_property (Set property) = Some property
access_property GetAll = None

-- ---- what is permitted

abbrev pub may_call : Policy → Text → Text → Option Text → Text → Bool
may_call policy name path interface member = at_least Talk (level policy name) || has_entry policy name (calls path interface member)

-- An entry that covers a name gives it at least the level See, so a matching rule needs no level besides.
unfoldable pub permits : Policy → Asked → Bool
permits policy (Call name path interface member) = may_call policy name path interface member
permits policy (Signal name) = at_least Talk (level policy name)
permits policy (OwnName name) = at_least Own (level policy name)
permits policy (Owner name) = at_least See (level policy name)
permits policy (Broadcast name path interface member) = at_least Talk (level policy name) || has_entry policy name (broadcasts path interface member)
permits policy (Property name path interface access) =
    may_call policy name path (Some properties_interface) (access_member access) || has_entry policy name (accesses path interface (access_property access))

-- ---- what one grant permits of the names that its entry covers

-- the level that permits the request without a rule
abbrev pub level_asked : Asked → Level
level_asked (Call name path interface member) = Talk
level_asked (Signal name) = Talk
level_asked (OwnName name) = Own
level_asked (Owner name) = See
level_asked (Broadcast name path interface member) = Talk
level_asked (Property name path interface access) = Talk

-- the grant's rule matches the request, or the call by which it is made
abbrev pub rule_matches : Asked → Grant → Bool
rule_matches (Call name path interface member) grant = calls path interface member grant
rule_matches (Signal name) grant = false
rule_matches (OwnName name) grant = false
rule_matches (Owner name) grant = false
rule_matches (Broadcast name path interface member) grant = broadcasts path interface member grant
rule_matches (Property name path interface access) grant =
    calls path (Some properties_interface) (access_member access) grant || accesses path interface (access_property access) grant

abbrev pub grant_permits : Grant → Asked → Bool
grant_permits grant asked = at_least (level_asked asked) (given_by grant) || rule_matches asked grant

-- ---- requests

abbrev pub asked_name : Asked → Text
asked_name (Call name path interface member) = name
asked_name (Signal name) = name
asked_name (OwnName name) = name
asked_name (Owner name) = name
asked_name (Broadcast name path interface member) = name
asked_name (Property name path interface access) = name

-- The name is in the grammar of well-known names, of any length, and isn't the bus's own: a request to the bus itself
-- is judged by the bus's members.
abbrev pub is_request : Asked → Bool
is_request asked = are_two_joined is_bus_element (asked_name asked) && not (is_bus (asked_name asked))

-- everything that one policy permits the other permits
abbrev pub Within : Policy → Policy → Type 0
Within a b = (asked : Asked) → is_request asked ≡ true → permits a asked ≡ true → permits b asked ≡ true
