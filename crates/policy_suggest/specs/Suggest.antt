-- The least policy that permits requests.
use Rattle.std.specs.Prelude.{Bool, true, false, ◌&&◌, ◌||◌, List, [], ◌∷◌, ◌++◌, map, flat_map, Option, Some, None, is_none, bytes_eq, if◌then◌else◌}
use Rattle.std.specs.BTreeSet.{insert_key}
use Rattle.std.specs.Cmp.Lexicographic.{slice_cmp}
use Rattle.std.specs.List.{list_any}
use Rattle.std.specs.Ordering.{nat_cmp, ordering_then}
use Rattle.std.specs.declared.cmp.Ordering.{Ordering}
use Rattle.call_rules.specs.Rules.{Rule}
use Rattle.dbus_names.specs.Names.{is_empty, is_interface, is_member, is_path}
use Rattle.dbus_names.specs.Texts.{Text}
use Rattle.policy_args.specs.Policy.{InGrammar, Policy, policy_of}
use Rattle.policy_args.specs.Requests.{asked_name}
use Rattle.policy_args.specs.Words.{PolicyOptions}
use Rattle.policy_args.specs.declared.entry.Entry.{Entry}
use Rattle.policy_args.specs.declared.entry.Grant.{Grant}
use Rattle.policy_args.specs.declared.entry.Grant.TheVariants.{See as to_see, Talk as to_talk, Own as to_own, Call as to_call}
use Rattle.policy_args.specs.declared.requests.Asked.{Asked}
use Rattle.policy_args.specs.declared.requests.Asked.TheVariants.{Call, Signal, Own, Owner, Broadcast, Property}
use Rattle.policy_suggest.specs.AskedBy.{is_peer}

-- ---- the requests

abbrev pub is_interface_or_none : Option Text → Bool
is_interface_or_none None = true
is_interface_or_none (Some interface) = is_interface interface

-- a request that a message can make of a well-known name other than the bus's own
abbrev pub is_asked : Asked → Bool
is_asked (Call name path interface member) = is_peer name && is_path path && is_interface_or_none interface && is_member member
is_asked (Signal name) = is_peer name
is_asked (Own name) = is_peer name
is_asked (Owner name) = is_peer name
is_asked (Broadcast name path interface member) = false
is_asked (Property name path interface access) = false

abbrev pub asks_own : Text → Asked → Bool
asks_own name (Own n) = bytes_eq n name
asks_own name _ = false

abbrev pub asks_signal : Text → Asked → Bool
asks_signal name (Signal n) = bytes_eq n name
asks_signal name _ = false

abbrev pub asks_call : Text → Asked → Bool
asks_call name (Call n path interface member) = bytes_eq n name
asks_call name _ = false

-- a call at the path that names no interface
abbrev pub asks_any_interface : Text → Text → Asked → Bool
asks_any_interface name path (Call n p interface member) = bytes_eq n name && bytes_eq p path && is_none interface
asks_any_interface name path _ = false

-- ---- what entries are for

-- A name, and for an entry with a rule a path, and for a rule of one method the method too. A part that is absent is
-- empty.
pub record Target : Type 0 where
  pub name : Text
  pub path : Text
  pub interface : Text
  pub member : Text

abbrev pub of_name : Text → Target
of_name name = record { name = name; path = []; interface = []; member = [] }

abbrev pub of_path : Text → Text → Target
of_path name path = record { name = name; path = path; interface = []; member = [] }

abbrev pub of_method : Text → Text → Option Text → Text → Target
of_method name path None member = of_path name path
of_method name path (Some interface) member = record { name = name; path = path; interface = interface; member = member }

-- one entry is enough for the name
abbrev pub has_level : List Asked → Text → Bool
has_level all name = list_any (asks_own name) all || list_any (asks_signal name) all

-- the entry that a request needs where its name has neither Own nor Signal: none for the owner of a name that is called
abbrev pub ruled_targets : List Asked → Asked → List Target
ruled_targets all (Call name path interface member) =
    (if list_any (asks_any_interface name path) all then of_path name path else of_method name path interface member) ∷ []
ruled_targets all asked = if list_any (asks_call (asked_name asked)) all then [] else of_name (asked_name asked) ∷ []

abbrev pub targets : List Asked → Asked → List Target
targets all asked = if has_level all (asked_name asked) then of_name (asked_name asked) ∷ [] else ruled_targets all asked

-- ---- their order

abbrev pub compare_texts : Text → Text → Ordering
compare_texts a b = slice_cmp nat_cmp a b

-- by name, then by path, then by interface, then by member
abbrev pub compare : Target → Target → Ordering
compare a b =
    ordering_then (compare_texts a.name b.name) (ordering_then (compare_texts a.path b.path) (ordering_then (compare_texts a.interface b.interface) (compare_texts a.member b.member)))

abbrev pub with_targets : List Target → List Target → List Target
with_targets before [] = before
with_targets before (t ∷ ts) = with_targets (insert_key compare before t) ts

-- in order, each once
abbrev pub in_order : List Target → List Target
in_order ts = with_targets [] ts

-- ---- the policy

abbrev pub method_rule : Text → Text → Text → Rule
method_rule path interface member =
    record { text = interface ++ 46 ∷ member ++ 64 ∷ path; interface = Some interface; member = Some member; path = Some path; below = false }

abbrev pub path_rule : Text → Rule
path_rule path = record { text = 64 ∷ path; interface = None; member = None; path = Some path; below = false }

abbrev pub rule_for : Target → Rule
rule_for t = if is_empty t.interface then path_rule t.path else method_rule t.path t.interface t.member

abbrev pub grant_for : List Asked → Target → Grant
grant_for all t =
    if list_any (asks_own t.name) all then to_own
    else (if list_any (asks_signal t.name) all then to_talk
    else (if is_empty t.path then to_see else to_call (rule_for t)))

abbrev pub entry_for : List Asked → Target → Entry
entry_for all t = record { pattern = record { name = t.name; exact = true }; grant = grant_for all t }

-- An entry that each request needs beside the others, in order, each once.
abbrev pub entries_for : List Asked → List Entry
entries_for all = map (entry_for all) (in_order (flat_map (targets all) all))

unfoldable pub suggested : List Asked → Policy
suggested all = policy_of (entries_for all)

-- the options that ask for the filter and give a policy
abbrev pub filtered : Policy → PolicyOptions
filtered policy = record { filter = true; log = false; policy = policy }

-- ---- policies of words

-- each entry is one that a word can give
abbrev pub AreInGrammar : List Entry → Type 0
AreInGrammar [] = Unit {0}
AreInGrammar (e ∷ es) = InGrammar e × AreInGrammar es
