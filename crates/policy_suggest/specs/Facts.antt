-- What is kept of the names in requests while the entries that they need are looked for.
use Rattle.std.specs.Prelude.{◌||◌, List, [], ◌∷◌, Option, Some, None, if◌then◌else◌}
use Rattle.std.specs.BTreeSet.{insert_key}
use Rattle.dbus_names.specs.Names.{is_empty}
use Rattle.dbus_names.specs.Texts.{Text}
use Rattle.policy_args.specs.Policy.{entry_word_by}
use Rattle.policy_args.specs.Requests.{asked_name}
use Rattle.policy_args.specs.declared.entry.Grant.{Grant}
use Rattle.policy_args.specs.declared.entry.Grant.TheVariants.{See as to_see, Talk as to_talk, Own as to_own, Call as to_call}
use Rattle.policy_args.specs.declared.requests.Asked.{Asked}
use Rattle.policy_args.specs.declared.requests.Asked.TheVariants.{Call, Signal, Own, Owner, Broadcast, Property}
use Rattle.policy_suggest.specs.Suggest.{Target, compare, of_method, of_name, of_path, rule_for, with_targets}
use Rattle.policy_suggest.specs.declared.facts.Facts.{Facts}
use Rattle.policy_suggest.specs.Seen.{has}

abbrev pub no_facts : Facts
no_facts = record { owned = []; signalled = []; called = []; opened = [] }

abbrev pub with_open : Facts → Text → Text → Option Text → Facts
with_open f name path None = record f { opened = insert_key compare f.opened (of_path name path) }
with_open f name path (Some interface) = f

abbrev pub with_called : Facts → Text → Facts
with_called f name = record f { called = insert_key compare f.called (of_name name) }

-- with what one request tells
abbrev pub noted : Facts → Asked → Facts
noted f (Call name path interface member) = with_called (with_open f name path interface) name
noted f (Signal name) = record f { signalled = insert_key compare f.signalled (of_name name) }
noted f (Own name) = record f { owned = insert_key compare f.owned (of_name name) }
noted f (Owner name) = f
noted f (Broadcast name path interface member) = f
noted f (Property name path interface access) = f

abbrev pub noted_all : Facts → List Asked → Facts
noted_all f [] = f
noted_all f (a ∷ all) = noted_all (noted f a) all

abbrev pub facts_of : List Asked → Facts
facts_of all = noted_all no_facts all

-- ---- the entry that a request needs

abbrev pub of_call : Facts → Text → Text → Option Text → Text → Target
of_call f name path interface member = if has f.opened (of_path name path) then of_path name path else of_method name path interface member

abbrev pub ruled_by : Facts → Asked → Option Target
ruled_by f (Call name path interface member) = Some (of_call f name path interface member)
ruled_by f asked = if has f.called (of_name (asked_name asked)) then None else Some (of_name (asked_name asked))

abbrev pub target_by : Facts → Asked → Option Target
target_by f asked =
    if has f.owned (of_name (asked_name asked)) || has f.signalled (of_name (asked_name asked)) then Some (of_name (asked_name asked)) else ruled_by f asked

abbrev pub some_of : Option Target → List Target
some_of None = []
some_of (Some t) = t ∷ []

-- what the entries that the requests need are for, added to what was there
abbrev pub gathered : Facts → List Target → List Asked → List Target
gathered f before [] = before
gathered f before (a ∷ asked) = gathered f (with_targets before (some_of (target_by f a))) asked

-- ---- the entry for a target

abbrev pub grant_by : Facts → Target → Grant
grant_by f t =
    if has f.owned (of_name t.name) then to_own
    else (if has f.signalled (of_name t.name) then to_talk
    else (if is_empty t.path then to_see else to_call (rule_for t)))

-- the word that gives it
abbrev pub word_by : Facts → Target → Text
word_by f t = entry_word_by t.name (grant_by f t)
