-- The entry that each request needs alone, and requests that are kept once.
use Rattle.std.specs.Prelude.{Bool, true, List, [], ◌∷◌, ◌++◌, Option, Some, None, bytes_eq, if◌then◌else◌}
use Rattle.std.specs.List.{list_any}
use Rattle.dbus_names.specs.Texts.{Text}
use Rattle.policy_args.specs.Policy.{entry_word}
use Rattle.policy_args.specs.Requests.{asked_name}
use Rattle.policy_args.specs.declared.entry.Entry.{Entry}
use Rattle.policy_args.specs.declared.entry.Grant.{Grant}
use Rattle.policy_args.specs.declared.entry.Grant.TheVariants.{See as to_see, Talk as to_talk, Own as to_own, Call as to_call}
use Rattle.policy_args.specs.declared.requests.Asked.{Asked}
use Rattle.policy_args.specs.declared.requests.Asked.TheVariants.{Call, Signal, Own, Owner, Broadcast, Property}
use Rattle.policy_suggest.specs.AskedBy.{asked_by}
use Rattle.policy_suggest.specs.Suggest.{of_method, rule_for}
use Rattle.policy_view.specs.Notes.{Note}

-- ---- the entry that a request needs alone

abbrev pub need_grant : Asked → Grant
need_grant (Call name path interface member) = to_call (rule_for (of_method name path interface member))
need_grant (Signal name) = to_talk
need_grant (Own name) = to_own
need_grant (Owner name) = to_see
need_grant (Broadcast name path interface member) = to_see
need_grant (Property name path interface access) = to_see

abbrev pub need : Asked → Entry
need a = record { pattern = record { name = asked_name a; exact = true }; grant = need_grant a }

abbrev pub need_word : Asked → Text
need_word a = entry_word (need a)

-- ---- requests that are kept once: of those that need the same entry the first

abbrev pub is_kept : List Asked → Asked → Bool
is_kept kept a = list_any (λ b. bytes_eq (need_word a) (need_word b)) kept

abbrev pub with_request : List Asked → Asked → List Asked
with_request kept a = if is_kept kept a then kept else kept ++ a ∷ []

abbrev pub with_requests : List Asked → List Asked → List Asked
with_requests kept [] = kept
with_requests kept (a ∷ all) = with_requests (with_request kept a) all

abbrev pub once : List Asked → List Asked
once all = with_requests [] all

-- ---- the requests in notes

abbrev pub listed : Option Asked → List Asked
listed None = []
listed (Some a) = a ∷ []

abbrev pub asked_in_notes : List Note → List Asked
asked_in_notes [] = []
asked_in_notes (note ∷ notes) = listed (asked_by note) ++ asked_in_notes notes
