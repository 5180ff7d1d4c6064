-- What each item adds to the past: the messages that are due, the facts, the calls and replies, and the answers used
-- up.
use Rattle.std.specs.Prelude.{ℕ, nat_le, Bool, ◌&&◌, not, List, [], ◌∷◌, ◌++◌, length, map, if◌then◌else◌, Option, Some, None}
use Rattle.std.specs.List.{list_any}
use Rattle.dbus_names.specs.Texts.{Text}
use Rattle.dbus_header.specs.Message.{Message, sender, reply_serial, only_text, three_texts, text_list}
use Rattle.dbus_names.specs.Names.{is_unique, is_well_known}
use Rattle.name_patterns.specs.Patterns.{covers}
use Rattle.policy_args.specs.Policy.{Policy}
use Rattle.policy_args.specs.declared.fact.Fact.TheVariants.{Owned, SelfId, Met}
use Rattle.policy_args.specs.declared.fact.Fact.{Fact}
use Rattle.policy_view.specs.Sent.{Past, Told, Exchange, nothing_before, Sent, Passed, Pinged, OwnOwner, own_calls, is_passed_hello, is_hello, answered, asked}
use Rattle.policy_view.specs.Knowledge.{knowledge}
use Rattle.dbus_header.specs.Kinds.{Kind, Call, Return, Error, Signal, Other, kind_of, expects_reply}
use Rattle.policy_view.specs.Verdicts.{ClientRole, Reply, client_role, verdict, reply_to}
use Rattle.policy_view.specs.Shown.{BusRole, NoRole, Unexpected, MatchAnswer, OwnerAnswer, NamesAnswer, PingAnswer, NameList, HelloAnswer, OtherAnswer, CallIn, OwnerChange, SignalIn, BroadcastIn, bus_role}
use Rattle.policy_view.specs.declared.Side.{Side}
use Rattle.policy_view.specs.declared.Side.TheVariants.{Client, Bus}
use Rattle.policy_view.specs.declared.Verdict.{Verdict}
use Rattle.policy_view.specs.declared.Verdict.TheVariants.{Pass, Ping, Drop}
use Rattle.policy_view.specs.declared.End.{End}

-- what a session's history holds: lines of the authentication protocol, messages, raw bytes that aren't read, and the
-- End
pub data Item : Type 0 where
  Line : (side : Side) (bytes : List ℕ) → Item
  Msg : (side : Side) (message : Message) → Item
  Raw : (side : Side) (bytes : List ℕ) → Item
  Ended : (end : End) → Item

-- The newest item or event is first in its list: `item ∷ before` is an item and the items before it.
abbrev pub History : Type 0
History = List Item

-- a Hello has passed
abbrev pub has_greeted : List Sent → Bool
has_greeted sent = list_any is_passed_hello sent

-- the first Hello that passes is followed by the proxy's own calls
abbrev pub due_on : Policy → Bool → Message → Verdict → List Sent
due_on policy greeted m Pass = Passed m ∷ (if is_hello m && not greeted then own_calls policy else [])
due_on policy greeted m (Ping what reason) = Pinged m what ∷ []
due_on policy greeted m (Drop reason) = []

-- a reply that passes is no longer owed
abbrev pub replied_on : Message → ClientRole → Verdict → List Exchange
replied_on m Reply Pass = reply_to m ∷ []
replied_on m _ _ = []

-- what a client's message adds with its verdict
abbrev pub with_client : Policy → Message → Verdict → Told → Told
with_client policy m v told = record {
  facts = told.facts;
  sent = told.sent ++ due_on policy (has_greeted told.sent) m v;
  called = told.called;
  replied = told.replied ++ replied_on m (client_role m) v;
}

abbrev pub names_due : Policy → Option (List Text) → List Sent
names_due policy None = []
names_due policy (Some names) = map OwnOwner (asked policy names)

-- a return's body; an error's is none
abbrev pub if_return : {A : Type 0} → Kind → Option A → Option A
if_return Return body = body
if_return Call body = None
if_return Error body = None
if_return Signal body = None
if_return Other body = None

unfoldable pub returned_text : Message → Option Text
returned_text m = if_return (kind_of m) (only_text m)

unfoldable pub returned_names : Message → Option (List Text)
returned_names m = if_return (kind_of m) (text_list m)

-- the text, if it is a unique name
abbrev pub if_unique : Option Text → Option Text
if_unique None = None
if_unique (Some text) = if is_unique text then Some text else None

abbrev pub fact_of : (Text → Fact) → Option Text → List Fact
fact_of fact None = []
fact_of fact (Some text) = fact text ∷ []

abbrev pub is_covered : Policy → Text → Bool
is_covered policy name = is_well_known name && list_any (λ e. covers e.pattern name) policy.entries

-- the owner change of a covered name gives facts on both owners
abbrev pub owners_of : Policy → Option (Text × Text × Text) → List Fact
owners_of policy None = []
owners_of policy (Some texts) =
    if is_covered policy texts.0
    then fact_of (Owned texts.0) (if_unique (Some texts.1)) ++ fact_of (Owned texts.0) (if_unique (Some texts.2))
    else []

abbrev pub met_by : Message → List Fact
met_by m = fact_of Met (if_unique (sender m))

-- the facts that a bus message gives: a row for each role
abbrev pub learned_at : Policy → Message → BusRole → List Fact
learned_at policy m NoRole = []
learned_at policy m Unexpected = []
learned_at policy m MatchAnswer = []
learned_at policy m (OwnerAnswer name) = fact_of (Owned name) (if_unique (returned_text m))
learned_at policy m NamesAnswer = []
learned_at policy m (PingAnswer serial order what) = []
learned_at policy m (NameList serial) = []
learned_at policy m (HelloAnswer serial) = fact_of SelfId (if_unique (returned_text m))
learned_at policy m (OtherAnswer serial) = []
learned_at policy m CallIn = met_by m
learned_at policy m OwnerChange = owners_of policy (three_texts m)
learned_at policy m SignalIn = met_by m
learned_at policy m BroadcastIn = []

-- the messages that a bus message causes
abbrev pub due_at : Policy → Message → BusRole → List Sent
due_at policy m NamesAnswer = names_due policy (returned_names m)
due_at policy m _ = []

-- a call from the bus asks for a reply
abbrev pub called_at : Message → BusRole → List Exchange
called_at m CallIn = if expects_reply m then record { peer = sender m; number = m.serial } ∷ [] else []
called_at m _ = []

-- what a bus message adds in its role
abbrev pub with_bus : Policy → Message → BusRole → Told → Told
with_bus policy m role told = record {
  facts = told.facts ++ learned_at policy m role;
  sent = told.sent ++ due_at policy m role;
  called = told.called ++ called_at m role;
  replied = told.replied;
}

-- a return or an error uses up the place of its REPLY_SERIAL, if a message with that serial was sent
abbrev pub place_used : ℕ → Option ℕ → List ℕ
place_used count None = []
place_used count (Some r) = if nat_le r count then r ∷ [] else []

abbrev pub used_at : ℕ → Kind → Option ℕ → List ℕ
used_at count Return r = place_used count r
used_at count Error r = place_used count r
used_at count Call r = []
used_at count Signal r = []
used_at count Other r = []

unfoldable pub used_by : Past → Message → List ℕ
used_by before m = used_at (length before.told.sent) (kind_of m) (reply_serial m)

-- the verdict on a client's message, given what is known from the items before
unfoldable pub judged : Policy → Told → Message → Verdict
judged policy told m = verdict policy (knowledge policy told) m

-- the role of a bus message, given the call that it answers
unfoldable pub role : Past → Message → BusRole
role before m = bus_role (answered before (reply_serial m)) m

-- the past after an item
unfoldable pub after : Policy → Item → Past → Past
after policy (Msg Client m) before =
    record { told = with_client policy m (judged policy before.told m) before.told; used = before.used }
after policy (Msg Bus m) before =
    record { told = with_bus policy m (role before m) before.told; used = before.used ++ used_by before m }
after policy (Line side bytes) before = before
after policy (Raw side bytes) before = before
after policy (Ended end) before = before

-- the past of a history
unfoldable pub past : Policy → History → Past
past policy [] = nothing_before
past policy (item ∷ before) = after policy item (past policy before)

-- the messages that an item causes
unfoldable pub due : Policy → Past → Item → List Sent
due policy before (Msg Client m) = due_on policy (has_greeted before.told.sent) m (judged policy before.told m)
due policy before (Msg Bus m) = due_at policy m (role before m)
due policy before (Line side bytes) = []
due policy before (Raw side bytes) = []
due policy before (Ended end) = []
