-- The record of a session's past: what was sent to the bus and learned from it, as lists that only grow.
use Rattle.std.specs.Prelude.{ℕ, zero, suc, ◌+◌, ◌-◌, nat_eq, ◌==◌, Bool, true, false, ◌&&◌, ◌||◌, not, List, [], ◌∷◌, ◌++◌, flat_map, filter, count_by, if◌then◌else◌, Option, Some, None, option_map, slice_get, codes}
use Rattle.std.specs.Str.{bytes_eq}
use Rattle.std.specs.List.{list_any}
use Rattle.policy_view.specs.Texts.{has_text, only_if}
use Rattle.dbus_names.specs.Texts.{Text}
use Rattle.dbus_header.specs.Message.{Message, interface, member, destination, with_serial, spell}
use Rattle.dbus_header.specs.Kinds.{expects_reply}
use Rattle.name_patterns.specs.Patterns.{Pattern, covers}
use Rattle.policy_args.specs.Policy.{Policy, patterns_of}
use Rattle.dbus_names.specs.Names.{is_bus, is_well_known}
use Rattle.policy_args.specs.declared.entry.Entry.{Entry}
use Rattle.policy_args.specs.declared.fact.Fact.{Fact}
use Rattle.policy_view.specs.Own.{ping, add_match, get_owner, list_names}
use Rattle.dbus_header.specs.declared.Instead.{Instead}
use Rattle.reply_ledger.specs.declared.kind.Kind.{Kind as Expected}
use Rattle.reply_ledger.specs.declared.kind.Kind.TheVariants as expects

-- absent, or the bus's own name
abbrev pub is_bus_or_absent : Option Text → Bool
is_bus_or_absent None = true
is_bus_or_absent (Some name) = is_bus name

-- a call to the bus with this member, which the table of the bus's members judges
abbrev pub is_bus_member : Text → Message → Bool
is_bus_member name m =
    m.kind == 1 && is_bus_or_absent (destination m) && is_bus_or_absent (interface m) && has_text (member m) name

unfoldable pub is_hello : Message → Bool
is_hello m = is_bus_member (codes "Hello") m

-- it asks the bus for a list of names
unfoldable pub asks_names : Message → Bool
asks_names m = is_bus_member (codes "ListNames") m || is_bus_member (codes "ListActivatableNames") m

-- A message that was sent to the bus, by its origin: a message of the client that passed, the ping for a refused
-- message of the client, or a call of the proxy's own. Its serial is its place among the sent messages.
pub data Sent : Type 0 where
  Passed : (request : Message) → Sent
  Pinged : (request : Message) (what : Instead) → Sent
  OwnMatch : (pattern : Pattern) → Sent
  OwnOwner : (name : Text) → Sent
  OwnNames : Sent

abbrev pub message_of : Sent → Message
message_of (Passed request) = request
message_of (Pinged request what) = ping
message_of (OwnMatch pattern) = add_match pattern
message_of (OwnOwner name) = get_owner name
message_of OwnNames = list_names

-- it is a call, and its sender wants an answer
abbrev pub expects_answer : Sent → Bool
expects_answer (Passed request) = request.kind == 1 && expects_reply request
expects_answer (Pinged request what) = true
expects_answer (OwnMatch pattern) = true
expects_answer (OwnOwner name) = true
expects_answer OwnNames = true

-- what its answer is used for
abbrev pub expected_of : Sent → Expected
expected_of (Passed request) =
    if is_hello request then expects.Hello request.serial
    else (if asks_names request then expects.Names request.serial else expects.Call request.serial)
expected_of (Pinged request what) = expects.Ping request.serial request.order what
expected_of (OwnMatch pattern) = expects.OwnMatch
expected_of (OwnOwner name) = expects.OwnOwner name
expected_of OwnNames = expects.OwnNames

-- the spellings, the first with serial n
abbrev pub spelled_from : ℕ → List Sent → List ℕ
spelled_from n [] = []
spelled_from n (s ∷ rest) = spell (with_serial n (message_of s)) ++ spelled_from (n + 1) rest

-- a peer and a serial
pub record Exchange : Type 0 where
  pub peer : Option Text
  pub number : ℕ

abbrev pub same_text : Option Text → Option Text → Bool
same_text None other = false
same_text (Some text) None = false
same_text (Some text) (Some other) = bytes_eq text other

-- an absent name equals no text
abbrev pub is_same : Exchange → Exchange → Bool
is_same a b = same_text a.peer b.peer && a.number == b.number

-- What is known from the items before, in their order: the facts, the sent messages, the bus's calls that want a reply,
-- and the client's replies that passed.
pub record Told : Type 0 where
  pub facts : List Fact
  pub sent : List Sent
  pub called : List Exchange
  pub replied : List Exchange

-- that record, and the places in `sent` that the bus's returns and errors used up
pub record Past : Type 0 where
  pub told : Told
  pub used : List ℕ

unfoldable pub nothing_before : Past
nothing_before = record { told = record { facts = []; sent = []; called = []; replied = [] }; used = [] }

-- the number of replies that are owed to a peer for a serial
unfoldable pub owed : Told → Exchange → ℕ
owed told to = count_by (is_same to) told.called - count_by (is_same to) told.replied

-- the sent message of a serial, from 1
abbrev pub sent_at : List Sent → ℕ → Option Sent
sent_at sent zero = None
sent_at sent (suc n) = slice_get sent n

abbrev pub if_expected : Option Sent → Option Sent
if_expected None = None
if_expected (Some s) = if expects_answer s then Some s else None

-- the sent call with this serial, if its answer is wanted, used up or not
unfoldable pub call_at : Told → Option ℕ → Option Sent
call_at told None = None
call_at told (Some r) = if_expected (sent_at told.sent r)

-- the place of this REPLY_SERIAL was used up
abbrev pub is_used : List ℕ → Option ℕ → Bool
is_used used None = false
is_used used (Some r) = list_any (nat_eq r) used

-- what the answer with this REPLY_SERIAL is used for, unless its place was used up
unfoldable pub answered : Past → Option ℕ → Option Expected
answered before r = if is_used before.used r then None else option_map expected_of (call_at before.told r)

-- the proxy's own calls that find who owns the names of a pattern
abbrev pub calls_for : Pattern → List Sent
calls_for p = OwnMatch p ∷ only_if p.exact (OwnOwner p.name)

abbrev pub is_subtree : Entry → Bool
is_subtree e = not e.pattern.exact

-- the calls right after the first passed Hello
unfoldable pub own_calls : Policy → List Sent
own_calls policy = flat_map calls_for (patterns_of policy.entries) ++ only_if (list_any is_subtree policy.entries) OwnNames

-- a well-known name that a subtree covers and no exact pattern names
abbrev pub is_asked : Policy → Text → Bool
is_asked policy name =
    is_well_known name
    && list_any (λ e. is_subtree e && covers e.pattern name) policy.entries
    && not (list_any (λ e. e.pattern.exact && bytes_eq e.pattern.name name) policy.entries)

unfoldable pub asked : Policy → List Text → List Text
asked policy names = filter (is_asked policy) names

abbrev pub is_passed_hello : Sent → Bool
is_passed_hello (Passed request) = is_hello request
is_passed_hello (Pinged request what) = false
is_passed_hello (OwnMatch pattern) = false
is_passed_hello (OwnOwner name) = false
is_passed_hello OwnNames = false
