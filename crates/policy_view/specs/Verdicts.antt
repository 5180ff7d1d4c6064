-- The verdict on a client's message: the role that the message has by its own contents, and a row for each role.
use Rattle.std.specs.Prelude.{ℕ, nat_lt, Bool, true, false, ◌&&◌, ◌||◌, List, [], ◌∷◌, if◌then◌else◌, Option, Some, None, codes, find}
use Rattle.std.specs.Str.{bytes_eq}
use Rattle.std.specs.List.{list_any}
use Rattle.policy_view.specs.Properties.{PropertyRequest, permits, properties_interface, property_request}
use Rattle.policy_view.specs.Texts.{is_one_of, stands_in, matches}
use Rattle.dbus_names.specs.Texts.{Text}
use Rattle.dbus_header.specs.Message.{Message, path, interface, member, destination, reply_serial, first_text, has_unknown_field}
use Rattle.policy_args.specs.declared.entry.Grant.{Grant}
use Rattle.policy_args.specs.declared.entry.Grant.TheVariants.{See as to_see, Talk as to_talk, Own as to_own, Call as to_call, Broadcast as to_broadcast, Property as to_property}
use Rattle.policy_args.specs.declared.entry.Entry.{Entry}
use Rattle.policy_args.specs.Policy.{Policy, at_least, entry_at}
use Rattle.dbus_names.specs.Names.{is_bus, is_unique}
use Rattle.policy_view.specs.Sent.{Exchange}
use Rattle.policy_view.specs.Knowledge.{Knowledge}
use Rattle.dbus_header.specs.Kinds.{Kind, Call, Return, Error, Signal, Other, kind_of, expects_reply, forbids_auto_start}
use Rattle.policy_args.specs.declared.Level.{Level}
use Rattle.policy_args.specs.declared.Level.TheVariants.{None as Hidden, See, Talk, Own}
use Rattle.dbus_header.specs.declared.Instead.{Instead}
use Rattle.dbus_header.specs.declared.Instead.TheVariants.{AccessDenied, NameHasNoOwner, ServiceUnknown, False}
use Rattle.policy_view.specs.declared.Reason.{Reason}
use Rattle.policy_view.specs.declared.Reason.TheVariants.{NotVisible, OnlySee, NoRule, BusMember, BusInterface, ArgNotVisible, ArgNotTalk, ArgNotOwn, Eavesdrop, NotOutstanding, UnknownType, BadArgument, UnknownField}
use Rattle.policy_view.specs.declared.Verdict.{Verdict}
use Rattle.policy_view.specs.declared.Verdict.TheVariants.{Pass, Ping, Drop}

-- what a client's message is, by its own contents
pub data ClientRole : Type 0 where
  OfUnknownType : ClientRole
  Reply : ClientRole
  Broadcast : ClientRole
  SignalTo : (name : Text) → ClientRole
  StandardBusCall : ClientRole
  OtherBusCall : ClientRole
  BusCall : ClientRole
  CallTo : (name : Text) → ClientRole

abbrev pub standard_interfaces : List Text
standard_interfaces =
    codes "org.freedesktop.DBus.Peer" ∷ properties_interface
    ∷ codes "org.freedesktop.DBus.Introspectable" ∷ []

abbrev pub role_of_bus_call : Option Text → ClientRole
role_of_bus_call None = BusCall
role_of_bus_call (Some i) =
    if is_one_of i standard_interfaces then StandardBusCall else (if is_bus i then BusCall else OtherBusCall)

abbrev pub role_of_call : Option Text → Option Text → ClientRole
role_of_call None interface = role_of_bus_call interface
role_of_call (Some name) interface = if is_bus name then role_of_bus_call interface else CallTo name

abbrev pub role_of_signal : Option Text → ClientRole
role_of_signal None = Broadcast
role_of_signal (Some name) = SignalTo name

abbrev pub client_role_at : Kind → Message → ClientRole
client_role_at Call m = role_of_call (destination m) (interface m)
client_role_at Return m = Reply
client_role_at Error m = Reply
client_role_at Signal m = role_of_signal (destination m)
client_role_at Other m = OfUnknownType

unfoldable pub client_role : Message → ClientRole
client_role m = client_role_at (kind_of m) m

-- refused: dropped if no reply is wanted, else replaced by a ping whose answer is turned into this one
abbrev pub refused : Message → Instead → Reason → Verdict
refused m what reason = if expects_reply m then Ping what reason else Drop reason

abbrev pub number_or_0 : Option ℕ → ℕ
number_or_0 None = 0
number_or_0 (Some n) = n

abbrev pub first_or_0 : List ℕ → ℕ
first_or_0 [] = 0
first_or_0 (n ∷ ns) = n

-- a rule of the entry lets a call of this path, interface and member pass, or a call that is this property request
abbrev pub lets_pass : Option Text → Option Text → Option Text → Option PropertyRequest → Grant → Bool
lets_pass path interface member request to_see = false
lets_pass path interface member request to_talk = false
lets_pass path interface member request to_own = false
lets_pass path interface member request (to_call rule) = matches rule path interface member
lets_pass path interface member request (to_broadcast rule) = false
lets_pass path interface member request (to_property rule) = permits rule path request

-- the entry has a rule on calls
abbrev pub rules_calls : Grant → Bool
rules_calls to_see = false
rules_calls to_talk = false
rules_calls to_own = false
rules_calls (to_call rule) = true
rules_calls (to_broadcast rule) = false
rules_calls (to_property rule) = true

-- the entry has a rule on calls of methods
abbrev pub calls_methods : Grant → Bool
calls_methods to_see = false
calls_methods to_talk = false
calls_methods to_own = false
calls_methods (to_call rule) = true
calls_methods (to_broadcast rule) = false
calls_methods (to_property rule) = false

-- the entry with this number passes the test
abbrev pub passes : (Grant → Bool) → Option Entry → Bool
passes test None = false
passes test (Some e) = test e.grant

abbrev pub entry_passes : Policy → (Grant → Bool) → ℕ → Bool
entry_passes policy test n = passes test (entry_at policy.entries n)

-- no rule of its entries matches a call to a name that is only seen
abbrev pub on_ruled_call : Message → Option ℕ → List ℕ → Verdict
on_ruled_call m (Some n) numbers = refused m AccessDenied (NoRule n)
on_ruled_call m None numbers = refused m AccessDenied (OnlySee (first_or_0 numbers))

-- a call to a name that is only seen, which is this property request
abbrev pub on_request : Policy → Message → Option PropertyRequest → List ℕ → Verdict
on_request policy m request numbers =
    if list_any (entry_passes policy (lets_pass (path m) (interface m) (member m) request)) numbers then Pass
    else on_ruled_call m (find (entry_passes policy rules_calls) numbers) numbers

abbrev pub on_seen_call : Policy → Message → List ℕ → Verdict
on_seen_call policy m numbers = on_request policy m (property_request m) numbers

abbrev pub not_visible : Message → Text → Verdict
not_visible m name =
    refused m (if is_unique name || forbids_auto_start m then NameHasNoOwner else ServiceUnknown) NotVisible

abbrev pub on_call : Policy → Message → Text → List ℕ → Level → Verdict
on_call policy m name numbers Hidden = not_visible m name
on_call policy m name numbers See = on_seen_call policy m numbers
on_call policy m name numbers Talk = Pass
on_call policy m name numbers Own = Pass

abbrev pub on_signal : List ℕ → Level → Verdict
on_signal numbers Hidden = Drop NotVisible
on_signal numbers See = Drop (OnlySee (first_or_0 numbers))
on_signal numbers Talk = Pass
on_signal numbers Own = Pass

-- the members of the bus that every client may call
abbrev pub free_members : List Text
free_members = codes "Hello" ∷ codes "GetId" ∷ codes "ListNames" ∷ codes "ListActivatableNames" ∷ []

abbrev pub match_members : List Text
match_members = codes "AddMatch" ∷ codes "RemoveMatch" ∷ []

abbrev pub owner_members : List Text
owner_members =
    codes "GetNameOwner" ∷ codes "GetConnectionUnixUser" ∷ codes "GetConnectionUnixProcessID"
    ∷ codes "GetConnectionCredentials" ∷ codes "GetAdtAuditSessionData" ∷ codes "GetConnectionSELinuxSecurityContext" ∷ []

abbrev pub name_members : List Text
name_members = codes "RequestName" ∷ codes "ReleaseName" ∷ codes "ListQueuedOwners" ∷ []

-- what a member requires of its text
pub data TextDemand : Type 0 where
  NoEavesdrop : TextDemand
  SeenOwner : TextDemand
  SeenName : TextDemand
  Startable : TextDemand
  Ownable : TextDemand

-- what is required of a call of a member: nothing, something of its text, or that it isn't made
pub data Demand : Type 0 where
  Free : Demand
  OnText : (demand : TextDemand) → Demand
  Unlisted : Demand

unfoldable pub demand_of : Text → Demand
demand_of member =
    if is_one_of member free_members then Free
    else (if is_one_of member match_members then OnText NoEavesdrop
    else (if is_one_of member owner_members then OnText SeenOwner
    else (if bytes_eq member (codes "NameHasOwner") then OnText SeenName
    else (if bytes_eq member (codes "StartServiceByName") then OnText Startable
    else (if is_one_of member name_members then OnText Ownable else Unlisted)))))

-- A name at See may be started if the policy lets called names be started, and one of the name's entries has a rule on
-- calls of methods.
abbrev pub may_start : Policy → List ℕ → Bool
may_start policy numbers = policy.start_called && list_any (entry_passes policy calls_methods) numbers

abbrev pub on_start : Policy → Message → List ℕ → Level → Verdict
on_start policy m numbers Hidden = refused m ServiceUnknown ArgNotTalk
on_start policy m numbers See = if may_start policy numbers then Pass else refused m AccessDenied ArgNotTalk
on_start policy m numbers Talk = Pass
on_start policy m numbers Own = Pass

-- what passes from a level on
abbrev pub from_level : Message → Level → Instead → Reason → Level → Verdict
from_level m least what reason level = if at_least least level then Pass else refused m what reason

-- a match rule
abbrev pub on_match : Message → Text → Verdict
on_match m text = if stands_in (codes "eavesdrop") text then refused m AccessDenied Eavesdrop else Pass

abbrev pub on_text : Policy → Message → TextDemand → Text → List ℕ → Level → Verdict
on_text policy m NoEavesdrop text numbers level = on_match m text
on_text policy m SeenOwner text numbers level = from_level m See NameHasNoOwner ArgNotVisible level
on_text policy m SeenName text numbers level = from_level m See False ArgNotVisible level
on_text policy m Startable text numbers level = on_start policy m numbers level
on_text policy m Ownable text numbers level = from_level m Own AccessDenied ArgNotOwn level

-- the text that something is required of must be present
abbrev pub on_argument : Policy → Knowledge → Message → TextDemand → Option Text → Verdict
on_argument policy known m demand None = refused m AccessDenied BadArgument
on_argument policy known m demand (Some text) = on_text policy m demand text (known.entries text) (known.level text)

abbrev pub on_bus_call : Policy → Knowledge → Message → Demand → Verdict
on_bus_call policy known m Free = Pass
on_bus_call policy known m (OnText demand) = on_argument policy known m demand (first_text m)
on_bus_call policy known m Unlisted = refused m AccessDenied BusMember

abbrev pub text_or_empty : Option Text → Text
text_or_empty None = []
text_or_empty (Some text) = text

-- the peer to which a message replies, and the serial that it replies to
abbrev pub reply_to : Message → Exchange
reply_to m = record { peer = destination m; number = number_or_0 (reply_serial m) }

-- a return or an error, by whether it is owed
abbrev pub on_reply : Bool → Verdict
on_reply is_owed = if is_owed then Pass else Drop NotOutstanding

-- a row for each role
abbrev pub verdict_at : Policy → Knowledge → Message → ClientRole → Verdict
verdict_at policy known m OfUnknownType = Drop UnknownType
verdict_at policy known m Reply = on_reply (nat_lt 0 (known.owed (reply_to m)))
verdict_at policy known m Broadcast = Pass
verdict_at policy known m (SignalTo name) = on_signal (known.entries name) (known.level name)
verdict_at policy known m StandardBusCall = Pass
verdict_at policy known m OtherBusCall = refused m AccessDenied BusInterface
verdict_at policy known m BusCall = on_bus_call policy known m (demand_of (text_or_empty (member m)))
verdict_at policy known m (CallTo name) = on_call policy m name (known.entries name) (known.level name)

-- A field of an unknown code may mean something to a bus or to those to whom the bus passes the message on, and isn't
-- read here. A policy may demand that only messages without such fields pass, whatever their role: such a call is then
-- refused.
abbrev pub on_unknown_field : Kind → Message → Verdict
on_unknown_field Call m = refused m AccessDenied UnknownField
on_unknown_field Return m = Drop UnknownField
on_unknown_field Error m = Drop UnknownField
on_unknown_field Signal m = Drop UnknownField
on_unknown_field Other m = Drop UnknownField

abbrev pub has_refused_field : Policy → Message → Bool
has_refused_field policy m = policy.known_fields && has_unknown_field m

-- of a message of this role
abbrev pub verdict_as : Policy → Knowledge → Message → ClientRole → Verdict
verdict_as policy known m role = if has_refused_field policy m then on_unknown_field (kind_of m) m else verdict_at policy known m role

unfoldable pub verdict : Policy → Knowledge → Message → Verdict
verdict policy known m = verdict_as policy known m (client_role m)
