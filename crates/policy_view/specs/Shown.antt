-- What the client is shown of a bus message: the role that the message has, and a row for each role.
use Rattle.std.specs.Prelude.{ℕ, Bool, true, false, ◌&&◌, ◌||◌, List, [], ◌∷◌, filter, if◌then◌else◌, Option, Some, None, codes, is_some}
use Rattle.std.specs.List.{list_any}
use Rattle.policy_view.specs.Texts.{has_text, matches}
use Rattle.dbus_names.specs.Texts.{Text}
use Rattle.dbus_header.specs.Message.{Message, path, interface, member, destination, sender, reply_serial, three_texts, text_list, with_reply_serial, with_names}
use Rattle.policy_args.specs.Policy.{Policy, at_least}
use Rattle.dbus_names.specs.Names.{bus_name, is_unique}
use Rattle.policy_args.specs.declared.entry.Grant.{Grant}
use Rattle.policy_args.specs.declared.entry.Grant.TheVariants.{See as to_see, Talk as to_talk, Own as to_own, Call as to_call, Broadcast as to_broadcast, Property as to_property}
use Rattle.policy_args.specs.Levels.{level_of}
use Rattle.policy_view.specs.Own.{answer_in_place}
use Rattle.policy_view.specs.Sent.{Past, answered}
use Rattle.policy_view.specs.Knowledge.{Knowledge, knowledge}
use Rattle.dbus_header.specs.Kinds.{Kind, Call, Return, Error, Signal, Other, kind_of}
use Rattle.policy_view.specs.Verdicts.{entry_passes}
use Rattle.policy_args.specs.declared.Level.{Level}
use Rattle.policy_args.specs.declared.Level.TheVariants.{See, Talk}
use Rattle.dbus_header.specs.declared.Instead.{Instead}
use Rattle.dbus_values.specs.declared.Order.{Order}
use Rattle.reply_ledger.specs.declared.kind.Kind.{Kind as Expected}
use Rattle.reply_ledger.specs.declared.kind.Kind.TheVariants as expects
use Rattle.policy_view.specs.declared.Reason.TheVariants.{UnknownType, BadArgument, SenderNotTalk, NameHidden, NotExpected, OwnAnswer}
use Rattle.policy_view.specs.declared.Showing.{Showing}
use Rattle.policy_view.specs.declared.Showing.TheVariants.{Whole, Reply, Cut, Instead as InsteadOf, Hide}

-- what a bus message is, by its own contents and by the sent call that it answers
pub data BusRole : Type 0 where
  NoRole : BusRole
  Unexpected : BusRole
  MatchAnswer : BusRole
  OwnerAnswer : (name : Text) → BusRole
  NamesAnswer : BusRole
  PingAnswer : (serial : ℕ) (order : Order) (what : Instead) → BusRole
  NameList : (serial : ℕ) → BusRole
  HelloAnswer : (serial : ℕ) → BusRole
  OtherAnswer : (serial : ℕ) → BusRole
  CallIn : BusRole
  OwnerChange : BusRole
  SignalIn : BusRole
  BroadcastIn : BusRole

-- the role of a return or an error, by what the answer is used for; only a return has a list of names
abbrev pub role_of_reply : Bool → Option Expected → BusRole
role_of_reply is_return None = Unexpected
role_of_reply is_return (Some (expects.Call serial)) = OtherAnswer serial
role_of_reply is_return (Some (expects.Hello serial)) = HelloAnswer serial
role_of_reply is_return (Some (expects.Names serial)) = if is_return then NameList serial else OtherAnswer serial
role_of_reply is_return (Some (expects.Ping serial order what)) = PingAnswer serial order what
role_of_reply is_return (Some expects.OwnMatch) = MatchAnswer
role_of_reply is_return (Some (expects.OwnOwner name)) = OwnerAnswer name
role_of_reply is_return (Some expects.OwnNames) = NamesAnswer

-- NameOwnerChanged from the bus
unfoldable pub is_owner_change : Message → Bool
is_owner_change m =
    has_text (sender m) bus_name && has_text (interface m) bus_name && has_text (member m) (codes "NameOwnerChanged")

abbrev pub role_of_signal : Message → BusRole
role_of_signal m =
    if is_owner_change m then OwnerChange else (if is_some (destination m) then SignalIn else BroadcastIn)

abbrev pub bus_role_at : Kind → Message → Option Expected → BusRole
bus_role_at Call m answer = CallIn
bus_role_at Return m answer = role_of_reply true answer
bus_role_at Error m answer = role_of_reply false answer
bus_role_at Signal m answer = role_of_signal m
bus_role_at Other m answer = NoRole

unfoldable pub bus_role : Option Expected → Message → BusRole
bus_role answer m = bus_role_at (kind_of m) m answer

-- the sender may be talked to, or a Broadcast rule of its entries matches
abbrev pub broadcast_matches : Message → Grant → Bool
broadcast_matches m to_see = false
broadcast_matches m to_talk = false
broadcast_matches m to_own = false
broadcast_matches m (to_call rule) = false
broadcast_matches m (to_broadcast rule) = matches rule (path m) (interface m) (member m)
broadcast_matches m (to_property rule) = false

abbrev pub may_broadcast : Policy → Knowledge → Message → Option Text → Bool
may_broadcast policy known m None = false
may_broadcast policy known m (Some name) =
    at_least Talk (known.level name) || list_any (entry_passes policy (broadcast_matches m)) (known.entries name)

abbrev pub on_broadcast : Policy → Knowledge → Message → Showing
on_broadcast policy known m = if may_broadcast policy known m (sender m) then Whole else Hide SenderNotTalk

abbrev pub on_names : ℕ → Option (List Text) → Showing
on_names serial None = Hide BadArgument
on_names serial (Some names) = Cut serial

-- the client sees the name, or it is a unique name and the owner changes of all unique names are shown
abbrev pub sees_change : Bool → Knowledge → Text → Bool
sees_change sloppy known name = at_least See (known.level name) || (sloppy && is_unique name)

abbrev pub on_owner_change : Bool → Knowledge → Option (Text × Text × Text) → Showing
on_owner_change sloppy known None = Hide BadArgument
on_owner_change sloppy known (Some texts) = if sees_change sloppy known texts.0 then Whole else Hide NameHidden

-- a row for each role
abbrev pub showing_at : Policy → Knowledge → Message → BusRole → Showing
showing_at policy known m NoRole = Hide UnknownType
showing_at policy known m Unexpected = Hide NotExpected
showing_at policy known m MatchAnswer = Hide OwnAnswer
showing_at policy known m (OwnerAnswer name) = Hide OwnAnswer
showing_at policy known m NamesAnswer = Hide OwnAnswer
showing_at policy known m (PingAnswer serial order what) = InsteadOf order serial what
showing_at policy known m (NameList serial) = on_names serial (text_list m)
showing_at policy known m (HelloAnswer serial) = Reply serial
showing_at policy known m (OtherAnswer serial) = Reply serial
showing_at policy known m CallIn = Whole
showing_at policy known m OwnerChange = on_owner_change policy.sloppy known (three_texts m)
showing_at policy known m SignalIn = Whole
showing_at policy known m BroadcastIn = on_broadcast policy known m

-- what the client is shown, given what the message answers, if it answers a call
unfoldable pub showing : Policy → Knowledge → Option Expected → Message → Showing
showing policy known answer m = showing_at policy known m (bus_role answer m)

unfoldable pub shown : Policy → Past → Message → Showing
shown policy before m = showing policy (knowledge policy before.told) (answered before (reply_serial m)) m

-- the names with the level See or more
abbrev pub is_seen : (Text → Level) → Text → Bool
is_seen level name = at_least See (level name)

abbrev pub seen_names : (Text → Level) → List Text → List Text
seen_names level names = filter (is_seen level) names

abbrev pub cut_names : (Text → Level) → Option (List Text) → List Text
cut_names level None = []
cut_names level (Some names) = seen_names level names

-- the message with its list cut
unfoldable pub cut : (Text → Level) → Message → Message
cut level m = with_names (cut_names level (text_list m)) m

-- the messages for the client: one or none
abbrev pub seen_as : (Text → Level) → Message → Showing → List Message
seen_as level m Whole = m ∷ []
seen_as level m (Reply serial) = with_reply_serial serial m ∷ []
seen_as level m (Cut serial) = with_reply_serial serial (cut level m) ∷ []
seen_as level m (InsteadOf order reply what) = answer_in_place order reply m.serial what ∷ []
seen_as level m (Hide reason) = []

unfoldable pub seen : Policy → Past → Message → List Message
seen policy before m = seen_as (level_of policy before.told.facts) m (shown policy before m)
