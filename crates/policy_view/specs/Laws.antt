-- The laws of histories, as statements.
use Rattle.std.specs.Prelude.{◌≡◌, IsTrue, true, false, List, [], ◌++◌, length, flat_map}
use Rattle.sasl_watch.specs.Lines.{asked, for_bus, has_begun, joined}
use Rattle.dbus_header.specs.Message.{Message, reply_serial}
use Rattle.policy_args.specs.Policy.{Policy}
use Rattle.policy_view.specs.Sent.{Exchange, Past, answered, owed}
use Rattle.policy_view.specs.Shown.{shown}
use Rattle.policy_view.specs.Past.{Msg, History, due, judged, past}
use Rattle.policy_view.specs.History.{Event, end_of, history, lines, raw, stream}
use Rattle.policy_view.specs.Outputs.{bus_bytes, client_bytes, seen_in, sent}
use Rattle.policy_view.specs.Notes.{notes, numbered}
use Rattle.policy_view.specs.Elements.{elements}
use Rattle.policy_view.specs.Visible.{part}
use Rattle.policy_view.specs.declared.Mode.{Mode}
use Rattle.policy_view.specs.declared.Side.TheVariants.{Client, Bus}

abbrev pub IsPrefixOf : {A : Type 0} → List A → List A → Type 0
IsPrefixOf {A = A} xs ys = (rest : List A) × (xs ++ rest ≡ ys)

-- With more events, items are only added after the others, and the bytes for either side, the notes and the elements
-- only grow at their end. So the history of a session that stopped is a beginning of any that goes on from there.
pub record OnlyGrows (policy : Policy) (mode : Mode) (more events : List Event) : Type 0 where
  pub items : (added : History) × (history policy mode (more ++ events) ≡ added ++ history policy mode events)
  pub to_bus : IsPrefixOf (bus_bytes policy (history policy mode events)) (bus_bytes policy (history policy mode (more ++ events)))
  pub to_client : IsPrefixOf (client_bytes policy (history policy mode events)) (client_bytes policy (history policy mode (more ++ events)))
  pub noted : IsPrefixOf (notes policy (history policy mode events)) (notes policy (history policy mode (more ++ events)))
  pub watched : IsPrefixOf (elements policy (history policy mode events)) (elements policy (history policy mode (more ++ events)))

-- the same bytes for either side, the same notes, the same record of what is known, and the same End
pub record GivesTheSame (policy : Policy) (one other : History) : Type 0 where
  pub to_bus : bus_bytes policy one ≡ bus_bytes policy other
  pub to_client : client_bytes policy one ≡ client_bytes policy other
  pub noted : numbered policy one ≡ numbered policy other
  pub told : past policy one ≡ past policy other
  pub end_is : end_of one ≡ end_of other

-- What a session that doesn't filter gives: the bus has the client's lines, each as the bus must get it, and then the
-- client's bytes after them; the client has the bus's lines and then the bus's bytes after them, all unchanged.
pub record PassesAll (policy : Policy) (mode : Mode) (events : List Event) : Type 0 where
  pub to_bus : bus_bytes policy (history policy mode events) ≡ flat_map for_bus (lines mode Client events) ++ raw mode Client events
  pub to_client : client_bytes policy (history policy mode events) ≡ joined (lines mode Bus events) ++ raw mode Bus events
  -- without lines each has the other's stream, byte for byte
  pub whole_to_bus : mode.auth ≡ false → bus_bytes policy (history policy mode events) ≡ stream Client events
  pub whole_to_client : mode.auth ≡ false → client_bytes policy (history policy mode events) ≡ stream Bus events
  -- with lines, once BEGIN was seen, the client's lines and the bytes after them are its stream; and once the bus has
  -- answered all that it was asked, the client has the bus's stream, byte for byte
  pub begun : mode.auth ≡ true → has_begun (stream Client events) ≡ true → joined (lines mode Client events) ++ raw mode Client events ≡ stream Client events
  pub answered : mode.auth ≡ true → has_begun (stream Client events) ≡ true → length (lines mode Bus events) ≡ asked (stream Client events) → client_bytes policy (history policy mode events) ≡ stream Bus events
  -- the proxy sent nothing of its own, and made no notes
  pub sent : sent policy (history policy mode events) ≡ []
  pub noted : notes policy (history policy mode events) ≡ []

-- pasts with the same facts and the same sent messages, in which the same replies are owed
pub record KnowTheSame (one other : Past) : Type 0 where
  pub facts : one.told.facts ≡ other.told.facts
  pub sent : one.told.sent ≡ other.told.sent
  pub owed : (to : Exchange) → owed one.told to ≡ owed other.told to

-- every message is decided on in the same way: each of the client, and each of the bus that answers the same call
pub record DecideTheSame (policy : Policy) (one other : Past) : Type 0 where
  pub verdicts : (m : Message) → judged policy one.told m ≡ judged policy other.told m
  pub client_due : (m : Message) → due policy one (Msg Client m) ≡ due policy other (Msg Client m)
  pub showings : (m : Message) → answered one (reply_serial m) ≡ answered other (reply_serial m) → shown policy one m ≡ shown policy other m
  pub bus_due : (m : Message) → answered one (reply_serial m) ≡ answered other (reply_serial m) → due policy one (Msg Bus m) ≡ due policy other (Msg Bus m)

-- two histories give out the same, and all that a verdict depends on is the same
pub record SameOnBothSides (policy : Policy) (one other : History) : Type 0 where
  pub sent : sent policy one ≡ sent policy other
  pub seen : seen_in policy one ≡ seen_in policy other
  pub to_bus : bus_bytes policy one ≡ bus_bytes policy other
  pub to_client : client_bytes policy one ≡ client_bytes policy other
  pub ended : end_of one ≡ end_of other
  pub known : KnowTheSame (past policy one) (past policy other)

-- if the visible parts of two histories of sessions that filter are the same, both give out the same: what the policy
-- hides in either changes nothing
abbrev pub HiddenChangesNothing : Policy → Mode → Mode → List Event → List Event → Type 0
HiddenChangesNothing policy one_mode other_mode one other =
    IsTrue one_mode.filter → IsTrue other_mode.filter →
    part policy (history policy one_mode one) ≡ part policy (history policy other_mode other) →
    SameOnBothSides policy (history policy one_mode one) (history policy other_mode other)
