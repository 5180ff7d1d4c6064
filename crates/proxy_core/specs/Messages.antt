-- What a session does with a message, as a function on its model.
use Rattle.std.specs.Prelude.{◌≡◌, ℕ, ◌+◌, ◌&&◌, ◌||◌, ◌==◌, nat_le, Bool, true, false, List, [], ◌∷◌, ◌++◌, length, flat_map, Option, Some, None, is_none, if◌then◌else◌}
use Rattle.std.specs.Ordering.{nat_cmp}
use Rattle.std.specs.FinMap.{FinMap, remove}
use Rattle.dbus_names.specs.Texts.{Text}
use Rattle.dbus_header.specs.Message.{Message, reply_serial, spell}
use Rattle.dbus_header.specs.Contents.{Contents}
use Rattle.dbus_header.specs.Kinds.{Kind, Call, Return, Error, Signal, Other, kind_of}
use Rattle.own_calls.specs.Sending.{expecting}
use Rattle.policy_args.specs.Policy.{Policy}
use Rattle.policy_args.specs.declared.fact.Fact.{Fact}
use Rattle.policy_view.specs.History.{most_sent}
use Rattle.policy_view.specs.Knowledge.{Knowledge}
use Rattle.policy_view.specs.Past.{called_at, due_at, due_on, has_greeted, learned_at, replied_on}
use Rattle.policy_view.specs.Sent.{Exchange, Sent, is_bus_or_absent, spelled_from}
use Rattle.policy_view.specs.Texts.{has_text}
use Rattle.policy_view.specs.Elements.{given_of}
use Rattle.policy_view.specs.Shown.{BusRole, bus_role, seen_as, showing_at}
use Rattle.policy_view.specs.Visible.{visible_as}
use Rattle.policy_view.specs.Verdicts.{client_role, verdict}
use Rattle.policy_view.specs.declared.Decision.{Decision}
use Rattle.policy_view.specs.declared.Decision.TheVariants.{Judged, Shown}
use Rattle.policy_view.specs.declared.Showing.{Showing}
use Rattle.policy_view.specs.declared.Verdict.{Verdict}
use Rattle.policy_view.specs.declared.visible.Visible.{Visible as Element}
use Rattle.policy_view.specs.declared.visible.Visible.TheVariants as element
use Rattle.policy_view.specs.declared.Side.{Side}
use Rattle.policy_view.specs.declared.Side.TheVariants.{Client, Bus}
use Rattle.policy_view.specs.declared.End.{End}
use Rattle.policy_view.specs.declared.End.TheVariants.{SerialsSpent}
use Rattle.reply_ledger.specs.Ledger.{Ledger}
use Rattle.reply_ledger.specs.Owed.{Replies, one_less, one_more}
use Rattle.reply_ledger.specs.declared.kind.Kind.{Kind as Expected}
use Rattle.reply_ledger.specs.declared.kind.Kind.TheVariants as expects
use Rattle.unique_names.specs.Taught.{Ids, kept_level, learned}
use Rattle.verdicts.specs.Kept.{expected_at, kept}
use Rattle.proxy_core.specs.Sessions.{SessionView}

abbrev pub ended_by : End → SessionView → SessionView
ended_by end view = record view { ended = Some end }

-- what is known of names and replies
abbrev pub known : Policy → SessionView → Knowledge
known policy view = kept policy view.ids view.ledger.owed

-- ---- messages that are sent

-- each with the next serial; if it wants an answer, that is expected
abbrev pub with_sent : List Sent → SessionView → SessionView
with_sent due view = record view {
  bus_side = view.bus_side ++ spelled_from (view.sent + 1) due;
  sent = view.sent + length due;
  greeted = view.greeted || has_greeted due;
  ledger = record view.ledger { expected = expecting view.ledger.expected (view.sent + 1) due };
}

-- the serials are used and the answers expected, without the bytes
abbrev pub noted : List Sent → SessionView → SessionView
noted due view = record view {
  sent = view.sent + length due;
  ledger = record view.ledger { expected = expecting view.ledger.expected (view.sent + 1) due };
}

-- one more serial is used
abbrev pub counted : SessionView → SessionView
counted view = record view { sent = view.sent + 1 }

-- the answer to a message that has the last serial that was given is expected
abbrev pub awaiting : Sent → SessionView → SessionView
awaiting s view = record view { ledger = record view.ledger { expected = expecting view.ledger.expected view.sent (s ∷ []) } }

-- and the message is sent to the bus with that serial
abbrev pub queued : Sent → SessionView → SessionView
queued s view = record (awaiting s view) { bus_side = view.bus_side ++ spelled_from view.sent (s ∷ []) }

-- the view if these messages are due: they are sent, if serials are left for them
abbrev pub sending : List Sent → SessionView → SessionView → SessionView
sending [] view new = new
sending (s ∷ due) view new =
    if nat_le (view.sent + length (s ∷ due)) most_sent then with_sent (s ∷ due) new else ended_by SerialsSpent view

-- ---- a message of the client

-- from what is read of it, a call to the bus, with the bus's interface or none
abbrev pub is_bus_call_by : Contents → Bool
is_bus_call_by x = x.kind == 1 && is_bus_or_absent x.parts.destination && is_bus_or_absent x.parts.interface

-- from what is read of it, a call to the bus with this member, which the table of the bus's members judges
abbrev pub is_bus_member_by : Text → Contents → Bool
is_bus_member_by name x = x.kind == 1 && is_bus_or_absent x.parts.destination && is_bus_or_absent x.parts.interface && has_text x.parts.member name

-- one reply less is owed; none is owed to an absent name
abbrev pub less_to : Replies → Option Text → ℕ → Replies
less_to owed None n = owed
less_to owed (Some peer) n = one_less owed peer n

abbrev pub less_for : Replies → List Exchange → Replies
less_for owed [] = owed
less_for owed (e ∷ es) = less_for (less_to owed e.peer e.number) es

abbrev pub with_replied : List Exchange → SessionView → SessionView
with_replied replied view = record view { ledger = record view.ledger { owed = less_for view.ledger.owed replied } }

-- what is due is sent, and the replies that passed are no longer owed
abbrev pub with_due : List Sent → List Exchange → SessionView → SessionView
with_due due replied view = sending due view (with_replied replied view)

abbrev pub with_verdict : Policy → Message → Verdict → SessionView → SessionView
with_verdict policy m v view = with_due (due_on policy view.greeted m v) (replied_on m (client_role m) v) view

abbrev pub with_client_message : Policy → Message → SessionView → SessionView
with_client_message policy m view = with_verdict policy m (verdict policy (known policy view) m) view

-- ---- a message of the bus

-- one more reply is owed
abbrev pub more_to : Replies → Option Text → ℕ → Replies
more_to owed None n = owed
more_to owed (Some peer) n = one_more owed peer n

abbrev pub more_for : Replies → List Exchange → Replies
more_for owed [] = owed
more_for owed (e ∷ es) = more_for (more_to owed e.peer e.number) es

abbrev pub taught : Policy → Ids → List Fact → Ids
taught policy ids [] = ids
taught policy ids (fact ∷ facts) = taught policy (learned policy ids fact) facts

-- the answer to the proxy's own ListNames
abbrev pub own_names : Option Expected → Bool
own_names None = false
own_names (Some (expects.Call serial)) = false
own_names (Some (expects.Hello serial)) = false
own_names (Some (expects.Names serial)) = false
own_names (Some (expects.Ping serial order what)) = false
own_names (Some expects.OwnMatch) = false
own_names (Some (expects.OwnOwner name)) = false
own_names (Some expects.OwnNames) = true

-- the answer to a GetNameOwner of the proxy's own
abbrev pub own_owner : Option Expected → Bool
own_owner None = false
own_owner (Some (expects.Call serial)) = false
own_owner (Some (expects.Hello serial)) = false
own_owner (Some (expects.Names serial)) = false
own_owner (Some (expects.Ping serial order what)) = false
own_owner (Some expects.OwnMatch) = false
own_owner (Some (expects.OwnOwner name)) = true
own_owner (Some expects.OwnNames) = false

-- a return or an error uses up the answer that is expected with its REPLY_SERIAL
abbrev pub without : FinMap nat_cmp Expected → Option ℕ → FinMap nat_cmp Expected
without expected None = expected
without expected (Some r) = remove expected r

abbrev pub used_up : Kind → Option ℕ → FinMap nat_cmp Expected → FinMap nat_cmp Expected
used_up Call r expected = expected
used_up Return r expected = without expected r
used_up Error r expected = without expected r
used_up Signal r expected = expected
used_up Other r expected = expected

abbrev pub with_used : Message → SessionView → SessionView
with_used m view = record view { ledger = record view.ledger { expected = used_up (kind_of m) (reply_serial m) view.ledger.expected } }

-- the facts that are learned from it
abbrev pub with_facts : Policy → List Fact → SessionView → SessionView
with_facts policy facts view = record view { ids = taught policy view.ids facts }

abbrev pub with_calls : List Exchange → SessionView → SessionView
with_calls calls view = record view { ledger = record view.ledger { owed = more_for view.ledger.owed calls } }

abbrev pub with_told : Policy → Message → BusRole → SessionView → SessionView
with_told policy m role view = with_calls (called_at m role) (with_facts policy (learned_at policy m role) view)

-- what the client is shown of it
abbrev pub with_shown : Policy → Message → Showing → SessionView → SessionView
with_shown policy m showing view = record view { client_side = view.client_side ++ flat_map spell (seen_as (kept_level policy view.ids) m showing) }

abbrev pub with_role : Policy → Message → BusRole → SessionView → SessionView
with_role policy m role view =
    sending (due_at policy m role) view (with_told policy m role (with_shown policy m (showing_at policy (known policy view) m role) view))

abbrev pub with_bus_message : Policy → Message → SessionView → SessionView
with_bus_message policy m view = with_role policy m (bus_role (expected_at view.ledger.expected (reply_serial m)) m) (with_used m view)

abbrev pub with_message : Policy → Side → Message → SessionView → SessionView
with_message policy Client m view = with_client_message policy m view
with_message policy Bus m view = with_bus_message policy m view

-- ---- the note on a message

-- what is decided on it, given what is known when it is received
abbrev pub decision_in : Policy → Side → Message → SessionView → Decision
decision_in policy Client m view = Judged (verdict policy (known policy view) m)
decision_in policy Bus m view = Shown (showing_at policy (known policy view) m (bus_role (expected_at view.ledger.expected (reply_serial m)) m))

-- one more note
abbrev pub with_note : Side → Message → Decision → SessionView → SessionView
with_note side m decision view = record view {
  notes = view.notes ++ record { number = view.numbered + 1; side = side; frame = spell m; decision = decision } ∷ [];
  numbered = view.numbered + 1;
}

-- a message has a note if the session makes notes; there is none if the session ended instead
abbrev pub with_note_on : Side → Message → Decision → SessionView → SessionView
with_note_on side m decision view = if view.mode.notes && is_none view.ended then with_note side m decision view else view

-- a message and the note on it
abbrev pub with_noted_message : Policy → Side → Message → SessionView → SessionView
with_noted_message policy side m view = with_note_on side m (decision_in policy side m view) (with_message policy side m view)

-- ---- what is left of a message in the visible part

-- of a message of the bus, given its role and what is shown of it
abbrev pub bus_elements : Policy → Ids → Replies → Message → BusRole → List Element
bus_elements policy ids owed m role = flat_map given_of (visible_as policy (kept_level policy ids) m role (showing_at policy (kept policy ids owed) m role))

-- given what is known when it is received: one element or none
abbrev pub elements_by : Policy → Ids → Ledger → Side → Message → List Element
elements_by policy ids ledger Client m = element.Client (spell m) ∷ []
elements_by policy ids ledger Bus m = bus_elements policy ids ledger.owed m (bus_role (expected_at ledger.expected (reply_serial m)) m)

abbrev pub elements_in : Policy → Side → Message → SessionView → List Element
elements_in policy side m view = elements_by policy view.ids view.ledger side m

-- elements are kept if the session watches
abbrev pub if_watched : Bool → List Element → List Element
if_watched true elements = elements
if_watched false elements = []

abbrev pub with_elements : List Element → SessionView → SessionView
with_elements elements view = record view { visible = view.visible ++ if_watched view.watches elements }

-- if the session ended instead of taking the message, it leaves none
abbrev pub unless_ended : Option End → List Element → List Element
unless_ended None elements = elements
unless_ended (Some end) elements = []

-- a message, the note on it, and what is left of it in the visible part
abbrev pub with_watched_message : Policy → Side → Message → SessionView → SessionView
with_watched_message policy side m view =
    let new = with_noted_message policy side m view in
    with_elements (unless_ended new.ended (elements_in policy side m view)) new

-- ---- memory that was refused

-- what waits for either side, the notes, the elements and the streams are unchanged
pub record KeepsSides (old new : SessionView) : Type 0 where
  pub mode : new.mode ≡ old.mode
  pub client : new.client ≡ old.client
  pub bus : new.bus ≡ old.bus
  pub bus_side : new.bus_side ≡ old.bus_side
  pub client_side : new.client_side ≡ old.client_side
  pub greeted : new.greeted ≡ old.greeted
  pub notes : new.notes ≡ old.notes
  pub numbered : new.numbered ≡ old.numbered
  pub watches : new.watches ≡ old.watches
  pub visible : new.visible ≡ old.visible
