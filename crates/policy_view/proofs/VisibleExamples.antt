-- Worked examples of visible parts.
use Rattle.std.specs.Prelude.{ℕ, ◌≡◌, true, false, List, [], ◌∷◌, ◌++◌, Some, None, codes, refl, replicate}
use Rattle.dbus_types.specs.Signature.{basic, string, uint32}
use Rattle.dbus_values.specs.Values.{Value, a_number, a_path, a_string, an_array, values_of}
use Rattle.dbus_values.specs.declared.Order.TheVariants.{Little}
use Rattle.dbus_header.specs.Kinds.{kind_of}
use Rattle.dbus_header.specs.Message.{Field, Message, string_values}
use Rattle.dbus_names.specs.Names.{bus_name}
use Rattle.dbus_names.specs.Texts.{Text}
use Rattle.policy_args.specs.Levels.{entries, level_of}
use Rattle.policy_args.specs.Policy.{Policy, level, patterns_of, policy_of}
use Rattle.policy_args.specs.declared.entry.Grant.TheVariants.{See as to_see, Talk as to_talk}
use Rattle.policy_view.specs.Knowledge.{knowledge}
use Rattle.policy_view.specs.Own.{field, signed}
use Rattle.policy_view.specs.Sent.{answered, asked, asks_names, call_at, is_hello, nothing_before, owed, own_calls}
use Rattle.policy_view.specs.Verdicts.{client_role, demand_of, verdict}
use Rattle.policy_view.specs.Shown.{bus_role, cut, is_owner_change, showing, shown}
use Rattle.policy_view.specs.Past.{Ended, Item, Line, Msg, after, due, judged, past, returned_names, returned_text, role, used_by}
use Rattle.policy_view.specs.History.{followed_by, followed_by_all, placed}
use Rattle.policy_view.specs.Visible.{Visible, VisibleLine, FromClient, ShownWhole, ShownCut, PingAnswered, OwnerAnswered, NamesAnswered, Closed, part, visible_of}
use Rattle.policy_view.specs.declared.Side.TheVariants.{Client, Bus}
use Rattle.policy_view.specs.declared.End.TheVariants.{BusEnd, ClientEnd}

-- all that is unfolded when a visible part is computed
unfoldable everything : Unit {0}
unfolding kind_of level level_of entries patterns_of knowledge is_hello asks_names nothing_before owed call_at answered own_calls asked client_role demand_of verdict
    is_owner_change bus_role showing shown cut returned_text returned_names used_by judged role after past due placed followed_by followed_by_all visible_of part
everything = tt

-- ---- messages; an empty text is a field that isn't there

abbrev text_field : ℕ → Text → List Field
text_field code [] = []
text_field code (b ∷ bs) = field code (a_string (b ∷ bs)) ∷ []

abbrev message : ℕ → ℕ → ℕ → List Field → List Value → Message
message kind flags serial fields body = record { order = Little; kind = kind; flags = flags; serial = serial; fields = fields ++ signed body; body = body }

abbrev call : ℕ → Text → Text → Message
call serial destination member =
    message 1 0 serial (field 1 (a_path (codes "/p")) ∷ text_field 2 (codes "org.a.I") ++ text_field 3 member ++ text_field 6 destination) []

abbrev bus_call : ℕ → Text → Message
bus_call serial member = message 1 0 serial (field 1 (a_path (codes "/p")) ∷ text_field 2 bus_name ++ text_field 3 member ++ text_field 6 bus_name) []

-- a return, or an error
abbrev answer : ℕ → ℕ → ℕ → Text → List Value → Message
answer kind serial reply sender body = message kind 1 serial (field 5 (a_number uint32 reply) ∷ text_field 6 (codes ":1.40") ++ text_field 7 sender) body

abbrev signal : ℕ → Text → Text → Text → List Value → Message
signal serial sender interface member body = message 4 0 serial (field 1 (a_path (codes "/p")) ∷ text_field 2 interface ++ text_field 3 member ++ text_field 7 sender) body

abbrev owner_change : ℕ → Text → Text → Text → Message
owner_change serial name old new = signal serial bus_name bus_name (codes "NameOwnerChanged") (a_string name ∷ a_string old ∷ a_string new ∷ [])

abbrev names : List Text → List Value
names texts = an_array (basic string) (values_of (string_values texts)) ∷ []

abbrev from_client : Message → Item
from_client m = Msg Client m

abbrev from_bus : Message → Item
from_bus m = Msg Bus m

-- ---- policies, and the visible part of items, given in their order

abbrev talk_T : Policy
talk_T = policy_of (record { pattern = record { name = codes "org.a.T"; exact = true }; grant = to_talk } ∷ [])

abbrev see_a : Policy
see_a = policy_of (record { pattern = record { name = codes "org.a"; exact = false }; grant = to_see } ∷ [])

abbrev visible : Policy → List Item → List Visible
visible policy items = part policy (followed_by_all policy [] items)

-- ---- an answer in place becomes the position and the serial of the ping's answer

in_place : visible talk_T (
    from_client (call 1 (codes "org.a.T") (codes "A")) ∷ from_client (call 2 (codes "org.h.X") (codes "A")) ∷ from_client (call 3 (codes "org.a.T") (codes "B"))
    ∷ from_bus (answer 2 50 3 (codes ":1.7") []) ∷ from_bus (answer 2 51 2 bus_name []) ∷ from_bus (answer 2 52 1 (codes ":1.7") []) ∷ [])
    ≡ FromClient (call 1 (codes "org.a.T") (codes "A")) ∷ FromClient (call 2 (codes "org.h.X") (codes "A")) ∷ FromClient (call 3 (codes "org.a.T") (codes "B"))
    ∷ ShownWhole (answer 2 50 3 (codes ":1.7") []) ∷ PingAnswered 2 51 ∷ ShownWhole (answer 2 52 1 (codes ":1.7") []) ∷ []
unfolding everything
in_place = refl

-- ---- hidden signals and hidden owner changes are erased, and so are the answers to the proxy's AddMatch

abbrev learning : List Item → List Item → Message → List Item
learning first later owner =
    from_client (bus_call 1 (codes "Hello")) ∷ from_bus (answer 2 1 1 bus_name (a_string (codes ":1.40") ∷ [])) ∷ first
    ++ from_bus (answer 2 2 2 bus_name []) ∷ from_bus owner ∷ from_bus (owner_change 4 (codes "org.a.T") (codes ":1.7") []) ∷ later
    ++ from_client (call 2 (codes ":1.7") (codes "M")) ∷ []

abbrev owned : Message
owned = answer 2 3 3 bus_name (a_string (codes ":1.7") ∷ [])

hidden_traffic : visible talk_T (
    learning (replicate 5 (from_bus (signal 100 (codes ":1.60") (codes "org.h.I") (codes "S") [])))
    (replicate 5 (from_bus (owner_change 200 (codes "org.h.X") [] (codes ":1.60")))) owned)
    ≡ visible talk_T (learning [] [] owned)
unfolding everything
hidden_traffic = refl

owner_learned : visible talk_T (learning [] [] owned)
    ≡ FromClient (bus_call 1 (codes "Hello")) ∷ ShownWhole (answer 2 1 1 bus_name (a_string (codes ":1.40") ∷ [])) ∷ OwnerAnswered 3 (Some (codes ":1.7"))
    ∷ ShownWhole (owner_change 4 (codes "org.a.T") (codes ":1.7") []) ∷ FromClient (call 2 (codes ":1.7") (codes "M")) ∷ []
unfolding everything
owner_learned = refl

-- another owner is another element; an error, and a text that is no unique name, are refusals; a second answer is
-- erased
owners :
    (visible talk_T (learning [] [] (answer 2 3 3 bus_name (a_string (codes ":1.8") ∷ [])))
    ≡ FromClient (bus_call 1 (codes "Hello")) ∷ ShownWhole (answer 2 1 1 bus_name (a_string (codes ":1.40") ∷ [])) ∷ OwnerAnswered 3 (Some (codes ":1.8"))
    ∷ ShownWhole (owner_change 4 (codes "org.a.T") (codes ":1.7") []) ∷ FromClient (call 2 (codes ":1.7") (codes "M")) ∷ [])
    × (visible talk_T (learning [] [] (answer 3 3 3 bus_name (a_string (codes ":1.7") ∷ [])))
    ≡ FromClient (bus_call 1 (codes "Hello")) ∷ ShownWhole (answer 2 1 1 bus_name (a_string (codes ":1.40") ∷ [])) ∷ OwnerAnswered 3 None
    ∷ ShownWhole (owner_change 4 (codes "org.a.T") (codes ":1.7") []) ∷ FromClient (call 2 (codes ":1.7") (codes "M")) ∷ [])
    × (visible talk_T (learning [] [] (answer 2 3 3 bus_name (a_string (codes "org.a.T") ∷ []))) ≡ visible talk_T (learning [] [] (answer 3 9 3 bus_name [])))
    × (visible talk_T (learning [] (from_bus (answer 2 9 3 bus_name (a_string (codes ":1.9") ∷ [])) ∷ []) owned) ≡ visible talk_T (learning [] [] owned))
unfolding everything
owners = (refl, refl, refl, refl)

-- ---- a list becomes the names that are seen, in their order

abbrev listed : List Text → List Item
listed texts = from_client (bus_call 1 (codes "ListNames")) ∷ from_bus (answer 2 30 1 bus_name (names texts)) ∷ []

hidden_names : visible see_a (listed (bus_name ∷ codes "org.a.A" ∷ codes "org.h.N" ∷ codes "org.a.B" ∷ [])) ≡ visible see_a (listed (codes "org.h.M" ∷ bus_name ∷ codes ":1.9" ∷ codes "org.a.A" ∷ codes "org.a.B" ∷ []))
unfolding everything
hidden_names = refl

order_counts :
    (visible see_a (listed (bus_name ∷ codes "org.a.A" ∷ codes "org.h.N" ∷ codes "org.a.B" ∷ []))
    ≡ FromClient (bus_call 1 (codes "ListNames")) ∷ ShownCut (answer 2 30 1 bus_name (names (bus_name ∷ codes "org.a.A" ∷ codes "org.a.B" ∷ []))) ∷ [])
    × (visible see_a (listed (bus_name ∷ codes "org.a.B" ∷ codes "org.h.N" ∷ codes "org.a.A" ∷ []))
    ≡ FromClient (bus_call 1 (codes "ListNames")) ∷ ShownCut (answer 2 30 1 bus_name (names (bus_name ∷ codes "org.a.B" ∷ codes "org.a.A" ∷ []))) ∷ [])
unfolding everything
order_counts = (refl, refl)

-- ---- the proxy's own list becomes the names to be asked; a list with none of them asks nothing, and an error is a
-- refusal

abbrev asking : Message → List Item
asking m = from_client (bus_call 1 (codes "Hello")) ∷ from_bus (answer 2 2 2 bus_name []) ∷ from_bus m ∷ []

names_told :
    (visible see_a (asking (answer 2 4 3 bus_name (names (bus_name ∷ codes "org.a.A" ∷ codes ":1.9" ∷ codes "org.h.N" ∷ codes "org.a" ∷ []))))
    ≡ FromClient (bus_call 1 (codes "Hello")) ∷ NamesAnswered 3 (Some (codes "org.a.A" ∷ codes "org.a" ∷ [])) ∷ [])
    × (visible see_a (asking (answer 2 4 3 bus_name (names (codes "org.h.N" ∷ [])))) ≡ FromClient (bus_call 1 (codes "Hello")) ∷ NamesAnswered 3 (Some []) ∷ [])
    × (visible see_a (asking (answer 3 4 3 bus_name (a_string (codes "no") ∷ []))) ≡ FromClient (bus_call 1 (codes "Hello")) ∷ NamesAnswered 3 None ∷ [])
    × (visible see_a (asking (answer 2 4 3 bus_name (a_string (codes "no") ∷ []))) ≡ FromClient (bus_call 1 (codes "Hello")) ∷ NamesAnswered 3 None ∷ [])
unfolding everything
names_told = (refl, refl, refl, refl)

-- ---- lines and the End are unchanged, and nothing follows the End

lines_and_end : visible talk_T (Line Client (0 ∷ []) ∷ Line Bus (codes "OK") ∷ Ended ClientEnd ∷ Ended BusEnd ∷ from_client (call 1 (codes "org.a.T") (codes "A")) ∷ [])
    ≡ VisibleLine Client (0 ∷ []) ∷ VisibleLine Bus (codes "OK") ∷ Closed ClientEnd ∷ []
unfolding everything
lines_and_end = refl
