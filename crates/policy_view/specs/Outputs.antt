-- What a history gives out: the bytes for either side, and the messages that the client is shown.
use Rattle.std.specs.Prelude.{ℕ, ◌+◌, List, [], ◌∷◌, ◌++◌, length, flat_map}
use Rattle.dbus_header.specs.Message.{Message, spell}
use Rattle.policy_args.specs.Policy.{Policy}
use Rattle.policy_args.specs.declared.fact.Fact.{Fact}
use Rattle.policy_view.specs.Sent.{Sent, Past, spelled_from}
use Rattle.policy_view.specs.Shown.{seen}
use Rattle.policy_view.specs.Past.{Item, Line, Msg, Raw, Ended, History, past, due}
use Rattle.policy_view.specs.declared.Side.TheVariants.{Client, Bus}
use Rattle.sasl_watch.specs.Lines.{for_bus}

-- every message that was sent to the bus, the n-th with serial n
abbrev pub sent : Policy → History → List Sent
sent policy items = (past policy items).told.sent

abbrev pub facts : Policy → History → List Fact
facts policy items = (past policy items).told.facts

-- the bytes for the bus that an item makes: a line of the client, the due messages, with the next serials, or the
-- client's raw bytes
unfoldable pub to_bus : Policy → Past → Item → List ℕ
to_bus policy before (Line Client bytes) = for_bus bytes
to_bus policy before (Line Bus bytes) = []
to_bus policy before (Msg side m) = spelled_from (length before.told.sent + 1) (due policy before (Msg side m))
to_bus policy before (Raw Client bytes) = bytes
to_bus policy before (Raw Bus bytes) = []
to_bus policy before (Ended end) = []

unfoldable pub bus_bytes : Policy → History → List ℕ
bus_bytes policy [] = []
bus_bytes policy (item ∷ before) = bus_bytes policy before ++ to_bus policy (past policy before) item

-- the messages that the client is shown for an item
unfoldable pub seen_of : Policy → Past → Item → List Message
seen_of policy before (Msg Bus m) = seen policy before m
seen_of policy before _ = []

-- all messages that the client is shown, in order
unfoldable pub seen_in : Policy → History → List Message
seen_in policy [] = []
seen_in policy (item ∷ before) = seen_in policy before ++ seen_of policy (past policy before) item

-- the bytes for the client that an item makes: a line of the bus, the messages that are shown, or the bus's raw bytes
unfoldable pub to_client : Policy → Past → Item → List ℕ
to_client policy before (Line Client bytes) = []
to_client policy before (Line Bus bytes) = bytes
to_client policy before (Msg side m) = flat_map spell (seen_of policy before (Msg side m))
to_client policy before (Raw Client bytes) = []
to_client policy before (Raw Bus bytes) = bytes
to_client policy before (Ended end) = []

unfoldable pub client_bytes : Policy → History → List ℕ
client_bytes policy [] = []
client_bytes policy (item ∷ before) = client_bytes policy before ++ to_client policy (past policy before) item
