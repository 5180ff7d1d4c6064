-- The visible part of a history: what is left of it if all that the policy hides is erased.
use Rattle.std.specs.Prelude.{ℕ, List, [], ◌∷◌, ◌++◌, Option, Some, None}
use Rattle.dbus_names.specs.Texts.{Text}
use Rattle.dbus_header.specs.Message.{Message, reply_serial}
use Rattle.policy_args.specs.Levels.{level_of}
use Rattle.policy_args.specs.Policy.{Policy}
use Rattle.policy_args.specs.declared.Level.{Level}
use Rattle.policy_view.specs.Sent.{Past, asked}
use Rattle.policy_view.specs.Verdicts.{number_or_0}
use Rattle.policy_view.specs.Shown.{BusRole, OwnerAnswer, NamesAnswer, cut, shown}
use Rattle.policy_view.specs.Past.{Item, Line, Msg, Raw, Ended, History, past, role, if_unique, returned_text, returned_names}
use Rattle.policy_view.specs.declared.Side.{Side}
use Rattle.policy_view.specs.declared.Side.TheVariants.{Client, Bus}
use Rattle.policy_view.specs.declared.End.{End}
use Rattle.policy_view.specs.declared.Showing.{Showing}
use Rattle.policy_view.specs.declared.Showing.TheVariants.{Whole, Reply, Cut, Instead as InsteadOf, Hide}

-- An element of the visible part. A position is a place among the messages that were sent to the bus, which the
-- REPLY_SERIAL of the answer gives; messages of the bus have their original REPLY_SERIAL.
pub data Visible : Type 0 where
  VisibleLine : (side : Side) (bytes : List ℕ) → Visible
  FromClient : (message : Message) → Visible
  ShownWhole : (message : Message) → Visible
  ShownCut : (message : Message) → Visible
  -- the answer to a ping
  PingAnswered : (position serial : ℕ) → Visible
  -- the answer to the proxy's own GetNameOwner: the unique owner, or none if the call was refused
  OwnerAnswered : (position : ℕ) (owner : Option Text) → Visible
  -- the answer to the proxy's own ListNames: the names whose owners are asked for, or none if the call was refused
  NamesAnswered : (position : ℕ) (names : Option (List Text)) → Visible
  Closed : (end : End) → Visible

abbrev pub position_of : Message → ℕ
position_of m = number_or_0 (reply_serial m)

-- the names of a list whose owners are asked for
abbrev pub names_asked : Policy → Option (List Text) → Option (List Text)
names_asked policy None = None
names_asked policy (Some names) = Some (asked policy names)

-- what is left of a hidden message that answers a call of the proxy's own
abbrev pub visible_hidden : Policy → Message → BusRole → List Visible
visible_hidden policy m (OwnerAnswer name) = OwnerAnswered (position_of m) (if_unique (returned_text m)) ∷ []
visible_hidden policy m NamesAnswer = NamesAnswered (position_of m) (names_asked policy (returned_names m)) ∷ []
visible_hidden policy m _ = []

-- what is left of a message, by what the client is shown of it
abbrev pub visible_as : Policy → (Text → Level) → Message → BusRole → Showing → List Visible
visible_as policy level m role Whole = ShownWhole m ∷ []
visible_as policy level m role (Reply serial) = ShownWhole m ∷ []
visible_as policy level m role (Cut serial) = ShownCut (cut level m) ∷ []
visible_as policy level m role (InsteadOf order reply what) = PingAnswered (position_of m) m.serial ∷ []
visible_as policy level m role (Hide reason) = visible_hidden policy m role

-- the elements of an item: one or none
unfoldable pub visible_of : Policy → Past → Item → List Visible
visible_of policy before (Line side bytes) = VisibleLine side bytes ∷ []
visible_of policy before (Msg Client m) = FromClient m ∷ []
visible_of policy before (Msg Bus m) =
    visible_as policy (level_of policy before.told.facts) m (role before m) (shown policy before m)
visible_of policy before (Raw side bytes) = []
visible_of policy before (Ended end) = Closed end ∷ []

-- the visible part of a history, in the order of its items
unfoldable pub part : Policy → History → List Visible
part policy [] = []
part policy (item ∷ before) = part policy before ++ visible_of policy (past policy before) item
