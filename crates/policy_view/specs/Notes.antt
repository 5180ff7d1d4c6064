-- The notes of a history: what was decided on each of its messages, numbered from 1, both sides counted together.
use Rattle.std.specs.Prelude.{ℕ, ◌+◌, List, [], ◌∷◌, ◌++◌, if◌then◌else◌}
use Rattle.dbus_header.specs.Message.{Message, spell}
use Rattle.policy_args.specs.Policy.{Policy}
use Rattle.policy_view.specs.Sent.{Past}
use Rattle.policy_view.specs.Shown.{shown}
use Rattle.policy_view.specs.Past.{Item, Line, Msg, Raw, Ended, History, past, judged}
use Rattle.policy_view.specs.declared.Mode.{Mode}
use Rattle.policy_view.specs.declared.Side.{Side}
use Rattle.policy_view.specs.declared.Side.TheVariants.{Client, Bus}
use Rattle.policy_view.specs.declared.Decision.{Decision}
use Rattle.policy_view.specs.declared.Decision.TheVariants.{Judged, Shown}

pub record Note : Type 0 where
  pub number : ℕ
  pub side : Side
  -- the message's bytes, as received
  pub frame : List ℕ
  pub decision : Decision

-- the verdict on a message of the client, and what is shown of one of the bus
abbrev pub decision_on : Policy → Past → Side → Message → Decision
decision_on policy before Client m = Judged (judged policy before.told m)
decision_on policy before Bus m = Shown (shown policy before m)

-- the notes so far and their number, with the note on one more item: only a message has one
abbrev pub with_note_of : Policy → Past → Item → List Note × ℕ → List Note × ℕ
with_note_of policy before (Msg side m) so_far =
    (so_far.0 ++ record { number = so_far.1 + 1; side = side; frame = spell m; decision = decision_on policy before side m } ∷ [], so_far.1 + 1)
with_note_of policy before (Line side bytes) so_far = so_far
with_note_of policy before (Raw side bytes) so_far = so_far
with_note_of policy before (Ended end) so_far = so_far

-- the notes of a history and their number
unfoldable pub numbered : Policy → History → List Note × ℕ
numbered policy [] = ([], 0)
numbered policy (item ∷ before) = with_note_of policy (past policy before) item (numbered policy before)

abbrev pub notes : Policy → History → List Note
notes policy items = (numbered policy items).0

-- the notes that a session makes: all if it makes notes, and else none
abbrev pub notes_made : Mode → Policy → History → List Note
notes_made mode policy items = if mode.notes then notes policy items else []
