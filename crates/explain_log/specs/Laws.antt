-- The laws of lines and of entries' lines, as statements.
use Rattle.std.specs.Prelude.{◌≡◌, ◌≤◌, ◌<◌, ℕ, List, length, All, ◌↔◌}
use Rattle.std.specs.Option.{IsSome}
use Rattle.dbus_header.specs.Message.{Message, spell}
use Rattle.policy_args.specs.Policy.{Policy}
use Rattle.policy_view.specs.Notes.{Note, notes}
use Rattle.policy_view.specs.Past.{Item}
use Rattle.policy_view.specs.declared.Side.{Side}
use Rattle.policy_view.specs.declared.Decision.{Decision}
use Rattle.explain_log.specs.Lines.{line_of, log_line, entry_line, decision_entry}

-- the line of a note whose frame spells a message tells that message
abbrev pub TellsMessage : ℕ → ℕ → Side → Message → Decision → Type 0
TellsMessage session number side m decision =
    log_line session (record { number = number; side = side; frame = spell m; decision = decision }) ≡ line_of session side number m decision

-- The entry of a note's decision is one of the policy's, and it has a line exactly if the decision rests on one.
pub record SpeaksOf (policy : Policy) (note : Note) : Type 0 where
  pub within : decision_entry note.decision ≤ length policy.entries
  pub told : IsSome (entry_line policy note) ↔ (0 < decision_entry note.decision)

-- each note of a history does
abbrev pub SpeakOf : Policy → List Item → Type 0
SpeakOf policy items = All (SpeaksOf policy) (notes policy items)
