-- What is known of names and replies when a message is judged: all that the tables use beside the policy and the
-- message.
use Rattle.std.specs.Prelude.{ℕ, List}
use Rattle.dbus_names.specs.Texts.{Text}
use Rattle.policy_args.specs.Levels.{level_of, entries as entries_of}
use Rattle.policy_args.specs.Policy.{Policy}
use Rattle.policy_args.specs.declared.Level.{Level}
use Rattle.policy_view.specs.Sent.{Exchange, Told, owed as owed_to}

pub record Knowledge : Type 0 where
  -- how far a name, unique or well-known, may be used
  pub level : Text → Level
  -- the numbers of the entries that apply to it, ascending
  pub entries : Text → List ℕ
  -- how many replies the client owes
  pub owed : Exchange → ℕ

-- what follows from the record of the items before
unfoldable pub knowledge : Policy → Told → Knowledge
knowledge policy told = record {
  level = level_of policy told.facts;
  entries = entries_of policy told.facts;
  owed = owed_to told;
}
