-- What a tracker and a ledger keep of names and replies, and which pasts they represent.
use Rattle.std.specs.Prelude.{◌≡◌, ℕ, Option, Some, None}
use Rattle.std.specs.Ordering.{nat_cmp}
use Rattle.std.specs.FinMap.{FinMap, get}
use Rattle.dbus_names.specs.Texts.{Text}
use Rattle.policy_args.specs.Policy.{Policy}
use Rattle.policy_view.specs.Knowledge.{Knowledge}
use Rattle.policy_view.specs.Sent.{Exchange, Past, answered, owed}
use Rattle.reply_ledger.specs.Ledger.{Ledger}
use Rattle.reply_ledger.specs.Owed.{Replies, count_of}
use Rattle.reply_ledger.specs.declared.kind.Kind.{Kind}
use Rattle.unique_names.specs.Taught.{Ids, Taught, kept_level, kept_numbers}

-- an absent name is owed nothing
abbrev pub owed_to : Replies → Option Text → ℕ → ℕ
owed_to replies None n = 0
owed_to replies (Some peer) n = count_of replies peer n

abbrev pub owed_by : Replies → Exchange → ℕ
owed_by replies e = owed_to replies e.peer e.number

-- the answer that is expected with a REPLY_SERIAL
abbrev pub expected_at : FinMap nat_cmp Kind → Option ℕ → Option Kind
expected_at expected None = None
expected_at expected (Some r) = get expected r

abbrev pub kept : Policy → Ids → Replies → Knowledge
kept policy ids replies = record { level = kept_level policy ids; entries = kept_numbers policy ids; owed = owed_by replies }

-- They represent a past: the tracker has learned its facts, and the ledger has what is owed and what each answer is
-- for.
pub record StandFor (policy : Policy) (ids : Ids) (ledger : Ledger) (before : Past) : Type 0 where
  pub facts : Taught ids policy before.told.facts
  pub replies : (e : Exchange) → owed_by ledger.owed e ≡ owed before.told e
  pub answers : (r : Option ℕ) → expected_at ledger.expected r ≡ answered before r
