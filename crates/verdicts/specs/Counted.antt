-- The number of steps that a verdict and a showing take, beside reading the message's own bytes.
use Rattle.std.specs.Prelude.{ℕ, ◌+◌, Option, Some, None, option_map}
use Rattle.dbus_header.specs.Message.{Message, first_text, sender, three_texts}
use Rattle.dbus_names.specs.Texts.{Text}
use Rattle.name_patterns.specs.Ranks.{elements}
use Rattle.policy_args.specs.Policy.{Policy}
use Rattle.policy_view.specs.Verdicts.{ClientRole, OfUnknownType, Reply, Broadcast, SignalTo, StandardBusCall, OtherBusCall, BusCall, CallTo, client_role}
use Rattle.policy_view.specs.Shown.{BusRole, NoRole, Unexpected, MatchAnswer, OwnerAnswer, NamesAnswer, PingAnswer, NameList, HelloAnswer, OtherAnswer, CallIn, OwnerChange, SignalIn, BroadcastIn, bus_role}
use Rattle.reply_ledger.specs.declared.kind.Kind.{Kind as Expected}
use Rattle.unique_names.specs.Taught.{Ids, kept_numbers}
use Rattle.verdicts.specs.Entries.{steps_for}

-- the most steps for a name: those that find its level, those that find what is known of it, and those of a walk over
-- its entries
abbrev pub name_steps : Policy → Ids → Text → ℕ
name_steps policy ids name = elements name + 3 + steps_for name (kept_numbers policy ids name)

-- those for the text of a call to the bus, if it has one
abbrev pub text_steps : Policy → Ids → Option Text → ℕ
text_steps policy ids None = 0
text_steps policy ids (Some text) = name_steps policy ids text

-- those of a verdict on a message of this role with this first text: only the name that it concerns counts
abbrev pub role_steps : Policy → Ids → ClientRole → Option Text → ℕ
role_steps policy ids OfUnknownType text = 0
role_steps policy ids Reply text = 0
role_steps policy ids Broadcast text = 0
role_steps policy ids (SignalTo name) text = name_steps policy ids name
role_steps policy ids StandardBusCall text = 0
role_steps policy ids OtherBusCall text = 0
role_steps policy ids BusCall text = text_steps policy ids text
role_steps policy ids (CallTo name) text = name_steps policy ids name

-- those of a showing of a message of this role, with this changed name and this sender
abbrev pub shown_steps : Policy → Ids → BusRole → Option Text → Option Text → ℕ
shown_steps policy ids NoRole changed sender = 0
shown_steps policy ids Unexpected changed sender = 0
shown_steps policy ids MatchAnswer changed sender = 0
shown_steps policy ids (OwnerAnswer name) changed sender = 0
shown_steps policy ids NamesAnswer changed sender = 0
shown_steps policy ids (PingAnswer serial order what) changed sender = 0
shown_steps policy ids (NameList serial) changed sender = 0
shown_steps policy ids (HelloAnswer serial) changed sender = 0
shown_steps policy ids (OtherAnswer serial) changed sender = 0
shown_steps policy ids CallIn changed sender = 0
shown_steps policy ids OwnerChange changed sender = text_steps policy ids changed
shown_steps policy ids SignalIn changed sender = 0
shown_steps policy ids BroadcastIn changed sender = text_steps policy ids sender

-- the first of the three texts of a change of a name's owner: the name
abbrev pub changed_name : Option (Text × Text × Text) → Option Text
changed_name texts = option_map (λ t. t.0) texts

-- ---- for a message

-- those of the verdict on a message of the client
abbrev pub judge_steps : Policy → Ids → Message → ℕ
judge_steps policy ids m = role_steps policy ids (client_role m) (first_text m)

-- those of the showing of a message of the bus that answers this
abbrev pub show_steps : Policy → Ids → Option Expected → Message → ℕ
show_steps policy ids answer m = shown_steps policy ids (bus_role answer m) (changed_name (three_texts m)) (sender m)
