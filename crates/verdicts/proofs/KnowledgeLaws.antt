-- If a tracker and a ledger represent a past, what they keep is what is known after it.
use Rattle.std.proofs.Common.{◌≡◌, ℕ, true, false, List, ap, ◌∙◌}
use Rattle.std.proofs.Math.Path.{fun_ext}
use Rattle.std.specs.List.{list_any}
use Rattle.dbus_names.specs.Names.{is_unique}
use Rattle.dbus_names.specs.Texts.{Text}
use Rattle.name_patterns.specs.Patterns.{covers}
use Rattle.policy_args.specs.Levels.{entries, level_of}
use Rattle.policy_args.specs.Policy.{Policy}
use Rattle.policy_args.specs.declared.Level.{Level}
use Rattle.policy_view.specs.Knowledge.{Knowledge, knowledge}
use Rattle.policy_view.specs.Sent.{Exchange, Past}
use Rattle.reply_ledger.specs.Ledger.{Ledger}
use Rattle.unique_names.specs.Taught.{Ids, kept_numbers}
use Rattle.unique_names.proofs.Learned.{exact-entries, exact-level}
use Rattle.verdicts.specs.Kept.{StandFor, kept, owed_by}

-- no entry covers a unique name
abbrev pub CoversNoUniqueName : Policy → Type 0
CoversNoUniqueName policy = (name : List ℕ) → is_unique name ≡ true → list_any (λ e. covers e.pattern name) policy.entries ≡ false

pub knowledge_is : (policy : Policy) (ids : Ids) (ledger : Ledger) (before : Past) → CoversNoUniqueName policy → StandFor policy ids ledger before →
    kept policy ids ledger.owed ≡ knowledge policy before.told
unfolding knowledge
knowledge_is policy ids ledger before none stand =
    ap (λ (level : Text → Level). of level (kept_numbers policy ids) (owed_by ledger.owed)) (fun_ext (λ name. exact-level ids policy before.told.facts name stand.facts))
    ∙ ap (λ (numbers : Text → List ℕ). of (level_of policy before.told.facts) numbers (owed_by ledger.owed)) (fun_ext (λ name. exact-entries ids policy before.told.facts name (none name) stand.facts))
    ∙ ap (λ (owed : Exchange → ℕ). of (level_of policy before.told.facts) (entries policy before.told.facts) owed) (fun_ext (λ e. stand.replies e))
  where
    of : (Text → Level) → (Text → List ℕ) → (Exchange → ℕ) → Knowledge
    of level numbers owed = record { level = level; entries = numbers; owed = owed }
