-- What the entries of a name that is only seen say of a call, one after the other.
use Rattle.std.specs.Prelude.{ℕ, ◌+◌, ◌*◌, List, [], ◌∷◌, length, if◌then◌else◌, Option, Some, None}
use Rattle.dbus_header.specs.Message.{Message, interface, member, path}
use Rattle.dbus_header.specs.declared.Instead.TheVariants.{AccessDenied}
use Rattle.dbus_names.specs.Texts.{Text}
use Rattle.name_patterns.specs.Ranks.{elements}
use Rattle.policy_args.specs.Policy.{Policy}
use Rattle.unique_names.specs.Merged.{NameNumbers}
use Rattle.policy_view.specs.Properties.{PropertyRequest}
use Rattle.policy_view.specs.Verdicts.{entry_passes, lets_pass, number_or_0, refused, rules_calls}
use Rattle.policy_view.specs.declared.Reason.TheVariants.{NoRule, OnlySee}
use Rattle.policy_view.specs.declared.Verdict.{Verdict}
use Rattle.policy_view.specs.declared.Verdict.TheVariants.{Pass}
use Rattle.verdicts.specs.declared.entries.Lowest.{Lowest}

-- the first number if it is present, else the other
abbrev pub first_of : Option ℕ → Option ℕ → Option ℕ
first_of None other = other
first_of (Some n) other = Some n

-- the lowest numbers with that of one more entry
abbrev pub lowest_with : Policy → ℕ → Lowest → Lowest
lowest_with policy n lowest = record {
  any = first_of lowest.any (Some n);
  ruled = if entry_passes policy rules_calls n then first_of lowest.ruled (Some n) else lowest.ruled;
}

-- refused, by the lowest numbers of the entries that were looked at
abbrev pub unruled : Message → Option ℕ → Option ℕ → Verdict
unruled m any (Some n) = refused m AccessDenied (NoRule n)
unruled m any None = refused m AccessDenied (OnlySee (number_or_0 any))

abbrev pub refused_by_rules : Message → Lowest → Verdict
refused_by_rules m lowest = unruled m lowest.any lowest.ruled

-- the verdict by the entries with these numbers, and the lowest ones of those before
abbrev pub judged_from : Policy → Message → Option PropertyRequest → List ℕ → Lowest → Verdict
judged_from policy m request [] lowest = refused_by_rules m lowest
judged_from policy m request (n ∷ ns) lowest =
    if entry_passes policy (lets_pass (path m) (interface m) (member m) request) n then Pass
    else judged_from policy m request ns (lowest_with policy n lowest)

-- ---- what is counted

-- the most steps of a walk over the entries of a name: finding each takes one look-up for each element of the name, and
-- testing it is one more; finding that there is no other takes as many look-ups
abbrev pub steps_for : Text → List ℕ → ℕ
steps_for name numbers = (length numbers + 1) * (elements name + 1)

abbrev pub entry_steps : NameNumbers → ℕ
entry_steps named = steps_for named.name named.numbers
