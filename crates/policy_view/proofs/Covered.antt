-- A name that an entry covers is seen, so a hidden owner change gives no facts.
use Rattle.std.proofs.Common.{◌≡◌, Bool, true, false, ◌&&◌, ◌||◌, if◌then◌else◌, List, [], ◌++◌, Option, Some, None, refl, ◌∙◌, ◌⊎◌, inl, inr}
use Rattle.std.specs.List.{list_any}
use Rattle.dbus_names.specs.Names.{is_bus, is_unique, is_well_known}
use Rattle.dbus_names.specs.Texts.{Text}
use Rattle.name_patterns.specs.Patterns.{covers}
use Rattle.policy_args.specs.Levels.{level_of, level_of_id}
use Rattle.policy_args.specs.Policy.{Policy, at_least, granted, greater, level}
use Rattle.policy_args.proofs.PolicyLevels.{seen_left, seen_where_covered}
use Rattle.policy_args.specs.declared.Level.{Level}
use Rattle.policy_args.specs.declared.Level.TheVariants.{None as Hidden, See, Talk}
use Rattle.policy_args.specs.declared.entry.Entry.{Entry}
use Rattle.policy_args.specs.declared.fact.Fact.{Fact}
use Rattle.policy_args.specs.declared.fact.Fact.TheVariants.{Owned}
use Rattle.policy_view.specs.Knowledge.{knowledge}
use Rattle.policy_view.specs.Past.{fact_of, if_unique, is_covered, owners_of}
use Rattle.policy_view.specs.Sent.{Told}
use Rattle.policy_view.specs.Shown.{on_owner_change}
use Rattle.policy_view.specs.declared.Reason.{Reason}
use Rattle.policy_view.specs.declared.Reason.TheVariants.{BadArgument, NameHidden}
use Rattle.policy_view.specs.declared.Showing.TheVariants.{Whole, Hide}

seen_beside_talk : (b : Level) → at_least See (greater Talk b) ≡ true
seen_beside_talk b = seen_left Talk b refl

abbrev covers_it : Text → Entry → Bool
covers_it name e = covers e.pattern name

level_seen : (policy : Policy) (name : Text) → list_any (covers_it name) policy.entries ≡ true → at_least See (level policy name) ≡ true
unfolding level
level_seen policy name h = by (is_bus name)
  where
    by : (b : Bool) → at_least See (if b then greater Talk (granted policy.entries name) else granted policy.entries name) ≡ true
    by true = seen_beside_talk (granted policy.entries name)
    by false = seen_where_covered policy.entries name ∙ h

pub covered_seen : (policy : Policy) (facts : List Fact) (name : Text) → is_covered policy name ≡ true → at_least See (level_of policy facts name) ≡ true
unfolding level_of
covered_seen policy facts name h = by (is_well_known name) h
  where
    by : (b : Bool) → (b && list_any (covers_it name) policy.entries) ≡ true → at_least See (if b then level policy name else (if is_unique name then level_of_id policy facts name else Hidden)) ≡ true
    by true h = level_seen policy name h
    by false h = absurd cc

-- an owner change is shown whole, or it gives no facts
pub change_cases : (policy : Policy) (told : Told) (texts : Option (Text × Text × Text)) → (on_owner_change policy.sloppy (knowledge policy told) texts ≡ Whole)
    ⊎ ((reason : Reason) × (on_owner_change policy.sloppy (knowledge policy told) texts ≡ Hide reason) × (owners_of policy texts ≡ []))
unfolding knowledge
change_cases policy told None = inr (BadArgument, refl, refl)
change_cases policy told (Some texts) = by (at_least See (level_of policy told.facts texts.0)) (policy.sloppy && is_unique texts.0) refl
  where
    nothing : (b : Bool) → is_covered policy texts.0 ≡ b → at_least See (level_of policy told.facts texts.0) ≡ false
        → (if b then fact_of (Owned texts.0) (if_unique (Some texts.1)) ++ fact_of (Owned texts.0) (if_unique (Some texts.2)) else []) ≡ []
    nothing true e h = absurd (let s : at_least See (level_of policy told.facts texts.0) ≡ true = covered_seen policy told.facts texts.0 e in cc)
    nothing false e h = refl

    by : (b shown : Bool) → at_least See (level_of policy told.facts texts.0) ≡ b → ((if b || shown then Whole else Hide NameHidden) ≡ Whole)
        ⊎ ((reason : Reason) × ((if b || shown then Whole else Hide NameHidden) ≡ Hide reason) × (owners_of policy (Some texts) ≡ []))
    by true shown e = inl refl
    by false true e = inl refl
    by false false e = inr (NameHidden, refl, nothing (is_covered policy texts.0) refl e)
