-- What is permitted, in terms of the entries' grants.
use Rattle.std.proofs.Common.{◌≡◌, Bool, true, false, ◌&&◌, ◌||◌, List, [], ◌∷◌, Some, if◌then◌else◌, refl, ap, ap₂, sym, ◌∙◌}
use Rattle.std.specs.List.{list_any}
use Rattle.dbus_names.specs.Names.{is_bus}
use Rattle.dbus_names.specs.Texts.{Text}
use Rattle.name_patterns.specs.Patterns.{covers}
use Rattle.policy_args.specs.Policy.{Policy, at_least, given_by, granted, greater, level}
use Rattle.policy_args.specs.Requests.{Within, access_member, access_property, accesses, asked_name, calls, grant_permits, has_entry, level_asked, permits, properties_interface, rule_matches}
use Rattle.policy_args.specs.declared.Level.{Level}
use Rattle.policy_args.specs.declared.Level.TheVariants.{None as NoLevel, See, Talk, Own}
use Rattle.policy_args.specs.declared.entry.Entry.{Entry}
use Rattle.policy_args.specs.declared.entry.Grant.{Grant}
use Rattle.policy_args.specs.declared.requests.Asked.{Asked}
use Rattle.policy_args.specs.declared.requests.Asked.TheVariants.{Call, Signal, Own as OwnName, Owner, Broadcast, Property}
use Rattle.policy_args.proofs.PolicyLevels.{level-other}

-- ---- a policy by its levels and rules

or-false : (b : Bool) → b ≡ (b || false)
or-false true = refl
or-false false = refl

or-assoc : (a b c : Bool) → ((a || b) || c) ≡ (a || (b || c))
or-assoc true b c = refl
or-assoc false b c = refl

-- one of two tests
any-or : (p q : Entry → Bool) (es : List Entry) → (list_any p es || list_any q es) ≡ list_any (λ e. p e || q e) es
any-or p q [] = refl
any-or p q (e ∷ es) = by (p e) (q e) (list_any p es) (list_any q es) ∙ ap (λ b. (p e || q e) || b) (any-or p q es)
  where
    by : (a b c d : Bool) → ((a || c) || (b || d)) ≡ ((a || b) || (c || d))
    by true b c d = refl
    by false true true d = refl
    by false true false d = refl
    by false false c d = refl

any-same : (p q : Entry → Bool) (es : List Entry) → ((e : Entry) → p e ≡ q e) → list_any p es ≡ list_any q es
any-same p q [] same = refl
any-same p q (e ∷ es) same = ap₂ (λ a b. a || b) (same e) (any-same p q es same)

any-none : (p : Entry → Bool) (es : List Entry) → ((e : Entry) → p e ≡ false) → list_any p es ≡ false
any-none p [] none = refl
any-none p (e ∷ es) none = ap₂ (λ a b. a || b) (none e) (any-none p es none)

no-entry : (policy : Policy) (name : Text) → has_entry policy name (λ grant. false) ≡ false
no-entry policy name = any-none (λ e. covers e.pattern name && false) policy.entries (λ e. by (covers e.pattern name))
  where
    by : (b : Bool) → (b && false) ≡ false
    by true = refl
    by false = refl

shared : (b u v : Bool) → ((b && u) || (b && v)) ≡ (b && (u || v))
shared true u v = refl
shared false u v = refl

entry-or : (policy : Policy) (name : Text) (p q : Grant → Bool) → (has_entry policy name p || has_entry policy name q) ≡ has_entry policy name (λ grant. p grant || q grant)
entry-or policy name p q =
    any-or (λ e. covers e.pattern name && p e.grant) (λ e. covers e.pattern name && q e.grant) policy.entries
    ∙ any-same _ (λ e. covers e.pattern name && (p e.grant || q e.grant)) policy.entries (λ e. shared (covers e.pattern name) (p e.grant) (q e.grant))

pub permits-parts : (policy : Policy) (asked : Asked) → permits policy asked ≡ (at_least (level_asked asked) (level policy (asked_name asked)) || has_entry policy (asked_name asked) (rule_matches asked))
unfolding permits
permits-parts policy (Call name path interface member) = refl
permits-parts policy (Signal name) = or-false _ ∙ ap (λ b. at_least Talk (level policy name) || b) (sym (no-entry policy name))
permits-parts policy (OwnName name) = or-false _ ∙ ap (λ b. at_least Own (level policy name) || b) (sym (no-entry policy name))
permits-parts policy (Owner name) = or-false _ ∙ ap (λ b. at_least See (level policy name) || b) (sym (no-entry policy name))
permits-parts policy (Broadcast name path interface member) = refl
permits-parts policy (Property name path interface access) =
    or-assoc (at_least Talk (level policy name)) (has_entry policy name (calls path (Some properties_interface) (access_member access)))
    (has_entry policy name (accesses path interface (access_property access)))
    ∙ ap (λ b. at_least Talk (level policy name) || b) (entry-or policy name (calls path (Some properties_interface) (access_member access)) (accesses path interface (access_property access)))

-- ---- levels by entries

reached-greater : (least a b : Level) → at_least least (greater a b) ≡ (at_least least a || at_least least b)
reached-greater NoLevel a b = refl
reached-greater See NoLevel b = refl
reached-greater See See NoLevel = refl
reached-greater See See See = refl
reached-greater See See Talk = refl
reached-greater See See Own = refl
reached-greater See Talk NoLevel = refl
reached-greater See Talk See = refl
reached-greater See Talk Talk = refl
reached-greater See Talk Own = refl
reached-greater See Own NoLevel = refl
reached-greater See Own See = refl
reached-greater See Own Talk = refl
reached-greater See Own Own = refl
reached-greater Talk NoLevel b = refl
reached-greater Talk See NoLevel = refl
reached-greater Talk See See = refl
reached-greater Talk See Talk = refl
reached-greater Talk See Own = refl
reached-greater Talk Talk NoLevel = refl
reached-greater Talk Talk See = refl
reached-greater Talk Talk Talk = refl
reached-greater Talk Talk Own = refl
reached-greater Talk Own NoLevel = refl
reached-greater Talk Own See = refl
reached-greater Talk Own Talk = refl
reached-greater Talk Own Own = refl
reached-greater Own NoLevel b = refl
reached-greater Own See NoLevel = refl
reached-greater Own See See = refl
reached-greater Own See Talk = refl
reached-greater Own See Own = refl
reached-greater Own Talk NoLevel = refl
reached-greater Own Talk See = refl
reached-greater Own Talk Talk = refl
reached-greater Own Talk Own = refl
reached-greater Own Own NoLevel = refl
reached-greater Own Own See = refl
reached-greater Own Own Talk = refl
reached-greater Own Own Own = refl

reached-granted : (least : Level) (es : List Entry) (name : Text) → at_least least NoLevel ≡ false → at_least least (granted es name) ≡ list_any (λ e. covers e.pattern name && at_least least (given_by e.grant)) es
reached-granted least [] name some = some
reached-granted least (e ∷ es) name some = by (covers e.pattern name) ∙ ap (λ b. (covers e.pattern name && at_least least (given_by e.grant)) || b) (reached-granted least es name some)
  where
    by : (b : Bool) → at_least least (if b then greater (given_by e.grant) (granted es name) else granted es name) ≡ ((b && at_least least (given_by e.grant)) || at_least least (granted es name))
    by true = reached-greater least (given_by e.grant) (granted es name)
    by false = refl

asks-some : (asked : Asked) → at_least (level_asked asked) NoLevel ≡ false
asks-some (Call name path interface member) = refl
asks-some (Signal name) = refl
asks-some (OwnName name) = refl
asks-some (Owner name) = refl
asks-some (Broadcast name path interface member) = refl
asks-some (Property name path interface access) = refl

pub permits_by_entries : (policy : Policy) (asked : Asked) → is_bus (asked_name asked) ≡ false →
    permits policy asked ≡ list_any (λ e. covers e.pattern (asked_name asked) && grant_permits e.grant asked) policy.entries
permits_by_entries policy asked other =
    permits-parts policy asked
    ∙ ap (λ b. b || has_entry policy (asked_name asked) (rule_matches asked))
    (ap (at_least (level_asked asked)) (sym (level-other policy (asked_name asked) other)) ∙ reached-granted (level_asked asked) policy.entries (asked_name asked) (asks-some asked))
    ∙ entry-or policy (asked_name asked) (λ grant. at_least (level_asked asked) (given_by grant)) (rule_matches asked)

-- ---- policies within others

pub within-itself : (a : Policy) → Within a a
within-itself a = λ asked is permitted. permitted

pub within-through : (a b c : Policy) → Within a b → Within b c → Within a c
within-through a b c first second = λ asked is permitted. second asked is (first asked is permitted)
