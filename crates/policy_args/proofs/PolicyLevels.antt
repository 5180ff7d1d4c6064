-- Levels, one entry after the other.
use Rattle.std.proofs.Common.{◌≡◌, ℕ, Bool, true, false, ◌||◌, List, [], ◌∷◌, if◌then◌else◌, refl, ap, sym}
use Rattle.std.specs.List.{list_any}
use Rattle.name_patterns.specs.Patterns.{covers}
use Rattle.policy_args.specs.declared.Level.{Level}
use Rattle.policy_args.specs.declared.Level.TheVariants.{None as NoLevel, See, Talk, Own}
use Rattle.policy_args.specs.declared.entry.Entry.{Entry}
use Rattle.policy_args.specs.declared.entry.Grant.{Grant}
use Rattle.policy_args.specs.declared.entry.Grant.TheVariants.{See as to_see, Talk as to_talk, Own as to_own, Call as to_call, Broadcast as to_broadcast, Property as to_property}
use Rattle.policy_args.specs.Policy.{Policy, at_least, given_by, granted, greater, level}
use Rattle.dbus_names.specs.Names.{is_bus}

-- the bus itself may be talked to
pub level-is : (policy : Policy) (name : List ℕ) → (if is_bus name then greater Talk (granted policy.entries name) else granted policy.entries name) ≡ level policy name
unfolding level
level-is policy name = refl

pub level-other : (policy : Policy) (name : List ℕ) → is_bus name ≡ false → granted policy.entries name ≡ level policy name
unfolding level
level-other policy name is = ap (λ b. if b then greater Talk (granted policy.entries name) else granted policy.entries name) (sym is)

pub greater-assoc : (a b c : Level) → greater (greater a b) c ≡ greater a (greater b c)
greater-assoc NoLevel b c = refl
greater-assoc See NoLevel c = refl
greater-assoc See See NoLevel = refl
greater-assoc See See See = refl
greater-assoc See See Talk = refl
greater-assoc See See Own = refl
greater-assoc See Talk NoLevel = refl
greater-assoc See Talk See = refl
greater-assoc See Talk Talk = refl
greater-assoc See Talk Own = refl
greater-assoc See Own NoLevel = refl
greater-assoc See Own See = refl
greater-assoc See Own Talk = refl
greater-assoc See Own Own = refl
greater-assoc Talk NoLevel c = refl
greater-assoc Talk See NoLevel = refl
greater-assoc Talk See See = refl
greater-assoc Talk See Talk = refl
greater-assoc Talk See Own = refl
greater-assoc Talk Talk NoLevel = refl
greater-assoc Talk Talk See = refl
greater-assoc Talk Talk Talk = refl
greater-assoc Talk Talk Own = refl
greater-assoc Talk Own NoLevel = refl
greater-assoc Talk Own See = refl
greater-assoc Talk Own Talk = refl
greater-assoc Talk Own Own = refl
greater-assoc Own NoLevel c = refl
greater-assoc Own See NoLevel = refl
greater-assoc Own See See = refl
greater-assoc Own See Talk = refl
greater-assoc Own See Own = refl
greater-assoc Own Talk NoLevel = refl
greater-assoc Own Talk See = refl
greater-assoc Own Talk Talk = refl
greater-assoc Own Talk Own = refl
greater-assoc Own Own NoLevel = refl
greater-assoc Own Own See = refl
greater-assoc Own Own Talk = refl
greater-assoc Own Own Own = refl

-- ---- what is given is See at least

grant_seen : (g : Grant) → at_least See (given_by g) ≡ true
grant_seen to_see = refl
grant_seen to_talk = refl
grant_seen to_own = refl
grant_seen (to_call rule) = refl
grant_seen (to_broadcast rule) = refl
grant_seen (to_property rule) = refl

pub seen_left : (a b : Level) → at_least See a ≡ true → at_least See (greater a b) ≡ true
seen_left NoLevel b h = absurd cc
seen_left See NoLevel h = refl
seen_left See See h = refl
seen_left See Talk h = refl
seen_left See Own h = refl
seen_left Talk NoLevel h = refl
seen_left Talk See h = refl
seen_left Talk Talk h = refl
seen_left Talk Own h = refl
seen_left Own NoLevel h = refl
seen_left Own See h = refl
seen_left Own Talk h = refl
seen_left Own Own h = refl

-- entries give a name a level exactly if one covers it
pub seen_where_covered : (es : List Entry) (name : List ℕ) → at_least See (granted es name) ≡ list_any (λ e. covers e.pattern name) es
seen_where_covered [] name = refl
seen_where_covered (e ∷ es) name = by (covers e.pattern name) (seen_where_covered es name)
  where
    by : (b : Bool) → at_least See (granted es name) ≡ list_any (λ e. covers e.pattern name) es
        → at_least See (if b then greater (given_by e.grant) (granted es name) else granted es name) ≡ (b || list_any (λ e. covers e.pattern name) es)
    by true rest = seen_left (given_by e.grant) (granted es name) (grant_seen e.grant)
    by false rest = rest
