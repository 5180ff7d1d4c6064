-- Worked examples of one policy within another.
use Rattle.std.specs.Prelude.{◌≡◌, ℕ, true, false, Bool, List, [], ◌∷◌, codes, refl, map, Option, Some, None}
use Rattle.std.specs.Fmt.{digits}
use Rattle.call_rules.specs.Properties.{PropertyRule}
use Rattle.call_rules.specs.Rules.{Rule}
use Rattle.dbus_names.specs.Texts.{Text}
use Rattle.policy_args.specs.Policy.{level, policy_of}
use Rattle.policy_args.specs.Requests.{permits}
use Rattle.policy_args.specs.declared.entry.Entry.{Entry}
use Rattle.policy_args.specs.declared.entry.Grant.{Grant}
use Rattle.policy_args.specs.declared.entry.Grant.TheVariants.{See as to_see, Talk as to_talk, Own as to_own, Call as to_call, Broadcast as to_broadcast, Property as to_property}
use Rattle.policy_args.specs.declared.requests.Access.{Access}
use Rattle.policy_args.specs.declared.requests.Access.TheVariants.{Get, Set, GetAll}
use Rattle.policy_args.specs.declared.requests.Asked.{Asked}
use Rattle.policy_args.specs.declared.requests.Asked.TheVariants.{Call, Signal, Own as OwnName, Broadcast, Property}
use Rattle.policy_within.specs.Elements.{fresh}
use Rattle.policy_within.specs.Points.{points}
use Rattle.policy_within.specs.Within.{answer_of, covered_by, first_refused}
use Rattle.policy_within.specs.declared.answer.WithinAnswer.{WithinAnswer}
use Rattle.policy_within.specs.declared.answer.WithinAnswer.TheVariants.{Yes, No}

-- ---- entries

abbrev exact : Text → Grant → Entry
exact name grant = record { pattern = record { name = name; exact = true }; grant = grant }

-- NAME.*
abbrev subtree : Text → Grant → Entry
subtree name grant = record { pattern = record { name = name; exact = false }; grant = grant }

abbrev rule : Option Text → Option Text → Option Text → Bool → Rule
rule interface member path below = record { text = []; interface = interface; member = member; path = path; below = below }

abbrev property_rule : Text → Option Text → Option Text → Bool → PropertyRule
property_rule interface property path below = record { text = []; interface = interface; property = property; path = path; below = below }

abbrev one_in_one : Entry → Entry → WithinAnswer
one_in_one a b = answer_of (policy_of (a ∷ [])) (policy_of (b ∷ []))

abbrev yes : List ℕ → WithinAnswer
yes by = Yes (record { entry = 1; by = by } ∷ [])

-- ---- names and levels

calls_in_talk : one_in_one (exact (codes "org.a.C") (to_call (rule (Some (codes "org.a.I")) None (Some (codes "/p")) true))) (subtree (codes "org.a") to_talk) ≡ yes (1 ∷ [])
unfolding first_refused covered_by fresh permits level digits
calls_in_talk = refl

talk_in_calls : one_in_one (subtree (codes "org.a") to_talk) (exact (codes "org.a.C") (to_call (rule (Some (codes "org.a.I")) None (Some (codes "/p")) true))) ≡ No (Signal (codes "org.a.z0"))
unfolding first_refused covered_by fresh permits level digits
talk_in_calls = refl

abbrev of_c : Grant → Entry
of_c grant = exact (codes "org.a.C") grant

levels : one_in_one (of_c to_see) (of_c to_talk) ∷ one_in_one (of_c to_see) (of_c to_own) ∷ one_in_one (of_c to_talk) (of_c to_see) ∷ one_in_one (of_c to_talk) (of_c to_own) ∷ one_in_one (of_c to_own) (of_c to_talk) ∷ one_in_one (of_c to_own) (of_c to_own) ∷ []
    ≡ yes (1 ∷ []) ∷ yes (1 ∷ []) ∷ No (Signal (codes "org.a.C")) ∷ yes (1 ∷ []) ∷ No (OwnName (codes "org.a.C")) ∷ yes (1 ∷ []) ∷ []
unfolding first_refused covered_by fresh permits level digits
levels = refl

-- N.* has N and what is below it
names : map (λ a. one_in_one a (subtree (codes "org.a") to_talk)) (exact (codes "org.a") to_talk ∷ exact (codes "org.a.C.D") to_talk ∷ subtree (codes "org.a.C") to_talk ∷ exact (codes "org.ab") to_talk ∷ subtree (codes "org") to_talk ∷ [])
    ≡ yes (1 ∷ []) ∷ yes (1 ∷ []) ∷ yes (1 ∷ []) ∷ No (Signal (codes "org.ab")) ∷ No (Signal (codes "org.z0")) ∷ []
unfolding first_refused covered_by fresh permits level digits
names = refl

-- the bus's own name is asked for no request
of_the_bus : answer_of (policy_of (exact (codes "org.freedesktop.DBus") to_own ∷ subtree (codes "org.freedesktop") to_see ∷ [])) (policy_of (subtree (codes "org") to_see ∷ []))
    ≡ Yes (record { entry = 1; by = [] } ∷ record { entry = 2; by = 1 ∷ [] } ∷ [])
unfolding first_refused covered_by fresh permits level digits
of_the_bus = refl

-- the first element that isn't named
element : fresh (subtree (codes "org.z0") (to_call (rule (Some (codes "z1.I")) (Some (codes "z3")) (Some (codes "/z2")) true)) ∷ []) ≡ codes "z4"
unfolding fresh digits
element = refl

-- ---- rules

abbrev calls_at : Option Text → Bool → Entry
calls_at path below = of_c (to_call (rule None None path below))

paths : one_in_one (calls_at (Some (codes "/p/q")) false) (calls_at (Some (codes "/p")) true) ∷ one_in_one (calls_at (Some (codes "/p/q")) true) (calls_at (Some (codes "/p")) true) ∷ one_in_one (calls_at (Some (codes "/p")) true) (calls_at (Some (codes "/p/q")) true) ∷ one_in_one (calls_at (Some (codes "/p")) true) (calls_at (Some (codes "/p")) false) ∷ one_in_one (calls_at None false) (calls_at (Some (codes "/p")) true) ∷ one_in_one (calls_at (Some (codes "/")) false) (calls_at None false) ∷ []
    ≡ yes (1 ∷ []) ∷ yes (1 ∷ [])
    ∷ No (Call (codes "org.a.C") (codes "/p/z0") (Some (codes "z0.z0")) (codes "z0"))
    ∷ No (Call (codes "org.a.C") (codes "/p/z0") (Some (codes "z0.z0")) (codes "z0"))
    ∷ No (Call (codes "org.a.C") (codes "/z0") (Some (codes "z0.z0")) (codes "z0")) ∷ yes (1 ∷ []) ∷ []
unfolding first_refused covered_by fresh permits level digits
paths = refl

abbrev broadcasts : Option Text → Option Text → Entry
broadcasts interface member = of_c (to_broadcast (rule interface member None false))

members : one_in_one (broadcasts (Some (codes "a.I")) (Some (codes "M"))) (broadcasts (Some (codes "a.I")) None) ∷ one_in_one (broadcasts (Some (codes "a.I")) None) (broadcasts (Some (codes "a.I")) (Some (codes "M"))) ∷ one_in_one (broadcasts None None) (broadcasts (Some (codes "a.I")) None) ∷ one_in_one (broadcasts None None) (of_c to_talk) ∷ one_in_one (of_c to_see) (broadcasts None None) ∷ []
    ≡ yes (1 ∷ []) ∷ No (Broadcast (codes "org.a.C") (codes "/z0") (codes "a.I") (codes "z0")) ∷ No (Broadcast (codes "org.a.C") (codes "/z0") (codes "z0.z0") (codes "z0")) ∷ yes (1 ∷ []) ∷ yes (1 ∷ []) ∷ []
unfolding first_refused covered_by fresh permits level digits
members = refl

-- ---- properties

abbrev properties : Option Text → Entry
properties property = of_c (to_property (property_rule (codes "a.I") property (Some (codes "/p")) false))

abbrev calls_of : Text → Entry
calls_of member = of_c (to_call (rule (Some (codes "org.freedesktop.DBus.Properties")) (Some member) (Some (codes "/p")) false))

abbrev at_p : Access → Asked
at_p access = Property (codes "org.a.C") (codes "/p") (codes "a.I") access

property_points : points (codes "z0") (properties None) ∷ points (codes "z0") (properties (Some (codes "Volume"))) ∷ []
    ≡ (at_p (Get (codes "z0")) ∷ at_p (Set (codes "z0")) ∷ at_p GetAll ∷ []) ∷ (at_p (Get (codes "Volume")) ∷ at_p (Set (codes "Volume")) ∷ []) ∷ []
property_points = refl

property_rules : one_in_one (properties (Some (codes "Volume"))) (properties None) ∷ one_in_one (properties None) (properties (Some (codes "Volume"))) ∷ one_in_one (properties (Some (codes "Volume"))) (calls_of (codes "Get")) ∷ []
    ≡ yes (1 ∷ []) ∷ No (at_p (Get (codes "z0"))) ∷ No (at_p (Set (codes "Volume"))) ∷ []
unfolding first_refused covered_by fresh permits level digits
property_rules = refl

-- each kind of request by its own entry, and only the lowest entries
by_entries : answer_of (policy_of (properties None ∷ of_c to_see ∷ [])) (policy_of (subtree (codes "org.b") to_talk ∷ calls_of (codes "Set") ∷ calls_of (codes "GetAll") ∷ calls_of (codes "Get") ∷ calls_of (codes "Set") ∷ []))
    ≡ Yes (record { entry = 1; by = 2 ∷ 3 ∷ 4 ∷ [] } ∷ record { entry = 2; by = 2 ∷ [] } ∷ [])
unfolding first_refused covered_by fresh permits level digits
by_entries = refl
