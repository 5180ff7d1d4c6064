-- Worked examples of property requests, and of the rules that let them pass.
use Rattle.std.specs.Prelude.{ℕ, ◌≡◌, true, false, List, [], ◌∷◌, map, Some, None, codes, refl}
use Rattle.dbus_types.specs.Signature.{uint32}
use Rattle.dbus_values.specs.Values.{Value, a_number, a_string, a_variant}
use Rattle.dbus_header.specs.Message.{Message}
use Rattle.dbus_header.proofs.Notation.{call}
use Rattle.dbus_header.specs.declared.Instead.TheVariants.{AccessDenied}
use Rattle.dbus_names.specs.Texts.{Text}
use Rattle.call_rules.specs.Properties.{PropertyRule}
use Rattle.policy_args.specs.Policy.{Policy, policy_of}
use Rattle.policy_args.specs.declared.entry.Grant.{Grant}
use Rattle.policy_args.specs.declared.entry.Entry.{Entry}
use Rattle.policy_args.specs.declared.entry.Grant.TheVariants.{See as to_see, Call as to_call, Property as to_property}
use Rattle.policy_view.specs.Properties.{PropertyRequest, properties_interface, property_request}
use Rattle.policy_view.specs.Verdicts.{on_seen_call}
use Rattle.policy_view.specs.declared.Reason.TheVariants.{NoRule, OnlySee}
use Rattle.policy_view.specs.declared.Verdict.{Verdict}
use Rattle.policy_view.specs.declared.Verdict.TheVariants.{Pass, Ping}

-- ---- requests

-- a call of a member of an interface, with a body
abbrev method : Text → Text → List Value → Message
method interface member body = call 2 (Some (codes "org.a.T")) (codes "/p") (Some interface) member body

abbrev text : List ℕ → Value
text t = a_string t

abbrev names : Value
names = text (codes "org.a.I")

abbrev level : Value
level = text (codes "Level")

abbrev seven : Value
seven = a_variant (a_number uint32 7)

abbrev of_level : PropertyRequest
of_level = record { interface = codes "org.a.I"; property = Some (codes "Level") }

abbrev of_all : PropertyRequest
of_all = record { interface = codes "org.a.I"; property = None }

requests : map property_request (
    method properties_interface (codes "Get") (names ∷ level ∷ [])
    ∷ method properties_interface (codes "Set") (names ∷ level ∷ seven ∷ [])
    ∷ method properties_interface (codes "GetAll") (names ∷ []) ∷ [])
    ≡ Some of_level ∷ Some of_level ∷ Some of_all ∷ []
unfolding property_request
requests = refl

-- the body has another signature than the member's
other_signatures : map property_request (
    method properties_interface (codes "Get") (names ∷ [])
    ∷ method properties_interface (codes "Get") (names ∷ level ∷ level ∷ [])
    ∷ method properties_interface (codes "Get") (names ∷ level ∷ seven ∷ [])
    ∷ method properties_interface (codes "Set") (names ∷ level ∷ [])
    ∷ method properties_interface (codes "Set") (names ∷ level ∷ a_number uint32 7 ∷ [])
    ∷ method properties_interface (codes "Set") (names ∷ level ∷ seven ∷ seven ∷ [])
    ∷ method properties_interface (codes "GetAll") (names ∷ level ∷ [])
    ∷ method properties_interface (codes "GetAll") [] ∷ [])
    ≡ None ∷ None ∷ None ∷ None ∷ None ∷ None ∷ None ∷ None ∷ []
unfolding property_request
other_signatures = refl

-- another member, another interface, and none
other_methods : map property_request (
    method properties_interface (codes "PropertiesChanged") (names ∷ level ∷ [])
    ∷ method (codes "org.a.I") (codes "Get") (names ∷ level ∷ [])
    ∷ call 2 (Some (codes "org.a.T")) (codes "/p") None (codes "Get") (names ∷ level ∷ []) ∷ [])
    ≡ None ∷ None ∷ None ∷ []
unfolding property_request
other_methods = refl

-- ---- verdicts on calls to a name that is only seen

abbrev on_T : Grant → Entry
on_T grant = record { pattern = record { name = codes "org.a.T"; exact = true }; grant = grant }

abbrev level_rule : PropertyRule
level_rule = record { text = codes "org.a.I.Level@/p"; interface = codes "org.a.I"; property = Some (codes "Level"); path = Some (codes "/p"); below = false }

abbrev any_rule : PropertyRule
any_rule = record { text = codes "org.a.I.*"; interface = codes "org.a.I"; property = None; path = None; below = false }

abbrev elsewhere_rule : PropertyRule
elsewhere_rule = record { text = codes "org.a.I.*@/q"; interface = codes "org.a.I"; property = None; path = Some (codes "/q"); below = false }

-- the first entry lets the name be seen, and the second has a rule
abbrev ruled : Grant → Policy
ruled grant = policy_of (on_T to_see ∷ on_T grant ∷ [])

-- Get, Set and GetAll, Get of another property, GetAll of another interface, and Get with one text
abbrev calls : List Message
calls =
    method properties_interface (codes "Get") (names ∷ level ∷ [])
    ∷ method properties_interface (codes "Set") (names ∷ level ∷ seven ∷ [])
    ∷ method properties_interface (codes "GetAll") (names ∷ [])
    ∷ method properties_interface (codes "Get") (names ∷ text (codes "Name") ∷ [])
    ∷ method properties_interface (codes "GetAll") (text (codes "org.a.J") ∷ [])
    ∷ method properties_interface (codes "Get") (names ∷ []) ∷ []

abbrev verdicts : Grant → List Verdict
verdicts grant = map (λ m. on_seen_call (ruled grant) m (1 ∷ 2 ∷ [])) calls

-- the refusal that names the entry with the rule
abbrev unruled : Verdict
unruled = Ping AccessDenied (NoRule 2)

one_property : verdicts (to_property level_rule) ≡ Pass ∷ Pass ∷ unruled ∷ unruled ∷ unruled ∷ unruled ∷ []
unfolding property_request
one_property = refl

all_properties : verdicts (to_property any_rule) ≡ Pass ∷ Pass ∷ Pass ∷ Pass ∷ unruled ∷ unruled ∷ []
unfolding property_request
all_properties = refl

another_path : verdicts (to_property elsewhere_rule) ≡ unruled ∷ unruled ∷ unruled ∷ unruled ∷ unruled ∷ unruled ∷ []
unfolding property_request
another_path = refl

-- a rule of calls is asked as before, and an entry without a rule names itself
call_rule : verdicts (to_call (record { text = codes "org.freedesktop.DBus.Properties.Get"; interface = Some properties_interface; member = Some (codes "Get"); path = None; below = false }))
    ≡ Pass ∷ unruled ∷ unruled ∷ Pass ∷ unruled ∷ Pass ∷ []
unfolding property_request
call_rule = refl

no_rule : verdicts to_see ≡ map (λ m. Ping AccessDenied (OnlySee 1)) calls
unfolding property_request
no_rule = refl
