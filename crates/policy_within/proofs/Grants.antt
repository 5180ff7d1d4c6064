-- A grant that permits the point of another permits all that the other permits of the point's kind.
use Rattle.std.proofs.Common.{◌≡◌, Bool, true, false, Option, Some, None, refl, ap, sym, ◌∙◌, inl, inr}
use Rattle.std.specs.List.{list_all}
use Rattle.std.proofs.lemmas.Bool.{and_from, and_parts, or_cases, or_left}
use Rattle.call_rules.specs.Properties.{PropertyRule, property_matches}
use Rattle.call_rules.specs.Rules.{Rule, matches, part_matches, path_matches}
use Rattle.dbus_names.specs.Texts.{Text}
use Rattle.policy_args.specs.Requests.{access_member, access_property, asked_name, properties_interface}
use Rattle.policy_args.specs.declared.entry.Grant.{Grant}
use Rattle.policy_args.specs.declared.entry.Grant.TheVariants.{See as to_see, Talk as to_talk, Own as to_own, Call as to_call, Broadcast as to_broadcast, Property as to_property}
use Rattle.policy_args.specs.declared.requests.Access.{Access}
use Rattle.policy_args.specs.declared.requests.Access.TheVariants.{Get, Set, GetAll}
use Rattle.policy_args.specs.declared.requests.Asked.{Asked}
use Rattle.policy_args.specs.declared.requests.Asked.TheVariants.{Call, Signal, Own as OwnName, Owner, Broadcast, Property}
use Rattle.policy_within.specs.Apart.{IsPlain, has_rooted, is_rooted}
use Rattle.policy_args.specs.Requests.{grant_permits}
use Rattle.policy_within.specs.Elements.{grant_elements, is_among}
use Rattle.policy_within.specs.Points.{all_points, grant_points, point_interface, point_member, point_path}
use Rattle.policy_within.proofs.Rules.{all-properties-within, member-matched, one-property-within, property-matched, rule-matched, rule-path-within, rule-within}

-- ---- the point of a request

abbrev pub access_point : Text → Option Text → Access → Access
access_point f property (Get named) = Get (point_member f property)
access_point f property (Set named) = Set (point_member f property)
access_point f property GetAll = GetAll

abbrev pub property_point : Text → Text → PropertyRule → Asked → Asked
property_point f name r (Call given path interface member) = Property name (point_path f r.path r.below) r.interface (Get (point_member f r.property))
property_point f name r (Signal given) = Property name (point_path f r.path r.below) r.interface (Get (point_member f r.property))
property_point f name r (OwnName given) = Property name (point_path f r.path r.below) r.interface (Get (point_member f r.property))
property_point f name r (Owner given) = Property name (point_path f r.path r.below) r.interface (Get (point_member f r.property))
property_point f name r (Broadcast given path interface member) = Property name (point_path f r.path r.below) r.interface (Get (point_member f r.property))
property_point f name r (Property given path interface access) = Property name (point_path f r.path r.below) r.interface (access_point f r.property access)

abbrev pub point_for : Text → Text → Grant → Asked → Asked
point_for f name to_see asked = Owner name
point_for f name to_talk asked = Signal name
point_for f name to_own asked = OwnName name
point_for f name (to_call r) asked = Call name (point_path f r.path r.below) (Some (point_interface f r.interface)) (point_member f r.member)
point_for f name (to_broadcast r) asked = Broadcast name (point_path f r.path r.below) (point_interface f r.interface) (point_member f r.member)
point_for f name (to_property r) asked = property_point f name r asked

property_name : (f name : Text) (r : PropertyRule) (asked : Asked) → asked_name (property_point f name r asked) ≡ name
property_name f name r (Call given path interface member) = refl
property_name f name r (Signal given) = refl
property_name f name r (OwnName given) = refl
property_name f name r (Owner given) = refl
property_name f name r (Broadcast given path interface member) = refl
property_name f name r (Property given path interface access) = refl

pub point_for-name : (f name : Text) (g : Grant) (asked : Asked) → asked_name (point_for f name g asked) ≡ name
point_for-name f name to_see asked = refl
point_for-name f name to_talk asked = refl
point_for-name f name to_own asked = refl
point_for-name f name (to_call r) asked = refl
point_for-name f name (to_broadcast r) asked = refl
point_for-name f name (to_property r) asked = property_name f name r asked

-- ---- it is among the points

in_all : (test : Asked → Bool) (name path : Text) (interface : Text) (property : Option Text) → list_all test (all_points name path interface property) ≡ true →
    part_matches property None ≡ true → test (Property name path interface GetAll) ≡ true
in_all test name path interface None h k = (and_parts (test (Property name path interface GetAll)) true h).0
in_all test name path interface (Some p) h k = absurd cc

property_among : (test : Asked → Bool) (f name : Text) (r : PropertyRule) (asked : Asked) → list_all test (grant_points f name (to_property r)) ≡ true →
    grant_permits (to_property r) asked ≡ true → test (property_point f name r asked) ≡ true
property_among test f name r (Call given path interface member) h k = (and_parts _ _ h).0
property_among test f name r (Signal given) h k = (and_parts _ _ h).0
property_among test f name r (OwnName given) h k = (and_parts _ _ h).0
property_among test f name r (Owner given) h k = (and_parts _ _ h).0
property_among test f name r (Broadcast given path interface member) h k = (and_parts _ _ h).0
property_among test f name r (Property given path interface (Get named)) h k = (and_parts _ _ h).0
property_among test f name r (Property given path interface (Set named)) h k =
    (and_parts (test (Property name (point_path f r.path r.below) r.interface (Set (point_member f r.property)))) _ (and_parts _ _ h).1).0
property_among test f name r (Property given path interface GetAll) h k =
    in_all test name (point_path f r.path r.below) r.interface r.property (and_parts _ _ (and_parts _ _ h).1).1
    (and_parts _ (part_matches r.property None) k).1

-- what all points pass, the point of a request passes
pub point_for-among : (test : Asked → Bool) (f name : Text) (g : Grant) (asked : Asked) → list_all test (grant_points f name g) ≡ true →
    grant_permits g asked ≡ true → test (point_for f name g asked) ≡ true
point_for-among test f name to_see asked h k = (and_parts (test (Owner name)) true h).0
point_for-among test f name to_talk asked h k = (and_parts (test (Signal name)) true h).0
point_for-among test f name to_own asked h k = (and_parts (test (OwnName name)) true h).0
point_for-among test f name (to_call r) asked h k = (and_parts (test (point_for f name (to_call r) asked)) true h).0
point_for-among test f name (to_broadcast r) asked h k = (and_parts (test (point_for f name (to_broadcast r) asked)) true h).0
point_for-among test f name (to_property r) asked h k = property_among test f name r asked h k

-- ---- grants in their order

owner-permitted : (g : Grant) (name : Text) → grant_permits g (Owner name) ≡ true
owner-permitted to_see name = refl
owner-permitted to_talk name = refl
owner-permitted to_own name = refl
owner-permitted (to_call r) name = refl
owner-permitted (to_broadcast r) name = refl
owner-permitted (to_property r) name = refl

owner-of-all : (asked : Asked) → grant_permits to_own asked ≡ true
owner-of-all (Call name path interface member) = refl
owner-of-all (Signal name) = refl
owner-of-all (OwnName name) = refl
owner-of-all (Owner name) = refl
owner-of-all (Broadcast name path interface member) = refl
owner-of-all (Property name path interface access) = refl

-- the request isn't to own the name
abbrev is_other : Asked → Bool
is_other (Call name path interface member) = true
is_other (Signal name) = true
is_other (OwnName name) = false
is_other (Owner name) = true
is_other (Broadcast name path interface member) = true
is_other (Property name path interface access) = true

talk-permits : (asked : Asked) → is_other asked ≡ true → grant_permits to_talk asked ≡ true
talk-permits (Call name path interface member) h = refl
talk-permits (Signal name) h = refl
talk-permits (OwnName name) h = absurd cc
talk-permits (Owner name) h = refl
talk-permits (Broadcast name path interface member) h = refl
talk-permits (Property name path interface access) h = refl

-- ---- grants with a rule

call-within : (f : Text) (own other : Rule) (given : Asked) → IsPlain f → is_among (grant_elements (to_call other)) f ≡ false → is_rooted other.path ≡ true →
    matches other (point_path f own.path own.below) (Some (point_interface f own.interface)) (point_member f own.member) ≡ true →
    grant_permits (to_call own) given ≡ true → grant_permits (to_call other) given ≡ true
call-within f own other (Call name path interface member) plain free rooted h k = rule-within f own other path interface member plain free rooted h k
call-within f own other (Signal name) plain free rooted h k = absurd cc
call-within f own other (OwnName name) plain free rooted h k = absurd cc
call-within f own other (Owner name) plain free rooted h k = refl
call-within f own other (Broadcast name path interface member) plain free rooted h k = absurd cc
call-within f own other (Property name path interface access) plain free rooted h k = elim (or_cases _ _ k) [
  | inl m ↦ or_left _ _ (rule-within f own other path (Some properties_interface) (access_member access) plain free rooted h m)
  | inr m ↦ absurd cc
]

broadcast-within : (f : Text) (own other : Rule) (given : Asked) → IsPlain f → is_among (grant_elements (to_broadcast other)) f ≡ false → is_rooted other.path ≡ true →
    matches other (point_path f own.path own.below) (Some (point_interface f own.interface)) (point_member f own.member) ≡ true →
    grant_permits (to_broadcast own) given ≡ true → grant_permits (to_broadcast other) given ≡ true
broadcast-within f own other (Call name path interface member) plain free rooted h k = absurd cc
broadcast-within f own other (Signal name) plain free rooted h k = absurd cc
broadcast-within f own other (OwnName name) plain free rooted h k = absurd cc
broadcast-within f own other (Owner name) plain free rooted h k = refl
broadcast-within f own other (Broadcast name path interface member) plain free rooted h k = rule-within f own other path (Some interface) member plain free rooted h k
broadcast-within f own other (Property name path interface access) plain free rooted h k = absurd cc

-- the path of what a rule of properties matches
matched_path : (own : PropertyRule) (path interface : Text) (property : Option Text) → property_matches own path interface property ≡ true → path_matches own.path own.below path ≡ true
matched_path own path interface property k = (and_parts (path_matches own.path own.below path) _ (and_parts _ (part_matches own.property property) k).0).0

property-by-call : (f : Text) (own : PropertyRule) (other : Rule) (name path interface : Text) (access : Access) (point : Access) → access_member point ≡ access_member access → IsPlain f →
    is_among (grant_elements (to_call other)) f ≡ false → is_rooted other.path ≡ true →
    grant_permits (to_call other) (Property name (point_path f own.path own.below) own.interface point) ≡ true →
    property_matches own path interface (access_property access) ≡ true → grant_permits (to_call other) (Property name path interface access) ≡ true
property-by-call f own other name path interface access point same plain free rooted h k = elim (or_cases _ _ h) [
  | inl m ↦ or_left _ _ (rule-path-within f own.path own.below other path (Some properties_interface) (access_member access) plain free rooted
      (ap (λ t. matches other (point_path f own.path own.below) (Some properties_interface) t) (sym same) ∙ m) (matched_path own path interface (access_property access) k))
  | inr m ↦ absurd cc
]

property-within : (f : Text) (own : PropertyRule) (other : Grant) (name given path interface : Text) (access : Access) → IsPlain f → is_among (grant_elements other) f ≡ false → has_rooted other ≡ true →
    grant_permits other (Property name (point_path f own.path own.below) own.interface (access_point f own.property access)) ≡ true →
    property_matches own path interface (access_property access) ≡ true → grant_permits other (Property given path interface access) ≡ true
property-within f own to_see name given path interface access plain free rooted h k = absurd cc
property-within f own to_talk name given path interface access plain free rooted h k = refl
property-within f own to_own name given path interface access plain free rooted h k = refl
property-within f own (to_call r) name given path interface (Get p) plain free rooted h k = property-by-call f own r given path interface (Get p) (Get (point_member f own.property)) refl plain free rooted h k
property-within f own (to_call r) name given path interface (Set p) plain free rooted h k = property-by-call f own r given path interface (Set p) (Set (point_member f own.property)) refl plain free rooted h k
property-within f own (to_call r) name given path interface GetAll plain free rooted h k = property-by-call f own r given path interface GetAll GetAll refl plain free rooted h k
property-within f own (to_broadcast r) name given path interface access plain free rooted h k = absurd cc
property-within f own (to_property r) name given path interface (Get p) plain free rooted h k = one-property-within f own r path interface (Some p) plain free rooted h k
property-within f own (to_property r) name given path interface (Set p) plain free rooted h k = one-property-within f own r path interface (Some p) plain free rooted h k
property-within f own (to_property r) name given path interface GetAll plain free rooted h k = all-properties-within f own r path interface plain free rooted h k

-- ---- a grant and the point of a request

talk-within : (other : Grant) (name : Text) (asked : Asked) → grant_permits other (Signal name) ≡ true → is_other asked ≡ true → grant_permits other asked ≡ true
talk-within to_see name asked h k = absurd cc
talk-within to_talk name asked h k = talk-permits asked k
talk-within to_own name asked h k = owner-of-all asked
talk-within (to_call r) name asked h k = absurd cc
talk-within (to_broadcast r) name asked h k = absurd cc
talk-within (to_property r) name asked h k = absurd cc

own-within : (other : Grant) (name : Text) (asked : Asked) → grant_permits other (OwnName name) ≡ true → grant_permits other asked ≡ true
own-within to_see name asked h = absurd cc
own-within to_talk name asked h = absurd cc
own-within to_own name asked h = owner-of-all asked
own-within (to_call r) name asked h = absurd cc
own-within (to_broadcast r) name asked h = absurd cc
own-within (to_property r) name asked h = absurd cc

see-other : (asked : Asked) (other : Grant) → grant_permits to_see asked ≡ true → grant_permits other asked ≡ true
see-other (Call name path interface member) other k = absurd cc
see-other (Signal name) other k = absurd cc
see-other (OwnName name) other k = absurd cc
see-other (Owner name) other k = owner-permitted other name
see-other (Broadcast name path interface member) other k = absurd cc
see-other (Property name path interface access) other k = absurd cc

talk-other : (asked : Asked) → grant_permits to_talk asked ≡ true → is_other asked ≡ true
talk-other (Call name path interface member) k = refl
talk-other (Signal name) k = refl
talk-other (OwnName name) k = absurd cc
talk-other (Owner name) k = refl
talk-other (Broadcast name path interface member) k = refl
talk-other (Property name path interface access) k = refl

call-other : (r : Rule) (asked : Asked) → grant_permits (to_call r) asked ≡ true → is_other asked ≡ true
call-other r (Call name path interface member) k = refl
call-other r (Signal name) k = refl
call-other r (OwnName name) k = absurd cc
call-other r (Owner name) k = refl
call-other r (Broadcast name path interface member) k = refl
call-other r (Property name path interface access) k = refl

broadcast-other : (r : Rule) (asked : Asked) → grant_permits (to_broadcast r) asked ≡ true → is_other asked ≡ true
broadcast-other r (Call name path interface member) k = refl
broadcast-other r (Signal name) k = refl
broadcast-other r (OwnName name) k = absurd cc
broadcast-other r (Owner name) k = refl
broadcast-other r (Broadcast name path interface member) k = refl
broadcast-other r (Property name path interface access) k = refl

of_property : (f name : Text) (own : PropertyRule) (other : Grant) (asked : Asked) → IsPlain f → is_among (grant_elements other) f ≡ false → has_rooted other ≡ true →
    grant_permits other (property_point f name own asked) ≡ true → grant_permits (to_property own) asked ≡ true → grant_permits other asked ≡ true
of_property f name own other (Call given path interface member) plain free rooted h k = absurd cc
of_property f name own other (Signal given) plain free rooted h k = absurd cc
of_property f name own other (OwnName given) plain free rooted h k = absurd cc
of_property f name own other (Owner given) plain free rooted h k = owner-permitted other given
of_property f name own other (Broadcast given path interface member) plain free rooted h k = absurd cc
of_property f name own other (Property given path interface access) plain free rooted h k = property-within f own other name given path interface access plain free rooted h k

of_call : (f name : Text) (own : Rule) (other : Grant) (asked : Asked) → IsPlain f → is_among (grant_elements other) f ≡ false → has_rooted other ≡ true →
    grant_permits other (point_for f name (to_call own) asked) ≡ true → grant_permits (to_call own) asked ≡ true → grant_permits other asked ≡ true
of_call f name own to_see asked plain free rooted h k = absurd cc
of_call f name own to_talk asked plain free rooted h k = talk-permits asked (call-other own asked k)
of_call f name own to_own asked plain free rooted h k = owner-of-all asked
of_call f name own (to_call r) asked plain free rooted h k = call-within f own r asked plain free rooted h k
of_call f name own (to_broadcast r) asked plain free rooted h k = absurd cc
of_call f name own (to_property r) asked plain free rooted h k = absurd cc

of_broadcast : (f name : Text) (own : Rule) (other : Grant) (asked : Asked) → IsPlain f → is_among (grant_elements other) f ≡ false → has_rooted other ≡ true →
    grant_permits other (point_for f name (to_broadcast own) asked) ≡ true → grant_permits (to_broadcast own) asked ≡ true → grant_permits other asked ≡ true
of_broadcast f name own to_see asked plain free rooted h k = absurd cc
of_broadcast f name own to_talk asked plain free rooted h k = talk-permits asked (broadcast-other own asked k)
of_broadcast f name own to_own asked plain free rooted h k = owner-of-all asked
of_broadcast f name own (to_call r) asked plain free rooted h k = absurd cc
of_broadcast f name own (to_broadcast r) asked plain free rooted h k = broadcast-within f own r asked plain free rooted h k
of_broadcast f name own (to_property r) asked plain free rooted h k = absurd cc

pub point_for-within : (f name : Text) (own other : Grant) (asked : Asked) → IsPlain f → is_among (grant_elements other) f ≡ false → has_rooted other ≡ true →
    grant_permits other (point_for f name own asked) ≡ true → grant_permits own asked ≡ true → grant_permits other asked ≡ true
point_for-within f name to_see other asked plain free rooted h k = see-other asked other k
point_for-within f name to_talk other asked plain free rooted h k = talk-within other name asked h (talk-other asked k)
point_for-within f name to_own other asked plain free rooted h k = own-within other name asked h
point_for-within f name (to_call r) other asked plain free rooted h k = of_call f name r other asked plain free rooted h k
point_for-within f name (to_broadcast r) other asked plain free rooted h k = of_broadcast f name r other asked plain free rooted h k
point_for-within f name (to_property r) other asked plain free rooted h k = of_property f name r other asked plain free rooted h k

-- ---- a grant permits its points

all-permitted : (f name : Text) (r : PropertyRule) → list_all (grant_permits (to_property r)) (all_points name (point_path f r.path r.below) r.interface r.property) ≡ true
all-permitted f name r = by r.property refl
  where
    by : (property : Option Text) → r.property ≡ property → list_all (grant_permits (to_property r)) (all_points name (point_path f r.path r.below) r.interface property) ≡ true
    by None e = and_from _ true (property-matched f r None (ap (λ p. part_matches p None) e)) refl
    by (Some p) e = refl

pub points-permitted : (f name : Text) (g : Grant) → list_all (grant_permits g) (grant_points f name g) ≡ true
points-permitted f name to_see = refl
points-permitted f name to_talk = refl
points-permitted f name to_own = refl
points-permitted f name (to_call r) = and_from _ true (rule-matched f r) refl
points-permitted f name (to_broadcast r) = and_from _ true (rule-matched f r) refl
points-permitted f name (to_property r) =
    let one = property-matched f r (Some (point_member f r.property)) (member-matched f r.property) in
    and_from _ _ one (and_from _ _ one (all-permitted f name r))
