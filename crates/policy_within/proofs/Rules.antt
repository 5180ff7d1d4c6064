-- A rule that matches the point of another matches all that the other matches.
use Rattle.std.proofs.Common.{◌≡◌, ℕ, Bool, true, false, List, [], ◌∷◌, ◌++◌, Option, Some, None, refl, ap, sym, ◌∙◌, inl, inr}
use Rattle.std.specs.Prelude.{not, bytes_eq}
use Rattle.std.proofs.lemmas.Bool.{and_from, and_parts, both_ways, or_parts}
use Rattle.std.proofs.lemmas.List.Folds.{list_any-append}
use Rattle.byte_lists.proofs.Bytes.{bytes_eq-refl, bytes_eq-true}
use Rattle.call_rules.specs.Properties.{PropertyRule, property_matches}
use Rattle.call_rules.specs.Rules.{Rule, matches, part_matches, path_matches}
use Rattle.dbus_names.specs.Names.{is_empty, parts_at}
use Rattle.policy_within.specs.Apart.{IsPlain, is_rooted, lacks}
use Rattle.policy_within.specs.Elements.{is_among, parts_in, rule_elements}
use Rattle.policy_within.specs.Points.{point_interface, point_member, point_path}
use Rattle.policy_within.proofs.Trees.{last-among, point-in_tree, prefix-cases, tree-within, under, whole-among}

-- no element of a rule
pub record IsFreeOf (f : List ℕ) (named_interface named_member named_path : Option (List ℕ)) : Type 0 where
  pub interface : is_among (parts_in 46 named_interface) f ≡ false
  pub member : is_among (parts_in 46 named_member) f ≡ false
  pub path : is_among (parts_in 47 named_path) f ≡ false

pub among-append : (xs ys : List (List ℕ)) (f : List ℕ) → is_among (xs ++ ys) f ≡ false → (is_among xs f ≡ false) × (is_among ys f ≡ false)
among-append xs ys f e = or_parts (is_among xs f) (is_among ys f) (sym (list_any-append (bytes_eq f) xs ys) ∙ e)

pub free-of : (f : List ℕ) (interface member path : Option (List ℕ)) → is_among (rule_elements interface member path) f ≡ false → IsFreeOf f interface member path
free-of f interface member path e =
    let paths = among-append (parts_in 46 interface ++ parts_in 46 member) (parts_in 47 path) f e in
    let names = among-append (parts_in 46 interface) (parts_in 46 member) f paths.0 in
    record { interface = names.0; member = names.1; path = paths.1 }

-- ---- parts

interface-within : (f : List ℕ) (own other given : Option (List ℕ)) → lacks 46 f ≡ true → is_among (parts_in 46 other) f ≡ false →
    part_matches other (Some (point_interface f own)) ≡ true → part_matches own given ≡ true → part_matches other given ≡ true
interface-within f own None given l free h k = refl
interface-within f None (Some t) given l free h k =
    absurd (both_ways (is_among (parts_at 46 t) f) free (ap (λ u. is_among (parts_at 46 u) f) (bytes_eq-true t (f ++ 46 ∷ f) h) ∙ last-among 46 f f l))
interface-within f (Some own) (Some t) None l free h k = absurd cc
interface-within f (Some own) (Some t) (Some given) l free h k = ap (λ u. bytes_eq u given) (bytes_eq-true t own h) ∙ k

member-within : (f : List ℕ) (own other given : Option (List ℕ)) → lacks 46 f ≡ true → is_among (parts_in 46 other) f ≡ false →
    part_matches other (Some (point_member f own)) ≡ true → part_matches own given ≡ true → part_matches other given ≡ true
member-within f own None given l free h k = refl
member-within f None (Some t) given l free h k =
    absurd (both_ways (is_among (parts_at 46 t) f) free (ap (λ u. is_among (parts_at 46 u) f) (bytes_eq-true t f h) ∙ whole-among 46 f l))
member-within f (Some own) (Some t) None l free h k = absurd cc
member-within f (Some own) (Some t) (Some given) l free h k = ap (λ u. bytes_eq u given) (bytes_eq-true t own h) ∙ k

-- ---- paths

above : (q r : List ℕ) → [] ≡ q ++ 47 ∷ r → ⊥
above [] r e = cc
above (c ∷ q) r e = cc

-- no tree but that of all paths has /F
not_all : (f q : List ℕ) (wide : Bool) → lacks 47 f ≡ true → is_among (parts_at 47 q) f ≡ false → not (is_empty q) ≡ true → path_matches (Some q) wide (47 ∷ f) ≡ true → ⊥
not_all f q wide l free some h = elim (under 47 q wide (47 ∷ f) h) [
  | inl e ↦ both_ways (is_among (parts_at 47 q) f) free (ap (λ t. is_among (parts_at 47 t) f) (sym e) ∙ last-among 47 [] f l)
  | inr e ↦ elim (prefix-cases 47 q [] f e.1 l (sym e.2)) [
    | inl none ↦ both_ways (not (is_empty q)) (ap (λ t. not (is_empty t)) none) some
    | inr r ↦ above q r.0 r.1
  ]
]

pub path-within : (f : List ℕ) (own : Option (List ℕ)) (below : Bool) (other : Option (List ℕ)) (wide : Bool) (text : List ℕ) → lacks 47 f ≡ true →
    is_among (parts_in 47 other) f ≡ false → is_rooted other ≡ true →
    path_matches other wide (point_path f own below) ≡ true → path_matches own below text ≡ true → path_matches other wide text ≡ true
path-within f own below None wide text l free some h k = refl
path-within f None below (Some q) wide text l free some h k = absurd (not_all f q wide l free some h)
path-within f (Some n) below (Some q) wide text l free some h k = tree-within 47 f q wide n below text l free h k

pub path-matched : (f : List ℕ) (own : Option (List ℕ)) (below : Bool) → path_matches own below (point_path f own below) ≡ true
path-matched f None below = refl
path-matched f (Some n) below = point-in_tree 47 f n below

pub interface-matched : (f : List ℕ) (own : Option (List ℕ)) → part_matches own (Some (point_interface f own)) ≡ true
interface-matched f None = refl
interface-matched f (Some own) = bytes_eq-refl own

pub member-matched : (f : List ℕ) (own : Option (List ℕ)) → part_matches own (Some (point_member f own)) ≡ true
member-matched f None = refl
member-matched f (Some own) = bytes_eq-refl own

-- ---- rules

pub rule-within : (f : List ℕ) (own other : Rule) (path : List ℕ) (interface : Option (List ℕ)) (member : List ℕ) → IsPlain f →
    is_among (rule_elements other.interface other.member other.path) f ≡ false → is_rooted other.path ≡ true →
    matches other (point_path f own.path own.below) (Some (point_interface f own.interface)) (point_member f own.member) ≡ true →
    matches own path interface member ≡ true → matches other path interface member ≡ true
rule-within f own other path interface member plain free rooted h k =
    let of = free-of f other.interface other.member other.path free in
    let there = and_parts _ (part_matches other.member (Some (point_member f own.member))) h in
    let front = and_parts (path_matches other.path other.below (point_path f own.path own.below)) _ there.0 in
    let asked = and_parts _ (part_matches own.member (Some member)) k in
    let asked_front = and_parts (path_matches own.path own.below path) _ asked.0 in
    and_from _ (part_matches other.member (Some member))
    (and_from (path_matches other.path other.below path) (part_matches other.interface interface)
    (path-within f own.path own.below other.path other.below path plain.no_slash of.path rooted front.0 asked_front.0)
    (interface-within f own.interface other.interface interface plain.no_dot of.interface front.1 asked_front.1))
    (member-within f own.member other.member (Some member) plain.no_dot of.member there.1 asked.1)

pub rule-matched : (f : List ℕ) (own : Rule) → matches own (point_path f own.path own.below) (Some (point_interface f own.interface)) (point_member f own.member) ≡ true
rule-matched f own =
    and_from _ (part_matches own.member (Some (point_member f own.member)))
    (and_from (path_matches own.path own.below (point_path f own.path own.below)) _ (path-matched f own.path own.below) (interface-matched f own.interface))
    (member-matched f own.member)

-- a rule of calls that matches at the point's path matches what is called alike at each of the paths
pub rule-path-within : (f : List ℕ) (own : Option (List ℕ)) (below : Bool) (other : Rule) (path : List ℕ) (interface : Option (List ℕ)) (member : List ℕ) → IsPlain f →
    is_among (rule_elements other.interface other.member other.path) f ≡ false → is_rooted other.path ≡ true →
    matches other (point_path f own below) interface member ≡ true → path_matches own below path ≡ true → matches other path interface member ≡ true
rule-path-within f own below other path interface member plain free rooted h k =
    let of = free-of f other.interface other.member other.path free in
    let there = and_parts _ (part_matches other.member (Some member)) h in
    let front = and_parts (path_matches other.path other.below (point_path f own below)) (part_matches other.interface interface) there.0 in
    and_from _ (part_matches other.member (Some member))
    (and_from (path_matches other.path other.below path) (part_matches other.interface interface)
    (path-within f own below other.path other.below path plain.no_slash of.path rooted front.0 k) front.1)
    there.1

-- ---- rules of properties

-- the point is of one property, or of all
pub property-within : (f : List ℕ) (own other : PropertyRule) (path interface : List ℕ) (point given : Option (List ℕ)) → IsPlain f →
    is_among (rule_elements (Some other.interface) other.property other.path) f ≡ false → is_rooted other.path ≡ true →
    (part_matches other.property point ≡ true → part_matches own.property given ≡ true → part_matches other.property given ≡ true) →
    property_matches other (point_path f own.path own.below) own.interface point ≡ true →
    property_matches own path interface given ≡ true → property_matches other path interface given ≡ true
property-within f own other path interface point given plain free rooted part h k =
    let of = free-of f (Some other.interface) other.property other.path free in
    let there = and_parts _ (part_matches other.property point) h in
    let front = and_parts (path_matches other.path other.below (point_path f own.path own.below)) (bytes_eq other.interface own.interface) there.0 in
    let asked = and_parts _ (part_matches own.property given) k in
    let asked_front = and_parts (path_matches own.path own.below path) (bytes_eq own.interface interface) asked.0 in
    and_from _ (part_matches other.property given)
    (and_from (path_matches other.path other.below path) (bytes_eq other.interface interface)
    (path-within f own.path own.below other.path other.below path plain.no_slash of.path rooted front.0 asked_front.0)
    (ap (λ i. bytes_eq i interface) (bytes_eq-true other.interface own.interface front.1) ∙ asked_front.1))
    (part there.1 asked.1)

pub one-property-within : (f : List ℕ) (own other : PropertyRule) (path interface : List ℕ) (given : Option (List ℕ)) → IsPlain f →
    is_among (rule_elements (Some other.interface) other.property other.path) f ≡ false → is_rooted other.path ≡ true →
    property_matches other (point_path f own.path own.below) own.interface (Some (point_member f own.property)) ≡ true →
    property_matches own path interface given ≡ true → property_matches other path interface given ≡ true
one-property-within f own other path interface given plain free rooted h k =
    property-within f own other path interface (Some (point_member f own.property)) given plain free rooted
    (member-within f own.property other.property given plain.no_dot (free-of f (Some other.interface) other.property other.path free).member) h k

all-within : (own other : Option (List ℕ)) → part_matches other None ≡ true → part_matches own None ≡ true → part_matches other None ≡ true
all-within own other h k = h

pub all-properties-within : (f : List ℕ) (own other : PropertyRule) (path interface : List ℕ) → IsPlain f →
    is_among (rule_elements (Some other.interface) other.property other.path) f ≡ false → is_rooted other.path ≡ true →
    property_matches other (point_path f own.path own.below) own.interface None ≡ true →
    property_matches own path interface None ≡ true → property_matches other path interface None ≡ true
all-properties-within f own other path interface plain free rooted h k =
    property-within f own other path interface None None plain free rooted (all-within own.property other.property) h k

pub property-matched : (f : List ℕ) (own : PropertyRule) (point : Option (List ℕ)) → part_matches own.property point ≡ true → property_matches own (point_path f own.path own.below) own.interface point ≡ true
property-matched f own point e =
    and_from _ (part_matches own.property point)
    (and_from (path_matches own.path own.below (point_path f own.path own.below)) (bytes_eq own.interface own.interface) (path-matched f own.path own.below) (bytes_eq-refl own.interface)) e
