-- The path of a rule that a text says isn't empty.
use Rattle.std.proofs.Common.{◌≡◌, ℕ, Bool, true, false, cond, List, [], ◌∷◌, Option, Some, None, codes, refl, ap, sym, ◌∙◌}
use Rattle.std.specs.Prelude.{◌&&◌, not, bytes_eq}
use Rattle.std.specs.List.{after_first, before_first, list_any}
use Rattle.std.proofs.lemmas.Bool.{and_parts}
use Rattle.byte_lists.proofs.Options.{some}
use Rattle.call_rules.specs.Properties.{PropertyRule, of_interface, property_rule_in, property_rule_of}
use Rattle.call_rules.specs.Rules.{Method, Place, Rule, is_at, method_of, place_of, rule_of, rule_of_parts}
use Rattle.dbus_names.specs.Names.{is_empty, is_path}
use Rattle.dbus_names.specs.Texts.{has_end, without_last}
use Rattle.policy_within.specs.Apart.{is_rooted}

path-rooted : (path : List ℕ) → is_path path ≡ true → not (is_empty path) ≡ true
path-rooted [] e = absurd cc
path-rooted (c ∷ path) e = refl

abbrev place : Option (List ℕ) → Bool → Place
place path below = record { path = path; below = below }

place-rooted : (text : List ℕ) (p : Place) → place_of text ≡ Some p → is_rooted p.path ≡ true
place-rooted text p e =
    by (bytes_eq text (codes "/*")) (has_end (codes "/*") text) (is_path (without_last 2 text) && not (bytes_eq (without_last 2 text) (codes "/"))) (is_path text) refl refl e
  where
    is : (q : Place) → q ≡ p → is_rooted q.path ≡ true → is_rooted p.path ≡ true
    is q same h = ap (λ (r : Place). is_rooted r.path) (sym same) ∙ h

    by : (all ended below one : Bool) → (is_path (without_last 2 text) && not (bytes_eq (without_last 2 text) (codes "/"))) ≡ below → is_path text ≡ one →
        cond all (some (place None false)) (cond ended (cond below (some (place (some (without_last 2 text)) true)) None) (cond one (some (place (some text) false)) None)) ≡ Some p → is_rooted p.path ≡ true
    by true ended below one b o e = let same : place None false ≡ p = cc in is (place None false) same refl
    by false true true one b o e = let same : place (some (without_last 2 text)) true ≡ p = cc in is (place (some (without_last 2 text)) true) same (path-rooted (without_last 2 text) (and_parts (is_path (without_last 2 text)) _ b).0)
    by false true false one b o e = absurd cc
    by false false below true b o e = let same : place (some text) false ≡ p = cc in is (place (some text) false) same (path-rooted text o)
    by false false below false b o e = absurd cc

parts-rooted : (text : List ℕ) (m : Option Method) (p : Option Place) (r : Rule) → ((q : Place) → p ≡ Some q → is_rooted q.path ≡ true) → rule_of_parts text m p ≡ Some r → is_rooted r.path ≡ true
parts-rooted text (Some m) (Some p) r h e =
    let made : Rule = record { text = text; interface = m.interface; member = m.member; path = p.path; below = p.below } in
    let same : made ≡ r = cc in
    ap (λ (q : Rule). is_rooted q.path) (sym same) ∙ h p refl
parts-rooted text (Some m) None r h e = absurd cc
parts-rooted text None (Some p) r h e = absurd cc
parts-rooted text None None r h e = absurd cc

pub rule-rooted : (text : List ℕ) (r : Rule) → rule_of text ≡ Some r → is_rooted r.path ≡ true
rule-rooted text r e = by (list_any is_at text) e
  where
    any : (q : Place) → some (place None false) ≡ Some q → is_rooted q.path ≡ true
    any q e = let same : place None false ≡ q = cc in ap (λ (r : Place). is_rooted r.path) (sym same)

    by : (b : Bool) → cond b (rule_of_parts text (method_of (before_first is_at text)) (place_of (after_first is_at text))) (rule_of_parts text (method_of text) (some (place None false))) ≡ Some r → is_rooted r.path ≡ true
    by true e = parts-rooted text (method_of (before_first is_at text)) (place_of (after_first is_at text)) r (place-rooted (after_first is_at text)) e
    by false e = parts-rooted text (method_of text) (some (place None false)) r any e

pub property_rule-rooted : (text : List ℕ) (r : PropertyRule) → property_rule_of text ≡ Some r → is_rooted r.path ≡ true
property_rule-rooted text r e = by (rule_of text) refl e
  where
    with_interface : (rule : Rule) (interface : Option (List ℕ)) → of_interface rule interface ≡ Some r → is_rooted rule.path ≡ true → is_rooted r.path ≡ true
    with_interface rule None e h = absurd cc
    with_interface rule (Some interface) e h =
        let made : PropertyRule = record { text = rule.text; interface = interface; property = rule.member; path = rule.path; below = rule.below } in
        let same : made ≡ r = cc in
        ap (λ (q : PropertyRule). is_rooted q.path) (sym same) ∙ h

    by : (o : Option Rule) → rule_of text ≡ o → property_rule_in o ≡ Some r → is_rooted r.path ≡ true
    by None is e = absurd cc
    by (Some rule) is e = with_interface rule rule.interface e (rule-rooted text rule is)
