-- Rules of properties: INTERFACE.PROPERTY[@PATH].
use Rattle.std.specs.Prelude.{Bool, ◌&&◌, List, ℕ, Option, Some, None, bytes_eq}
use Rattle.call_rules.specs.Rules.{Rule, part_matches, path_matches, rule_of}

-- the text as it was given, and its parts; an absent property or path matches any
pub record PropertyRule : Type 0 where
  pub text : List ℕ
  pub interface : List ℕ
  pub property : Option (List ℕ)
  pub path : Option (List ℕ)
  pub below : Bool

-- a rule of calls with an interface: its member is the property
abbrev pub of_interface : Rule → Option (List ℕ) → Option PropertyRule
of_interface rule None = None
of_interface rule (Some interface) = Some (record { text = rule.text; interface = interface; property = rule.member; path = rule.path; below = rule.below })

abbrev pub property_rule_in : Option Rule → Option PropertyRule
property_rule_in None = None
property_rule_in (Some rule) = of_interface rule rule.interface

-- The text is cut like the text of a rule of calls: INTERFACE from PROPERTY at the last dot before the `@`, and PATH
-- after that.
abbrev pub property_rule_of : List ℕ → Option PropertyRule
property_rule_of text = property_rule_in (rule_of text)

-- A request for all properties names none, and then only a rule for any property matches.
abbrev pub property_matches : PropertyRule → List ℕ → List ℕ → Option (List ℕ) → Bool
property_matches r path interface property = path_matches r.path r.below path && bytes_eq r.interface interface && part_matches r.property property
