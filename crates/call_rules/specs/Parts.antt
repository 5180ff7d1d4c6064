-- A rule, given the places of its parts in a text.
use Rattle.std.specs.Prelude.{◌≡◌, ℕ, ◌+◌, ◌≤◌, ◌<◌, true, List, take, Option, Some, None, IfSome, IsCharBoundary, option_map}
use Rattle.std.specs.List.{list_any, slice_index, slice_range, before_last, after_last}
use Rattle.call_rules.specs.Rules.{Rule, Method, Place, is_dot, rule_of}
use Rattle.call_rules.specs.declared.parts.Part.{Part}
use Rattle.call_rules.specs.declared.parts.Parts.{Parts}
use Rattle.call_rules.specs.declared.parts.Method.{Method as MethodParts}
use Rattle.call_rules.specs.declared.parts.Place.{Place as PlaceParts}

-- ---- what is at these places

abbrev pub part_in : List ℕ → Part → List ℕ
part_in text part = slice_range text part.start part.end

abbrev pub method_in : List ℕ → MethodParts → Method
method_in text m = record { interface = option_map (part_in text) m.interface; member = option_map (part_in text) m.member }

abbrev pub place_in : List ℕ → PlaceParts → Place
place_in text p = record { path = option_map (part_in text) p.path; below = p.below }

abbrev pub rule_in : List ℕ → Parts → Rule
rule_in text parts = record { text = text; interface = option_map (part_in text) parts.interface; member = option_map (part_in text) parts.member; path = option_map (part_in text) parts.path; below = parts.below }

abbrev pub joined : Option MethodParts → Option PlaceParts → Option Parts
joined (Some m) (Some p) = Some (record { interface = m.interface; member = m.member; path = p.path; below = p.below })
joined _ _ = None

-- the place of the last dot before `end`, and what is before and after it
pub record IsLastDot (text : List ℕ) (end dot : ℕ) : Type 0 where
  pub any : list_any is_dot (take end text) ≡ true
  pub within : dot < end
  pub here : slice_index text dot ≡ 46
  pub before : before_last is_dot (take end text) ≡ take dot text
  pub after : after_last is_dot (take end text) ≡ slice_range text (dot + 1) end

-- ---- where a text may be cut

pub record IsCut (text : List ℕ) (part : Part) : Type 0 where
  pub order : part.start ≤ part.end
  pub start : IsCharBoundary text part.start
  pub end : IsCharBoundary text part.end

abbrev pub Cuts : List ℕ → Option Part → Type 0
Cuts text part = IfSome part (λ p. IsCut text p)

pub record CutsMethod (text : List ℕ) (m : MethodParts) : Type 0 where
  pub interface : Cuts text m.interface
  pub member : Cuts text m.member

abbrev pub CutsPlace : List ℕ → PlaceParts → Type 0
CutsPlace text p = Cuts text p.path

pub record CutsRule (text : List ℕ) (parts : Parts) : Type 0 where
  pub interface : Cuts text parts.interface
  pub member : Cuts text parts.member
  pub path : Cuts text parts.path

-- the parts are those of the rule in the text
pub record IsRead (text : List ℕ) (parts : Parts) : Type 0 where
  pub read : rule_of text ≡ Some (rule_in text parts)
  pub cuts : CutsRule text parts
