-- Rules of calls and broadcasts: [METHOD][@PATH].
use Rattle.std.specs.Prelude.{ℕ, Bool, true, false, not, ◌&&◌, ◌||◌, ◌==◌, List, [], ◌∷◌, ◌++◌, codes, Option, Some, None, if◌then◌else◌, bytes_eq}
use Rattle.std.specs.List.{list_any, before_first, after_first, before_last, after_last}
use Rattle.dbus_names.specs.Names.{is_interface, is_member, is_path, is_empty}
use Rattle.dbus_names.specs.Texts.{begins_with, has_end, without_last}

-- the text as it was given, and its parts; an absent part matches any
pub record Rule : Type 0 where
  pub text : List ℕ
  pub interface : Option (List ℕ)
  pub member : Option (List ℕ)
  pub path : Option (List ℕ)
  pub below : Bool

abbrev pub is_star : List ℕ → Bool
is_star text = bytes_eq text (42 ∷ [])

-- ---- METHOD

-- the parts that METHOD names, cut at its last dot
pub record Method : Type 0 where
  pub interface : Option (List ℕ)
  pub member : Option (List ℕ)

abbrev pub method_of_parts : List ℕ → List ℕ → Option Method
method_of_parts interface member =
    if not (is_interface interface) then None
    else (if is_star member then Some (record { interface = Some interface; member = None })
    else (if is_member member then Some (record { interface = Some interface; member = Some member }) else None))

abbrev pub is_dot : ℕ → Bool
is_dot c = c == 46

abbrev pub method_of : List ℕ → Option Method
method_of text =
    if is_empty text || is_star text then Some (record { interface = None; member = None })
    else (if list_any is_dot text then method_of_parts (before_last is_dot text) (after_last is_dot text) else None)

-- ---- PATH

-- the paths that PATH names
pub record Place : Type 0 where
  pub path : Option (List ℕ)
  pub below : Bool

abbrev pub place_of : List ℕ → Option Place
place_of text =
    if bytes_eq text (codes "/*") then Some (record { path = None; below = false })
    else (if has_end (codes "/*") text
    then (if is_path (without_last 2 text) && not (bytes_eq (without_last 2 text) (codes "/")) then Some (record { path = Some (without_last 2 text); below = true }) else None)
    else (if is_path text then Some (record { path = Some text; below = false }) else None))

-- ---- rules

abbrev pub is_at : ℕ → Bool
is_at c = c == 64

abbrev pub rule_of_parts : List ℕ → Option Method → Option Place → Option Rule
rule_of_parts text (Some m) (Some p) = Some (record { text = text; interface = m.interface; member = m.member; path = p.path; below = p.below })
rule_of_parts text _ _ = None

abbrev pub rule_of : List ℕ → Option Rule
rule_of text =
    if list_any is_at text then rule_of_parts text (method_of (before_first is_at text)) (place_of (after_first is_at text))
    else rule_of_parts text (method_of text) (Some (record { path = None; below = false }))

-- ---- matching

-- an absent part matches all; any other part only matches an equal one
abbrev pub part_matches : Option (List ℕ) → Option (List ℕ) → Bool
part_matches None given = true
part_matches (Some part) None = false
part_matches (Some part) (Some given) = bytes_eq part given

-- a path matches itself and, if the rule holds for all below it, those too
abbrev pub path_matches : Option (List ℕ) → Bool → List ℕ → Bool
path_matches None below given = true
path_matches (Some p) below given = bytes_eq given p || (below && begins_with (p ++ 47 ∷ []) given)

abbrev pub matches : Rule → List ℕ → Option (List ℕ) → List ℕ → Bool
matches r path interface member = path_matches r.path r.below path && part_matches r.interface interface && part_matches r.member (Some member)
