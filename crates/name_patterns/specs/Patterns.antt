-- Patterns of bus names: one well-known name, or a name with all names below it.
use Rattle.std.specs.Prelude.{ℕ, Bool, true, false, not, ◌&&◌, ◌||◌, List, [], ◌∷◌, ◌++◌, codes, Option, Some, None, if◌then◌else◌, bytes_eq}
use Rattle.dbus_names.specs.Names.{is_bus_element, are_joined, is_short, is_well_known}
use Rattle.dbus_names.specs.Texts.{begins_with, has_end, without_last}

-- an exact name, or the N of N.*
pub record Pattern : Type 0 where
  pub name : List ℕ
  pub exact : Bool

-- one or more elements of a well-known name, joined by dots, at most 255 bytes in all
abbrev pub is_subtree_name : List ℕ → Bool
is_subtree_name name = is_short name && are_joined is_bus_element name

abbrev pub pattern_of : List ℕ → Option Pattern
pattern_of text =
    if has_end (codes ".*") text
    then (if is_subtree_name (without_last 2 text) then Some (record { name = without_last 2 text; exact = false }) else None)
    else (if is_well_known text then Some (record { name = text; exact = true }) else None)

-- an exact name covers only itself; N.* covers N and every text that begins with N and a dot
abbrev pub covers : Pattern → List ℕ → Bool
covers p name = bytes_eq name p.name || (not p.exact && begins_with (p.name ++ 46 ∷ []) name)

-- the text that gives the pattern
abbrev pub pattern_text : Pattern → List ℕ
pattern_text p = if p.exact then p.name else p.name ++ codes ".*"

-- a pattern that a text gives
abbrev pub is_pattern : Pattern → Bool
is_pattern p = if p.exact then is_well_known p.name else is_subtree_name p.name
