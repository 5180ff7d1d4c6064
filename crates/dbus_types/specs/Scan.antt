-- One pass over a signature, from its last byte to its first, that keeps of its types only what their limits need.
use Rattle.std.specs.Prelude.{ℕ, ◌+◌, min, max, Bool, true, false, ◌&&◌, not, nat_le, List, [], ◌∷◌, Option, Some, None, if◌then◌else◌, option_and_then, option_map}
use Rattle.dbus_types.specs.declared.BadSignature.{BadSignature}
use Rattle.dbus_types.specs.declared.BadSignature.TheVariants.{Depth, Form}
use Rattle.dbus_types.specs.declared.codes.Code.{Code}
use Rattle.dbus_types.specs.declared.codes.Code.TheVariants.{Unknown, Basic, Variant, Array, StructStart, StructEnd, EntryStart, EntryEnd}
use Rattle.dbus_types.specs.declared.level.Kind.{Kind}
use Rattle.dbus_types.specs.declared.level.Kind.TheVariants.{BasicType, Container, DictEntry}
use Rattle.dbus_types.specs.declared.level.Count.{Count}
use Rattle.dbus_types.specs.declared.level.Count.TheVariants.{Nothing, One, Two, More}
use Rattle.dbus_types.specs.declared.level.Bracket.{Bracket}
use Rattle.dbus_types.specs.declared.level.Bracket.TheVariants.{Outside, Parentheses, Braces}
use Rattle.dbus_types.specs.declared.level.Shape.{Shape}
use Rattle.dbus_types.specs.declared.level.Others.{Others}
use Rattle.dbus_types.specs.declared.level.Level.{Level}
use Rattle.dbus_types.specs.Codes.{code_of}

-- ---- types

abbrev pub is_entry : Kind → Bool
is_entry BasicType = false
is_entry Container = false
is_entry DictEntry = true

abbrev pub is_basic_type : Kind → Bool
is_basic_type BasicType = true
is_basic_type Container = false
is_basic_type DictEntry = false

-- one more, counted up to 255
abbrev pub deeper : ℕ → ℕ
deeper depth = min (depth + 1) 255

abbrev pub flat_shape : Kind → Shape
flat_shape kind = record { kind = kind; complete = true; arrays = 0; structs = 0 }

abbrev pub array_shape : Shape → Shape
array_shape t = record { kind = Container; complete = t.complete; arrays = deeper t.arrays; structs = t.structs }

-- ---- the types of a level

abbrev pub joined : Shape → Others → Others
joined first others = record {
  complete = (first.complete && not (is_entry first.kind)) && others.complete;
  arrays = max first.arrays others.arrays;
  structs = max first.structs others.structs;
}

abbrev pub more : Count → Count
more Nothing = One
more One = Two
more Two = More
more More = More

abbrev pub no_others : Others
no_others = record { complete = true; arrays = 0; structs = 0 }

abbrev pub empty_level : Bracket → Level
empty_level bracket = record { bracket = bracket; count = Nothing; first = flat_shape BasicType; others = no_others }

abbrev pub with_type : Shape → Level → Level
with_type t l = record { bracket = l.bracket; count = more l.count; first = t; others = joined l.first l.others }

-- what is kept of all types of a level
abbrev pub all_types : Level → Others
all_types l = joined l.first l.others

abbrev pub with_array : Level → Level
with_array l = record { bracket = l.bracket; count = l.count; first = array_shape l.first; others = l.others }

abbrev pub array_by : Count → Level → Option Level
array_by Nothing l = None
array_by One l = Some (with_array l)
array_by Two l = Some (with_array l)
array_by More l = Some (with_array l)

abbrev pub array_in : Level → Option Level
array_in l = array_by l.count l

abbrev pub shape_of_struct : Level → Shape
shape_of_struct l = record {
  kind = Container;
  complete = (all_types l).complete;
  arrays = (all_types l).arrays;
  structs = deeper (all_types l).structs;
}

abbrev pub struct_by : Bracket → Count → Level → Option Shape
struct_by Outside count l = None
struct_by Braces count l = None
struct_by Parentheses Nothing l = None
struct_by Parentheses One l = Some (shape_of_struct l)
struct_by Parentheses Two l = Some (shape_of_struct l)
struct_by Parentheses More l = Some (shape_of_struct l)

abbrev pub struct_of : Level → Option Shape
struct_of l = struct_by l.bracket l.count l

-- the key, if it is basic, has no arrays and no structs
abbrev pub shape_of_entry : Level → Shape
shape_of_entry l = record {
  kind = DictEntry;
  complete = is_basic_type l.first.kind && l.others.complete;
  arrays = l.others.arrays;
  structs = l.others.structs;
}

abbrev pub entry_by : Bracket → Count → Level → Option Shape
entry_by Outside count l = None
entry_by Parentheses count l = None
entry_by Braces Nothing l = None
entry_by Braces One l = None
entry_by Braces Two l = Some (shape_of_entry l)
entry_by Braces More l = None

abbrev pub entry_of : Level → Option Shape
entry_of l = entry_by l.bracket l.count l

-- ---- levels, the innermost first

abbrev pub Levels : Type 0
Levels = Level × List Level

abbrev pub outside_level : Levels
outside_level = (empty_level Outside, [])

abbrev pub with_last : Shape → List Level → Option Levels
with_last t [] = None
with_last t (l ∷ ls) = Some (with_type t l, ls)

abbrev pub step : Code → Levels → Option Levels
step Unknown s = None
step Basic s = Some (with_type (flat_shape BasicType) s.0, s.1)
step Variant s = Some (with_type (flat_shape Container) s.0, s.1)
step Array s = option_map (λ l. (l, s.1)) (array_in s.0)
step StructStart s = option_and_then (λ t. with_last t s.1) (struct_of s.0)
step StructEnd s = Some (empty_level Parentheses, s.0 ∷ s.1)
step EntryStart s = option_and_then (λ t. with_last t s.1) (entry_of s.0)
step EntryEnd s = Some (empty_level Braces, s.0 ∷ s.1)

abbrev pub scan_back : List ℕ → Option Levels
scan_back [] = Some outside_level
scan_back (c ∷ bytes) = option_and_then (step (code_of c)) (scan_back bytes)

-- ---- what the pass finds

abbrev pub fault_of_all : Others → Option BadSignature
fault_of_all all = if not all.complete then Some Form else (if nat_le all.arrays 32 && nat_le all.structs 32 then None else Some Depth)

abbrev pub fault_outside : Level → List Level → Option BadSignature
fault_outside l [] = fault_of_all (all_types l)
fault_outside l (o ∷ os) = Some Form

abbrev pub fault_of_levels : Option Levels → Option BadSignature
fault_of_levels None = Some Form
fault_of_levels (Some s) = fault_outside s.0 s.1
