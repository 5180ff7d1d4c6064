-- How values are passed over by the codes of their types, in one pass. It is proved that this ends where reading them
-- ends.
use Rattle.std.specs.Prelude.{ℕ, zero, suc, ◌%◌, ◌^◌, Bool, true, false, ◌&&◌, ◌||◌, ◌==◌, nat_lt, nat_le, List, [], ◌∷◌, length, drop, get_or, is_none, Option, Some, None, if◌then◌else◌, Result, Ok, Err}
use Rattle.std.specs.Int.{w32}
use Rattle.dbus_names.specs.Names.{is_path, is_empty}
use Rattle.dbus_types.specs.Signature.{signature_fault}
use Rattle.dbus_types.specs.Behind.{behind}
use Rattle.dbus_values.specs.Reading.{At, ◌>>=◌, when, some_bytes, aligned, a_width, ended_by_nul, text_at}
use Rattle.dbus_values.specs.declared.Order.{Order}
use Rattle.dbus_values.specs.declared.BadValue.{BadValue}

-- the types that follow, and where the value ends
abbrev pub Walk : Type 0
Walk = List ℕ → At → Option (List ℕ × At)

-- ---- basic values

-- the width in bytes of a number type in which all bits are valid, by the type's code; 0 for another type
abbrev pub number_width : ℕ → ℕ
number_width c =
    if c == 121 then 1
    else (if c == 110 then 2
    else (if c == 113 then 2
    else (if c == 105 then 4
    else (if c == 117 then 4
    else (if c == 104 then 4
    else (if c == 120 then 8
    else (if c == 116 then 8
    else (if c == 100 then 8 else 0))))))))

abbrev pub walk_number : ℕ → At → Option At
walk_number width at = do
  start ← aligned width at
  x ← some_bytes width start
  Some x.1

abbrev pub walk_boolean : Order → At → Option At
walk_boolean order at = do
  start ← aligned 4 at
  x ← a_width order w32 start
  when (nat_lt x.0 2) x.1

abbrev pub walk_text : Order → At → Option At
walk_text order at = text_at order at >>= λ x. Some x.1

abbrev pub walk_path : Order → At → Option At
walk_path order at = text_at order at >>= λ x. when (is_path x.0) x.1

-- a signature's bytes, and where its value ends
abbrev pub read_signature : At → Option (List ℕ × At)
read_signature at = do
  n ← some_bytes 1 at
  x ← ended_by_nul (get_or n.0 0 0) n.1
  when (is_none (signature_fault x.0)) x

abbrev pub walk_signature : At → Option At
walk_signature at = read_signature at >>= λ x. Some x.1

-- a number in which all bits are valid, by its type's code
abbrev pub walk_number_by : ℕ → At → Option At
walk_number_by c at = if number_width c == 0 then None else walk_number (number_width c) at

abbrev pub walk_basic : Order → ℕ → At → Option At
walk_basic order c at =
    if c == 115 then walk_text order at
    else (if c == 111 then walk_path order at
    else (if c == 103 then walk_signature at
    else (if c == 98 then walk_boolean order at
    else walk_number_by c at)))

-- ---- containers

abbrev pub alignment_by : ℕ → ℕ
alignment_by c =
    if c == 110 then 2
    else (if c == 113 then 2
    else (if c == 98 then 4
    else (if c == 105 then 4
    else (if c == 117 then 4
    else (if c == 104 then 4
    else (if c == 115 then 4
    else (if c == 111 then 4
    else (if c == 97 then 4
    else (if c == 120 then 8
    else (if c == 116 then 8
    else (if c == 100 then 8
    else (if c == 40 then 8
    else (if c == 123 then 8 else 1)))))))))))))

-- the code of the first type
abbrev pub front_code : List ℕ → ℕ
front_code [] = 0
front_code (c ∷ types) = c

abbrev pub behind_entry : Option (List ℕ × At) → Option (List ℕ × At)
behind_entry None = None
behind_entry (Some x) = Some (drop 1 x.0, x.1)

-- an entry, whose types follow the brace
abbrev pub walk_entry : Walk → Walk
walk_entry inner types at = do
  start ← aligned 8 at
  key ← inner types start
  behind_entry (inner key.0 key.1)

abbrev pub walk_element : Walk → Walk
walk_element inner [] at = inner [] at
walk_element inner (c ∷ types) at = if c == 123 then walk_entry inner types at else inner (c ∷ types) at

abbrev pub has_more : Option (List ℕ × At) → (At → Bool) → Bool
has_more None others = false
has_more (Some x) others = others x.1

-- whether elements, at most this many, follow each other up to the end
abbrev pub walk_to_end : (At → Option (List ℕ × At)) → ℕ → At → Bool
walk_to_end item zero at = false
walk_to_end item (suc n) at = if is_empty at.bytes then true else has_more (item at) (walk_to_end item n)

-- numbers of one width fill the bytes if the length is a multiple of it
abbrev pub numbers_fill : ℕ → ℕ → List ℕ → Bool
numbers_fill containers width bytes = is_empty bytes || nat_lt 0 containers && length bytes % width == 0

abbrev pub elements_fill : ℕ → Walk → List ℕ → At → Bool
elements_fill containers inner types at =
    if number_width (front_code types) == 0 then walk_to_end (walk_element inner types) (suc (length at.bytes)) at
    else numbers_fill containers (number_width (front_code types)) at.bytes

-- an array, from its element's type on
abbrev pub walk_array : Order → ℕ → Walk → Walk
walk_array order containers inner types at = do
  start ← aligned 4 at
  n ← a_width order w32 start
  first ← aligned (alignment_by (front_code types)) n.1
  x ← some_bytes n.0 first
  when (nat_le n.0 (2 ^ 26) && elements_fill containers inner types (record { place = first.place; bytes = x.0 })) (behind 0 types, x.1)

-- members up to the closing parenthesis, at most this many
abbrev pub walk_members : Walk → ℕ → Walk
walk_members inner zero types at = None
walk_members inner (suc n) types at =
    if front_code types == 41 then Some (drop 1 types, at) else (inner types at >>= λ x. walk_members inner n x.0 x.1)

-- a struct, whose members' types follow the parenthesis
abbrev pub walk_struct : Walk → Walk
walk_struct inner types at = do
  start ← aligned 8 at
  x ← inner types start
  walk_members inner (suc (length x.0)) x.0 x.1

-- a variant, which has exactly one type
abbrev pub walk_variant : Walk → At → Option At
walk_variant inner at = do
  head ← read_signature at
  x ← inner head.0 head.1
  when (is_empty x.0) x.1

-- ---- values

abbrev pub with_types : List ℕ → Option At → Option (List ℕ × At)
with_types types None = None
with_types types (Some at) = Some (types, at)

abbrev pub walk_by : Order → ℕ → Walk → Walk
walk_by order containers inner [] at = None
walk_by order containers inner (c ∷ types) at =
    if c == 97 then walk_array order containers inner types at
    else (if c == 40 then walk_struct inner types at
    else (if c == 118 then with_types types (walk_variant inner at)
    else with_types types (walk_basic order c at)))

-- the value of the first type, if its nesting depth of containers is less than this number
unfoldable pub walk_within : ℕ → Order → Walk
walk_within zero order types at = None
walk_within (suc n) order types at = walk_by order n (walk_within n order) types at

abbrev pub walked : Option (List ℕ × At) → List ℕ × At → (List ℕ → At → List ℕ × At) → List ℕ × At
walked None here others = here
walked (Some x) here others = others x.0 x.1

-- the types that are left after at most this many values, and where the next value was to begin
abbrev pub walk_types : Walk → ℕ → List ℕ → At → List ℕ × At
walk_types walk zero types at = (types, at)
walk_types walk (suc n) types at = if is_empty types then (types, at) else walked (walk types at) (types, at) (walk_types walk n)

-- the place where the last value ended; if types are left, as a refusal
abbrev pub end_at : List ℕ × At → Result ℕ BadValue
end_at x = if is_empty x.0 then Ok x.1.place else Err (record { at = x.1.place })
