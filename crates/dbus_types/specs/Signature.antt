-- Types and signatures: trees, and their one spelling.
use Rattle.std.specs.Prelude.{ℕ, ◌+◌, max, Bool, true, false, ◌&&◌, ◌==◌, nat_le, not, List, [], ◌∷◌, ◌++◌, length, Option, Some, None, if◌then◌else◌, option_and_then, option_map, nat_lt, is_none}
use Rattle.std.specs.List.{list_all, flat_map}
use Rattle.dbus_types.specs.declared.BadSignature.{BadSignature}
use Rattle.dbus_types.specs.declared.BadSignature.TheVariants.{TooLong, Depth, Form}

-- ---- types

pub data Number : Type 0 where
  byte boolean int16 uint16 int32 uint32 int64 uint64 double handle : Number

pub data Basic : Type 0 where
  number : Number → Basic
  string path signature : Basic

-- A complete type. An entry is a dict entry, which is only allowed as an array's element. A struct has a first member
-- and others.
mutual
  pub data Complete : Type 0 where
    basic : Basic → Complete
    variant : Complete
    array : Complete → Complete
    struct : Complete → Completes → Complete
    entry : Complete → Complete → Complete

  pub data Completes : Type 0 where
    no_types : Completes
    and : Complete → Completes → Completes

-- ---- spelling

abbrev pub number_code : Number → ℕ
number_code byte = 121
number_code boolean = 98
number_code int16 = 110
number_code uint16 = 113
number_code int32 = 105
number_code uint32 = 117
number_code int64 = 120
number_code uint64 = 116
number_code double = 100
number_code handle = 104

abbrev pub code : Basic → ℕ
code (number n) = number_code n
code string = 115
code path = 111
code signature = 103

abbrev mutual
  pub spelled_type : Complete → List ℕ
  spelled_type (basic b) = code b ∷ []
  spelled_type variant = 118 ∷ []
  spelled_type (array t) = 97 ∷ spelled_type t
  spelled_type (struct t ts) = 40 ∷ spelled_type t ++ spelled_members ts ++ 41 ∷ []
  spelled_type (entry k t) = 123 ∷ spelled_type k ++ spelled_type t ++ 125 ∷ []

  pub spelled_members : Completes → List ℕ
  spelled_members no_types = []
  spelled_members (and t ts) = spelled_type t ++ spelled_members ts

-- a signature is a list of complete types
abbrev pub spelled_types : List Complete → List ℕ
spelled_types ts = flat_map spelled_type ts

-- ---- what a signature may be

abbrev pub is_basic : Complete → Bool
is_basic (basic b) = true
is_basic _ = false

-- no dict entry except as an array's element, and its key is basic
abbrev mutual
  pub is_complete : Complete → Bool
  is_complete (basic b) = true
  is_complete variant = true
  is_complete (array t) = is_element_type t
  is_complete (struct t ts) = is_complete t && are_complete ts
  is_complete (entry k t) = false

  pub is_element_type : Complete → Bool
  is_element_type (basic b) = true
  is_element_type variant = true
  is_element_type (array t) = is_element_type t
  is_element_type (struct t ts) = is_complete t && are_complete ts
  is_element_type (entry k t) = is_basic k && is_complete t

  pub are_complete : Completes → Bool
  are_complete no_types = true
  are_complete (and t ts) = is_complete t && are_complete ts

-- the nesting depth of arrays, and that of structs
abbrev mutual
  pub arrays : Complete → ℕ
  arrays (basic b) = 0
  arrays variant = 0
  arrays (array t) = 1 + arrays t
  arrays (struct t ts) = max (arrays t) (arrays_of ts)
  arrays (entry k t) = arrays t

  pub arrays_of : Completes → ℕ
  arrays_of no_types = 0
  arrays_of (and t ts) = max (arrays t) (arrays_of ts)

abbrev mutual
  pub structs : Complete → ℕ
  structs (basic b) = 0
  structs variant = 0
  structs (array t) = structs t
  structs (struct t ts) = 1 + max (structs t) (structs_of ts)
  structs (entry k t) = structs t

  pub structs_of : Completes → ℕ
  structs_of no_types = 0
  structs_of (and t ts) = max (structs t) (structs_of ts)

abbrev pub is_shallow : Complete → Bool
is_shallow t = nat_le (arrays t) 32 && nat_le (structs t) 32

-- a signature within the limits
abbrev pub is_signature : List Complete → Bool
is_signature ts = list_all is_complete ts && list_all is_shallow ts && nat_le (length (spelled_types ts)) 255

-- ---- reading, from the last byte to the first

-- the types read so far, outside brackets or inside one that is still open on the left
pub data Open : Type 0 where
  outside : List Complete → Open
  in_struct : List Complete → Open → Open
  in_entry : List Complete → Open → Open

-- a type added before those read so far
abbrev pub put : Complete → Open → Open
put t (outside ts) = outside (t ∷ ts)
put t (in_struct ts o) = in_struct (t ∷ ts) o
put t (in_entry ts o) = in_entry (t ∷ ts) o

-- 'a' takes the type that follows it
abbrev pub put_array : Open → Option Open
put_array (outside (t ∷ ts)) = Some (outside (array t ∷ ts))
put_array (in_struct (t ∷ ts) o) = Some (in_struct (array t ∷ ts) o)
put_array (in_entry (t ∷ ts) o) = Some (in_entry (array t ∷ ts) o)
put_array _ = None

abbrev pub members : List Complete → Completes
members [] = no_types
members (t ∷ ts) = and t (members ts)

-- '(' takes the types up to its ')', and '{' the two up to its '}'
abbrev pub put_struct : Open → Option Open
put_struct (in_struct (t ∷ ts) o) = Some (put (struct t (members ts)) o)
put_struct _ = None

abbrev pub put_entry : Open → Option Open
put_entry (in_entry (k ∷ t ∷ []) o) = Some (put (entry k t) o)
put_entry _ = None

-- a basic type by its code
abbrev pub basic_of : ℕ → Option Basic
basic_of c =
    if c == 121 then Some (number byte)
    else (if c == 98 then Some (number boolean)
    else (if c == 110 then Some (number int16)
    else (if c == 113 then Some (number uint16)
    else (if c == 105 then Some (number int32)
    else (if c == 117 then Some (number uint32)
    else (if c == 120 then Some (number int64)
    else (if c == 116 then Some (number uint64)
    else (if c == 100 then Some (number double)
    else (if c == 104 then Some (number handle)
    else (if c == 115 then Some string
    else (if c == 111 then Some path
    else (if c == 103 then Some signature
    else None))))))))))))

abbrev pub put_code : ℕ → Open → Option Open
put_code c o =
    if c == 97 then put_array o
    else (if c == 118 then Some (put variant o)
    else (if c == 41 then Some (in_struct [] o)
    else (if c == 40 then put_struct o
    else (if c == 125 then Some (in_entry [] o)
    else (if c == 123 then put_entry o
    else option_map (λ b. put (basic b) o) (basic_of c))))))

abbrev pub read_back : List ℕ → Option Open
read_back [] = Some (outside [])
read_back (c ∷ bytes) = option_and_then (put_code c) (read_back bytes)

abbrev pub closed : Open → Option (List Complete)
closed (outside ts) = Some ts
closed (in_struct ts o) = None
closed (in_entry ts o) = None

-- the types that the bytes spell, dict entries anywhere
abbrev pub types_of : List ℕ → Option (List Complete)
types_of bytes = option_and_then closed (read_back bytes)

-- ---- the result of reading

-- for at most 255 bytes
abbrev pub fault_of_types : Option (List Complete) → Option BadSignature
fault_of_types None = Some Form
fault_of_types (Some ts) = if not (list_all is_complete ts) then Some Form else (if list_all is_shallow ts then None else Some Depth)

abbrev pub signature_fault : List ℕ → Option BadSignature
signature_fault bytes = if nat_lt 255 (length bytes) then Some TooLong else fault_of_types (types_of bytes)

-- the signature that the bytes spell, within the limits
abbrev pub signature_of : List ℕ → Option (List Complete)
signature_of bytes = if is_none (signature_fault bytes) then types_of bytes else None
