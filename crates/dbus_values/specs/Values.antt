-- Values, and how one is spelled at a place of a message.
use Rattle.std.specs.Prelude.{ℕ, ◌+◌, ◌-◌, ◌%◌, ◌^◌, max, Bool, true, ◌&&◌, nat_le, nat_lt, List, [], ◌∷◌, ◌++◌, length, replicate, bytes_eq}
use Rattle.std.specs.Int.{Width, w8, w16, w32, w64, byte_len, to_le_bytes, to_be_bytes}
use Rattle.std.specs.Str.{is_utf8}
use Rattle.std.specs.List.{list_all}
use Rattle.dbus_names.specs.Names.{is_path}
use Rattle.dbus_types.specs.Signature.{Number, byte, boolean, int16, uint16, int32, uint32, int64, uint64, double, handle, number, string, path, signature, Complete, basic, variant, array, struct, entry, Completes, no_types, and, spelled_type, spelled_types, is_signature, is_element_type}
use Rattle.dbus_values.specs.declared.Order.{Order}
use Rattle.dbus_values.specs.declared.Order.TheVariants.{Little, Big}

-- ---- values

-- A number is given by its bits. An array has its elements' type, so that each value has one type. A struct has a first
-- member and others. An entry is a dict entry, a key and a value.
mutual
  pub data Value : Type 0 where
    a_number : Number → ℕ → Value
    a_string : List ℕ → Value
    a_path : List ℕ → Value
    a_signature : List Complete → Value
    a_variant : Value → Value
    an_array : Complete → Values → Value
    a_struct : Value → Values → Value
    an_entry : Value → Value → Value

  pub data Values : Type 0 where
    no_values : Values
    value : Value → Values → Values

abbrev mutual
  pub type_of : Value → Complete
  type_of (a_number n x) = basic (number n)
  type_of (a_string text) = basic string
  type_of (a_path text) = basic path
  type_of (a_signature ts) = basic signature
  type_of (a_variant v) = variant
  type_of (an_array t vs) = array t
  type_of (a_struct v vs) = struct (type_of v) (types_of vs)
  type_of (an_entry k v) = entry (type_of k) (type_of v)

  pub types_of : Values → Completes
  types_of no_values = no_types
  types_of (value v vs) = and (type_of v) (types_of vs)

abbrev pub list_of : Values → List Value
list_of no_values = []
list_of (value v vs) = v ∷ list_of vs

abbrev pub values_of : List Value → Values
values_of [] = no_values
values_of (v ∷ vs) = value v (values_of vs)

-- ---- spelling

abbrev pub width : Number → Width
width byte = w8
width boolean = w32
width int16 = w16
width uint16 = w16
width int32 = w32
width uint32 = w32
width int64 = w64
width uint64 = w64
width double = w64
width handle = w32

abbrev pub alignment : Complete → ℕ
alignment (basic (number n)) = byte_len (width n)
alignment (basic string) = 4
alignment (basic path) = 4
alignment (basic signature) = 1
alignment variant = 1
alignment (array t) = 4
alignment (struct t ts) = 8
alignment (entry k t) = 8

-- the distance to the next multiple of n
abbrev pub padding : ℕ → ℕ → ℕ
padding n place = (n - place % n) % n

abbrev pub zeros : ℕ → ℕ → List ℕ
zeros n place = replicate (padding n place) 0

abbrev pub number_bytes : Order → Width → ℕ → List ℕ
number_bytes Little w x = to_le_bytes w x
number_bytes Big w x = to_be_bytes w x

-- a length, and the bytes after it
abbrev pub counted : Order → List ℕ → List ℕ
counted order bytes = number_bytes order w32 (length bytes) ++ bytes

-- a length byte, the signature, one NUL
abbrev pub spelled_signature : List Complete → List ℕ
spelled_signature ts = length (spelled_types ts) ∷ spelled_types ts ++ 0 ∷ []

-- where the elements of an array at the place begin: after its length and their own padding
abbrev pub elements_place : Complete → ℕ → ℕ
elements_place t place = let behind = place + padding 4 place + 4 in behind + padding (alignment t) behind

abbrev mutual
  pub spelled : Order → ℕ → Value → List ℕ
  spelled order place (a_number n x) = zeros (byte_len (width n)) place ++ number_bytes order (width n) x
  spelled order place (a_string text) = zeros 4 place ++ counted order text ++ 0 ∷ []
  spelled order place (a_path text) = zeros 4 place ++ counted order text ++ 0 ∷ []
  spelled order place (a_signature ts) = spelled_signature ts
  spelled order place (a_variant v) =
      let head = spelled_signature (type_of v ∷ []) in head ++ spelled order (place + length head) v
  spelled order place (an_array t vs) =
      let elements = spelled_all order (elements_place t place) vs in
      zeros 4 place ++ number_bytes order w32 (length elements) ++ zeros (alignment t) (place + padding 4 place + 4) ++ elements
  spelled order place (a_struct v vs) =
      let start = place + padding 8 place in
      let first = spelled order start v in
      zeros 8 place ++ first ++ spelled_all order (start + length first) vs
  spelled order place (an_entry k v) =
      let start = place + padding 8 place in
      let key = spelled order start k in
      zeros 8 place ++ key ++ spelled order (start + length key) v

  -- one after the other
  pub spelled_all : Order → ℕ → Values → List ℕ
  spelled_all order place no_values = []
  spelled_all order place (value v vs) =
      let first = spelled order place v in first ++ spelled_all order (place + length first) vs

-- ---- which values there are

-- the greatest number of containers around a value inside; an entry counts together with its array
abbrev mutual
  pub depth : Value → ℕ
  depth (a_number n x) = 0
  depth (a_string text) = 0
  depth (a_path text) = 0
  depth (a_signature ts) = 0
  depth (a_variant v) = 1 + depth v
  depth (an_array t no_values) = 0
  depth (an_array t (value v vs)) = 1 + max (depth v) (depths vs)
  depth (a_struct v vs) = 1 + max (depth v) (depths vs)
  depth (an_entry k v) = max (depth k) (depth v)

  pub depths : Values → ℕ
  depths no_values = 0
  depths (value v vs) = max (depth v) (depths vs)

-- UTF-8 without NUL
abbrev pub is_text : List ℕ → Bool
is_text text = list_all (nat_lt 0) text && is_utf8 text && nat_lt (length text) (2 ^ 32)

abbrev pub limit : Number → ℕ
limit boolean = 2
limit n = 256 ^ byte_len (width n)

abbrev pub has_type : Complete → Value → Bool
has_type t v = bytes_eq (spelled_type t) (spelled_type (type_of v))

abbrev pub have_type : Complete → Values → Bool
have_type t no_values = true
have_type t (value v vs) = has_type t v && have_type t vs

-- all limits except the depth's
abbrev mutual
  pub is_value : Order → ℕ → Value → Bool
  is_value order place (a_number n x) = nat_lt x (limit n)
  is_value order place (a_string text) = is_text text
  is_value order place (a_path text) = is_text text && is_path text
  is_value order place (a_signature ts) = is_signature ts
  is_value order place (a_variant v) =
      is_signature (type_of v ∷ []) && is_value order (place + length (spelled_signature (type_of v ∷ []))) v
  is_value order place (an_array t vs) =
      is_element_type t && have_type t vs && are_values order (elements_place t place) vs && nat_le (length (spelled_all order (elements_place t place) vs)) (2 ^ 26)
  is_value order place (a_struct v vs) =
      let start = place + padding 8 place in
      is_value order start v && are_values order (start + length (spelled order start v)) vs
  is_value order place (an_entry k v) =
      let start = place + padding 8 place in
      is_value order start k && is_value order (start + length (spelled order start k)) v

  pub are_values : Order → ℕ → Values → Bool
  are_values order place no_values = true
  are_values order place (value v vs) = is_value order place v && are_values order (place + length (spelled order place v)) vs

abbrev pub is_within : ℕ → Value → Bool
is_within containers v = nat_le (depth v) containers
