-- A message as text, line by line, and which texts are read as which message.
use Rattle.std.specs.Prelude.{◌≡◌, ◌<◌, ℕ, ◌+◌, ◌-◌, ◌/◌, ◌%◌, ◌^◌, max, nat_lt, nat_le, ◌==◌, Bool, true, ◌&&◌, ◌||◌, List, [], ◌∷◌, ◌++◌, map, codes, decimal, Option, Some, None, Result, Ok, Err, if◌then◌else◌, bytes_eq}
use Rattle.std.specs.Int.{w64}
use Rattle.std.specs.Str.{is_utf8}
use Rattle.std.specs.List.{list_all, flat_map}
use Rattle.dbus_types.specs.Signature.{Number, byte, boolean, int16, uint16, int32, uint32, int64, uint64, double, handle, number, string, path, signature, Complete, basic, variant, array, struct, entry, Completes, no_types, and, spelled_type, spelled_types, is_signature, signature_of}
use Rattle.dbus_values.specs.Values.{Value, a_number, a_string, a_path, a_signature, a_variant, an_array, a_struct, an_entry, Values, no_values, value, number_bytes, limit}
use Rattle.dbus_values.specs.declared.Order.{Order}
use Rattle.dbus_header.specs.Message.{Field, Message, Valid, order_byte}
use Rattle.message_text.specs.declared.BadText.{BadText}
use Rattle.message_text.specs.declared.BadText.TheVariants.{Form, NotValid}

-- the bytes of a text
abbrev pub Text : Type 0
Text = List ℕ

-- ---- what a text says

-- A value as a text says it: as the wire's values, but a signature stands by its text, whether it is one or not.
mutual
  pub data Said : Type 0 where
    says_number : Number → ℕ → Said
    says_string : Text → Said
    says_path : Text → Said
    says_signature : Text → Said
    says_variant : Said → Said
    says_array : Complete → Saids → Said
    says_struct : Said → Saids → Said
    says_entry : Said → Said → Said

  pub data Saids : Type 0 where
    no_more : Saids
    more : Said → Saids → Saids

pub record SaidField : Type 0 where
  pub code : ℕ
  pub value : Said

pub record SaidMessage : Type 0 where
  pub order : Order
  pub kind : ℕ
  pub flags : ℕ
  pub serial : ℕ
  pub fields : List SaidField
  pub body : List Said

abbrev mutual
  pub type_said : Said → Complete
  type_said (says_number n x) = basic (number n)
  type_said (says_string text) = basic string
  type_said (says_path text) = basic path
  type_said (says_signature text) = basic signature
  type_said (says_variant v) = variant
  type_said (says_array t vs) = array t
  type_said (says_struct v vs) = struct (type_said v) (types_said vs)
  type_said (says_entry k v) = entry (type_said k) (type_said v)

  pub types_said : Saids → Completes
  types_said no_more = no_types
  types_said (more v vs) = and (type_said v) (types_said vs)

-- what the text of a value says
abbrev mutual
  pub said : Value → Said
  said (a_number n x) = says_number n x
  said (a_string text) = says_string text
  said (a_path text) = says_path text
  said (a_signature ts) = says_signature (spelled_types ts)
  said (a_variant v) = says_variant (said v)
  said (an_array t vs) = says_array t (all_said vs)
  said (a_struct v vs) = says_struct (said v) (all_said vs)
  said (an_entry k v) = says_entry (said k) (said v)

  pub all_said : Values → Saids
  all_said no_values = no_more
  all_said (value v vs) = more (said v) (all_said vs)

abbrev pub said_field : Field → SaidField
said_field f = record { code = f.code; value = said f.value }

abbrev pub said_message : Message → SaidMessage
said_message m = record { order = m.order; kind = m.kind; flags = m.flags; serial = m.serial; fields = map said_field m.fields; body = map said m.body }

-- ---- its text

abbrev pub hex_digit : ℕ → ℕ
hex_digit d = if nat_lt d 10 then 48 + d else 87 + d

abbrev pub hex_byte : ℕ → Text
hex_byte b = hex_digit (b / 16) ∷ hex_digit (b % 16) ∷ []

abbrev pub escaped : ℕ → Text
escaped c =
    if c == 92 || c == 34 then 92 ∷ c ∷ []
    else (if nat_lt c 32 || c == 127 then 92 ∷ 120 ∷ hex_byte c else c ∷ [])

abbrev pub quoted : Text → Text
quoted text = 34 ∷ flat_map escaped text ++ 34 ∷ []

-- a number of this many bits, the first of which is its sign
abbrev pub signed : ℕ → ℕ → Text
signed bits x = if nat_lt x (2 ^ (bits - 1)) then decimal x else 45 ∷ decimal (2 ^ bits - x)

abbrev pub number_text : Order → Number → ℕ → Text
number_text order byte x = decimal x
number_text order boolean x = if x == 0 then codes "false" else codes "true"
number_text order int16 x = signed 16 x
number_text order uint16 x = decimal x
number_text order int32 x = signed 32 x
number_text order uint32 x = decimal x
number_text order int64 x = signed 64 x
number_text order uint64 x = decimal x
number_text order double x = codes "0x" ++ flat_map hex_byte (number_bytes order w64 x)
number_text order handle x = decimal x

-- a value, and values separated by one space
abbrev mutual
  pub value_text : Order → Said → Text
  value_text order (says_number n x) = number_text order n x
  value_text order (says_string text) = quoted text
  value_text order (says_path text) = quoted text
  value_text order (says_signature text) = quoted text
  value_text order (says_variant v) = 60 ∷ spelled_type (type_said v) ++ 32 ∷ value_text order v ++ 62 ∷ []
  value_text order (says_array t no_more) = 91 ∷ 93 ∷ []
  value_text order (says_array t (more v vs)) = 91 ∷ value_text order v ++ others_text order vs ++ 93 ∷ []
  value_text order (says_struct v vs) = 40 ∷ value_text order v ++ others_text order vs ++ 41 ∷ []
  value_text order (says_entry k v) = 123 ∷ value_text order k ++ 32 ∷ value_text order v ++ 125 ∷ []

  pub others_text : Order → Saids → Text
  others_text order no_more = []
  others_text order (more v vs) = 32 ∷ value_text order v ++ others_text order vs

abbrev pub first_line : SaidMessage → Text
first_line m = order_byte m.order ∷ 32 ∷ decimal m.kind ++ 32 ∷ decimal m.flags ++ 32 ∷ decimal m.serial ++ 10 ∷ []

abbrev pub field_line : Order → SaidField → Text
field_line order f = decimal f.code ++ 32 ∷ spelled_type (type_said f.value) ++ 32 ∷ value_text order f.value ++ 10 ∷ []

abbrev pub body_line : Order → List Said → Text
body_line order body = codes "body" ++ flat_map (λ v. 32 ∷ value_text order v) body ++ 10 ∷ []

unfoldable pub text_of : SaidMessage → Text
text_of m = first_line m ++ flat_map (field_line m.order) m.fields ++ body_line m.order m.body

-- what show prints of a message
abbrev pub message_text : Message → Text
message_text m = text_of (said_message m)

-- ---- which texts are of this shape

abbrev pub is_typed : Complete → Said → Bool
is_typed t v = bytes_eq (spelled_type t) (spelled_type (type_said v))

abbrev pub are_typed : Complete → Saids → Bool
are_typed t no_more = true
are_typed t (more v vs) = is_typed t v && are_typed t vs

-- numbers in their ranges, characters in quotes, variants of one type, elements of the array's
abbrev mutual
  pub in_range : Said → Bool
  in_range (says_number n x) = nat_lt x (limit n)
  in_range (says_string text) = is_utf8 text
  in_range (says_path text) = is_utf8 text
  in_range (says_signature text) = is_utf8 text
  in_range (says_variant v) = is_signature (type_said v ∷ []) && in_range v
  in_range (says_array t vs) = are_typed t vs && all_in_range vs
  in_range (says_struct v vs) = in_range v && all_in_range vs
  in_range (says_entry k v) = in_range k && in_range v

  pub all_in_range : Saids → Bool
  all_in_range no_more = true
  all_in_range (more v vs) = in_range v && all_in_range vs

abbrev mutual
  pub depth_said : Said → ℕ
  depth_said (says_number n x) = 0
  depth_said (says_string text) = 0
  depth_said (says_path text) = 0
  depth_said (says_signature text) = 0
  depth_said (says_variant v) = 1 + depth_said v
  depth_said (says_array t no_more) = 0
  depth_said (says_array t (more v vs)) = 1 + max (depth_said v) (depths_said vs)
  depth_said (says_struct v vs) = 1 + max (depth_said v) (depths_said vs)
  depth_said (says_entry k v) = max (depth_said k) (depth_said v)

  pub depths_said : Saids → ℕ
  depths_said no_more = 0
  depths_said (more v vs) = max (depth_said v) (depths_said vs)

-- a value of one complete type, within at most this many containers
abbrev pub has_shape : ℕ → Said → Bool
has_shape containers v = is_signature (type_said v ∷ []) && in_range v && nat_le (depth_said v) containers

-- a field's value stands in a variant
abbrev pub field_shape : SaidField → Bool
field_shape f = nat_lt f.code 256 && has_shape 63 f.value

abbrev pub or_next : Option (List Complete) → List Complete → List Complete
or_next (Some ts) later = ts
or_next None later = later

abbrev pub types_by_value : Said → Option (List Complete)
types_by_value (says_signature text) = signature_of text
types_by_value _ = None

abbrev pub types_by : SaidField → Option (List Complete)
types_by f = if f.code == 8 then types_by_value f.value else None

-- the types of the first field of code 8 that has a valid signature
abbrev pub body_types : List SaidField → List Complete
body_types [] = []
body_types (f ∷ fields) = or_next (types_by f) (body_types fields)

pub record InShape (m : SaidMessage) : Type 0 where
  pub numbers : (m.kind < 256) × (m.flags < 256) × (m.serial < 2 ^ 32)
  pub fields : list_all field_shape m.fields ≡ true
  pub body : list_all (has_shape 64) m.body ≡ true
  pub types : spelled_types (map type_said m.body) ≡ spelled_types (body_types m.fields)

-- ---- what a text is read as

-- a text gives the valid message whose text it is; it is of the shape and gives none; or it is of no such shape
pub data ReadsAs (text : Text) : Result Message BadText → Type 0 where
  is_message : (m : Message) → Valid m → message_text m ≡ text → ReadsAs text (Ok m)
  is_shape : (s : SaidMessage) → InShape s → text_of s ≡ text → ((m : Message) → Valid m → message_text m ≡ text → ⊥) → ReadsAs text (Err NotValid)
  is_neither : ((s : SaidMessage) → InShape s → text_of s ≡ text → ⊥) → ReadsAs text (Err Form)
