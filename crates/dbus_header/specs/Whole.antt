-- What reading a whole message finds.
use Rattle.std.specs.Prelude.{◌≡◌, ℕ, ◌≤◌, ◌^◌, ◌==◌, ◌&&◌, not, List, [], length, Option, Some, None, Ok, if◌then◌else◌, unwrap_or}
use Rattle.dbus_names.specs.Names.{is_empty}
use Rattle.dbus_types.specs.Signature.{Complete}
use Rattle.dbus_values.specs.Values.{Value}
use Rattle.dbus_values.specs.Reading.{At, values_at}
use Rattle.dbus_values.specs.declared.Order.{Order}
use Rattle.dbus_header.specs.Message.{Message, body_place}
use Rattle.dbus_header.specs.Malformed.{malformed, order_in, fields_len, fields_of, has_zeros, whole}
use Rattle.dbus_header.specs.HeaderReading.{Found, has_required_parts}
use Rattle.dbus_header.specs.HeaderFields.{at_place, found_of}
use Rattle.dbus_header.specs.declared.Malformed.{Malformed}
use Rattle.dbus_header.specs.declared.MalformedKind.TheVariants.{Fields, Required, Body, Descriptors}

-- ---- the header fields

-- a whole message states this number of bytes of header fields, and its body begins after them; both lengths are within
-- the limits
pub record IsFieldsLen (bytes : List ℕ) (n : ℕ) : Type 0 where
  pub stated : n ≡ fields_len bytes
  pub few : n ≤ 2 ^ 26
  pub inside : body_place n ≤ length bytes
  pub short : length bytes ≤ 2 ^ 27

-- the last valid field doesn't end where the fields do, or the padding after the fields isn't zero; the place is that
-- field's end
abbrev pub fields_fault : List ℕ → Option Malformed
fields_fault bytes = let fields = fields_of bytes in if is_empty fields.1.bytes && has_zeros bytes then None else malformed Fields fields.1.place

-- what the valid fields hold
abbrev pub fields_found : List ℕ → Found
fields_found bytes = found_of (order_in bytes) (fields_of bytes).0

-- ---- the body

-- the place where the body of these types is wrong, if the values are those that were read
abbrev pub body_fault_of : List Complete → List Value × At → Option ℕ
body_fault_of types found = if length found.0 == length types && is_empty found.1.bytes then None else Some found.1.place

-- the place where the body is wrong, if it begins at this place of the bytes
abbrev pub body_fault_at : Order → List Complete → List ℕ → ℕ → Option ℕ
body_fault_at order types bytes place = body_fault_of types (values_at order types (at_place bytes place))

-- the signature that was found, spelled; an absent one is empty
abbrev pub stated_in : Found → List ℕ
stated_in found = unwrap_or found.signature []

-- ---- the message

-- the body is wrong at this place, or else the descriptors are
abbrev pub body_or_descriptors : Found → Option ℕ → Option Malformed
body_or_descriptors found (Some at) = malformed Body at
body_or_descriptors found None = if unwrap_or found.descriptors 0 == 0 then None else malformed Descriptors 12

-- what else is wrong with a message of this type with these fields, whose body is wrong at this place
abbrev pub rest_fault : ℕ → Found → Option ℕ → Option Malformed
rest_fault kind found body = if not (has_required_parts kind found.parts) then malformed Required 12 else body_or_descriptors found body

-- the bytes are a valid message, and this is what its fields hold
pub record HasParts (bytes : List ℕ) (found : Found) : Type 0 where
  pub message : Message
  pub is : whole bytes ≡ Ok message
  pub found_is : found ≡ found_of message.order message.fields
