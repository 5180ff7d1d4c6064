-- Bytes as a message: the message that they spell, or the kind and place of what is wrong.
use Rattle.std.specs.Prelude.{ℕ, zero, suc, ◌+◌, ◌^◌, Bool, not, ◌&&◌, ◌==◌, nat_lt, List, [], ◌∷◌, length, take, drop, get_or, Option, Some, None, Result, Ok, Err, if◌then◌else◌, is_some, is_none, unwrap_or}
use Rattle.std.specs.Int.{w32}
use Rattle.dbus_names.specs.Names.{is_empty}
use Rattle.dbus_types.specs.Signature.{Complete, basic, number, byte, struct, variant, and, no_types}
use Rattle.dbus_values.specs.Values.{Value, a_number, a_struct, a_variant, value, no_values, padding}
use Rattle.dbus_values.specs.Reading.{At, Read, ◌>>=◌, when, number_of, all_zero, value_within, values_at, and_then_all}
use Rattle.dbus_header.specs.Message.{Field, Message, may_follow, has_required, has_no_descriptors, stated, body_place}
use Rattle.dbus_values.specs.declared.Order.{Order}
use Rattle.dbus_values.specs.declared.Order.TheVariants.{Little, Big}
use Rattle.dbus_header.specs.declared.MalformedKind.{MalformedKind}
use Rattle.dbus_header.specs.declared.MalformedKind.TheVariants.{ByteOrder, MessageType, Version, Length, Serial, Fields, Required, Body, Descriptors}
use Rattle.dbus_header.specs.declared.Malformed.{Malformed}

-- the kind's number in the bytes of an End
abbrev pub kind_number : MalformedKind → ℕ
kind_number ByteOrder = 1
kind_number MessageType = 2
kind_number Version = 3
kind_number Length = 4
kind_number Serial = 5
kind_number Fields = 6
kind_number Required = 7
kind_number Body = 8
kind_number Descriptors = 9

abbrev pub malformed : MalformedKind → ℕ → Option Malformed
malformed kind at = Some (record { kind = kind; at = at })

-- ---- the first sixteen bytes

abbrev pub order_of : ℕ → Option Order
order_of b = if b == 108 then Some Little else (if b == 66 then Some Big else None)

-- the order that the first byte states, or Little if it states none
abbrev pub order_in : List ℕ → Order
order_in bytes = unwrap_or (order_of (get_or bytes 0 0)) Little

abbrev pub u32_in : List ℕ → ℕ → ℕ
u32_in bytes place = number_of (order_in bytes) w32 (take 4 (drop place bytes))

abbrev pub body_len : List ℕ → ℕ
body_len bytes = u32_in bytes 4

abbrev pub serial_in : List ℕ → ℕ
serial_in bytes = u32_in bytes 8

abbrev pub fields_len : List ℕ → ℕ
fields_len bytes = u32_in bytes 12

abbrev pub body_start : List ℕ → ℕ
body_start bytes = body_place (fields_len bytes)

-- the length of the whole message that the first sixteen bytes state
abbrev pub whole_len : List ℕ → ℕ
whole_len bytes = body_start bytes + body_len bytes

unfoldable pub head_fault : List ℕ → Option Malformed
head_fault bytes =
    if is_none (order_of (get_or bytes 0 0)) then malformed ByteOrder 0
    else (if get_or bytes 1 0 == 0 then malformed MessageType 1
    else (if not (get_or bytes 3 0 == 1) then malformed Version 3
    else (if nat_lt (2 ^ 26) (fields_len bytes) then malformed Length 12
    else (if nat_lt (2 ^ 27) (whole_len bytes) then malformed Length 4
    else (if serial_in bytes == 0 then malformed Serial 8
    else None)))))

-- ---- a whole message

-- a field is a struct of its code and a variant; containers are counted from the variant on
abbrev pub field_type : Complete
field_type = struct (basic (number byte)) (and variant no_types)

abbrev pub field_of : Value → Option Field
field_of (a_struct (a_number byte code) (value (a_variant v) no_values)) = Some (record { code = code; value = v })
field_of _ = None

abbrev pub field_at : Order → Read Field
field_at order at = do
  x ← value_within 66 order field_type at
  f ← field_of x.0
  Some (f, x.1)

abbrev pub valid_field_at : Order → List Field → Read Field
valid_field_at order before at = field_at order at >>= λ x. when (may_follow before x.0) x

-- at most this many valid fields, after those before them; and what follows them
abbrev pub fields_at : Order → ℕ → List Field → At → List Field × At
fields_at order zero before at = ([], at)
fields_at order (suc n) before at = and_then_all (valid_field_at order before at) at (λ f rest. fields_at order n (f ∷ before) rest)

-- the fields of a whole message
abbrev pub fields_of : List ℕ → List Field × At
fields_of bytes = fields_at (order_in bytes) (fields_len bytes) [] (record { place = 16; bytes = take (fields_len bytes) (drop 16 bytes) })

-- the bytes between the fields and the body are zeros
abbrev pub has_zeros : List ℕ → Bool
has_zeros bytes = all_zero (take (padding 8 (16 + fields_len bytes)) (drop (16 + fields_len bytes) bytes))

-- the body's values of the stated types
abbrev pub values_in : List ℕ → List Complete → List Value × At
values_in bytes types = values_at (order_in bytes) types (record { place = body_start bytes; bytes = drop (body_start bytes) bytes })

abbrev pub whole_by : List ℕ → List Field × At → List Value × At → Result Message Malformed
whole_by bytes fields body =
    if not (is_empty fields.1.bytes && has_zeros bytes) then Err (record { kind = Fields; at = fields.1.place })
    else (if not (has_required (get_or bytes 1 0) fields.0) then Err (record { kind = Required; at = 12 })
    else (if not (length body.0 == length (stated fields.0) && is_empty body.1.bytes) then Err (record { kind = Body; at = body.1.place })
    else (if not (has_no_descriptors fields.0) then Err (record { kind = Descriptors; at = 12 })
    else Ok (record { order = order_in bytes; kind = get_or bytes 1 0; flags = get_or bytes 2 0; serial = serial_in bytes; fields = fields.0; body = body.0 }))))

-- of bytes whose first sixteen are valid and state exactly their length
unfoldable pub whole : List ℕ → Result Message Malformed
whole bytes = let fields = fields_of bytes in whole_by bytes fields (values_in bytes (stated fields.0))

-- ---- the first message of bytes

-- the bytes begin with a whole message, valid or not
abbrev pub has_whole : List ℕ → Bool
has_whole bytes = not (nat_lt (length bytes) 16) && is_none (head_fault bytes) && not (nat_lt (length bytes) (whole_len bytes))

abbrev pub fault_in : Result Message Malformed → Option Malformed
fault_in (Ok m) = None
fault_in (Err fault) = Some fault

-- what is wrong with the first message, as far as the bytes show it
unfoldable pub fault : List ℕ → Option Malformed
fault bytes =
    if nat_lt (length bytes) 16 then None
    else (if is_some (head_fault bytes) then head_fault bytes
    else (if nat_lt (length bytes) (whole_len bytes) then None
    else fault_in (whole (take (whole_len bytes) bytes))))

abbrev pub message_in : Result Message Malformed → Option Message
message_in (Ok m) = Some m
message_in (Err fault) = None

-- the valid message with which the bytes begin, and what follows it
unfoldable pub front : List ℕ → Option (Message × List ℕ)
front bytes =
    if has_whole bytes then (message_in (whole (take (whole_len bytes) bytes)) >>= λ m. Some (m, drop (whole_len bytes) bytes)) else None
