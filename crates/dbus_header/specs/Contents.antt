-- The parts of a message, as they are read.
use Rattle.std.specs.Prelude.{◌≡◌, ◌≤◌, ℕ, ◌+◌, Bool, List, [], length, Option, Some, unwrap_or}
use Rattle.dbus_names.specs.Names.{is_empty}
use Rattle.dbus_values.specs.Reading.{◌>>=◌, when}
use Rattle.dbus_values.specs.declared.Order.{Order}
use Rattle.dbus_values.specs.declared.Order.TheVariants.{Little}
use Rattle.dbus_header.specs.Message.{Message, path, interface, member, error_name, reply_serial, destination, sender, signature, reply_place, has_unknown_field, spell, spelled_fields, spelled_list, body_place, with_serial, with_reply_serial, with_number}
use Rattle.dbus_header.specs.Malformed.{front}

-- the valid message that all of the bytes are
unfoldable pub message_of : List ℕ → Option Message
message_of bytes = front bytes >>= λ x. when (is_empty x.1) x.0

-- it takes the place of the message of bytes that spell none
unfoldable pub no_message : Message
no_message = record { order = Little; kind = 0; flags = 0; serial = 0; fields = []; body = [] }

-- the message that the bytes of a valid one spell
abbrev pub message_in : List ℕ → Message
message_in bytes = unwrap_or (message_of bytes) no_message

-- the header fields with a text or the reply serial
pub record Parts : Type 0 where
  pub path : Option (List ℕ)
  pub interface : Option (List ℕ)
  pub member : Option (List ℕ)
  pub error_name : Option (List ℕ)
  pub reply_serial : Option ℕ
  pub destination : Option (List ℕ)
  pub sender : Option (List ℕ)

-- what is read of a message; its signature as it is spelled, whether a field has an unknown code, and its body's bytes
pub record Contents : Type 0 where
  pub order : Order
  pub kind : ℕ
  pub flags : ℕ
  pub serial : ℕ
  pub parts : Parts
  pub reply_place : Option ℕ
  pub unknown_field : Bool
  pub signature : List ℕ
  pub body : List ℕ

abbrev pub parts_of : Message → Parts
parts_of m = record {
  path = path m;
  interface = interface m;
  member = member m;
  error_name = error_name m;
  reply_serial = reply_serial m;
  destination = destination m;
  sender = sender m;
}

abbrev pub body_bytes : Message → List ℕ
body_bytes m = spelled_list m.order (body_place (length (spelled_fields m.order m.fields))) m.body

abbrev pub contents_of : Message → Contents
contents_of m = record {
  order = m.order;
  kind = m.kind;
  flags = m.flags;
  serial = m.serial;
  parts = parts_of m;
  reply_place = reply_place m;
  unknown_field = has_unknown_field m;
  signature = signature m;
  body = body_bytes m;
}

-- the place of the serial's number in the bytes of a message
pub record IsSerialPlace (bytes : List ℕ) (place : ℕ) : Type 0 where
  pub inside : place + 4 ≤ length bytes
  pub patched : (n : ℕ) (m : Message) → message_of bytes ≡ Some m → with_number m.order place n bytes ≡ spell (with_serial n m)

-- the place of the reply serial's number in the bytes of a message
pub record IsReplySerialPlace (bytes : List ℕ) (place : ℕ) : Type 0 where
  pub inside : place + 4 ≤ length bytes
  pub patched : (n : ℕ) (m : Message) → message_of bytes ≡ Some m → with_number m.order place n bytes ≡ spell (with_reply_serial n m)
