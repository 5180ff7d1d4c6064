-- What is read of a message whose parts are at the places of its header fields.
use Rattle.std.specs.Prelude.{◌≡◌, ◌≤◌, ℕ, List, None, length}
use Rattle.dbus_values.specs.declared.Order.{Order}
use Rattle.dbus_header.specs.Contents.{Contents}
use Rattle.dbus_header.specs.KnownHeaders.{AreWithin, fields_bytes, found_at}
use Rattle.dbus_header.specs.Malformed.{head_fault, fields_len, order_in, whole_len}
use Rattle.dbus_header.specs.Whole.{HasParts, fields_fault, fields_found}
use Rattle.dbus_header.specs.declared.spans.Places.{Places}

abbrev pub contents_at : Order → ℕ → ℕ → ℕ → List ℕ → Places → List ℕ → List ℕ → Contents
contents_at order kind flags serial fields places signature body = record {
  order = order;
  kind = kind;
  flags = flags;
  serial = serial;
  parts = (found_at order fields places).parts;
  reply_place = (found_at order fields places).reply_place;
  unknown_field = (found_at order fields places).unknown;
  signature = signature;
  body = body;
}

-- a whole message has this number of bytes of header fields, they are valid, and their parts are at the places
pub record HasPlaces (order : Order) (n : ℕ) (bytes : List ℕ) (p : Places) : Type 0 where
  pub sound : fields_fault bytes ≡ None
  pub within : AreWithin (fields_bytes n bytes) p
  pub found : found_at order (fields_bytes n bytes) p ≡ fields_found bytes

-- the bytes are a valid message, and the parts of its header are at the places
pub record IsPlaced (bytes : List ℕ) (p : Places) : Type 0 where
  pub long : 16 ≤ length bytes
  pub head : head_fault bytes ≡ None
  pub exact : length bytes ≡ whole_len bytes
  pub within : AreWithin (fields_bytes (fields_len bytes) bytes) p
  pub parts : HasParts bytes (found_at (order_in bytes) (fields_bytes (fields_len bytes) bytes) p)
