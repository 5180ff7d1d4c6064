-- The parts of header fields, and what reading all of them finds.
use Rattle.std.specs.Prelude.{◌≡◌, ◌≤◌, ℕ, ◌-◌, List, [], length, drop, Option, Some, None}
use Rattle.dbus_types.specs.Signature.{spelled_types}
use Rattle.dbus_values.specs.Values.{Value}
use Rattle.dbus_values.specs.Reading.{At}
use Rattle.dbus_values.specs.declared.Order.{Order}
use Rattle.dbus_header.specs.Message.{Field, field_in, text_in, number_in, types_in, has_unknown, number_place}
use Rattle.dbus_header.specs.Malformed.{fields_at}
use Rattle.dbus_header.specs.Contents.{Parts}
use Rattle.dbus_header.specs.HeaderReading.{Found}

abbrev pub at_place : List ℕ → ℕ → At
at_place bytes q = record { place = q; bytes = drop q bytes }

abbrev pub spelled_in : Option Value → Option (List ℕ)
spelled_in None = None
spelled_in (Some v) = Some (spelled_types (types_in (Some v)))

abbrev pub parts_in : List Field → Parts
parts_in fields = record {
  path = text_in (field_in 1 fields);
  interface = text_in (field_in 2 fields);
  member = text_in (field_in 3 fields);
  error_name = text_in (field_in 4 fields);
  reply_serial = number_in (field_in 5 fields);
  destination = text_in (field_in 6 fields);
  sender = text_in (field_in 7 fields);
}

-- what is found in the fields, with REPLY_SERIAL's number at a place
abbrev pub found_in : List Field → Option ℕ → Found
found_in fields place = record { parts = parts_in fields; reply_place = place; unknown = has_unknown fields; signature = spelled_in (field_in 8 fields); descriptors = number_in (field_in 9 fields) }

abbrev pub found_of : Order → List Field → Found
found_of order fields = found_in fields (number_place order 16 fields)

-- the fields of a message that is cut after them
abbrev pub fields_in : Order → List ℕ → List Field × At
fields_in order bytes = fields_at order (length bytes - 16) [] (at_place bytes 16)

-- the place where the last valid field ended, and what was found up to there
pub record FieldsRead (order : Order) (bytes : List ℕ) (found : Found) (end : ℕ) : Type 0 where
  pub low : 16 ≤ end
  pub inside : end ≤ length bytes
  pub ended : (fields_in order bytes).1 ≡ at_place bytes end
  pub all : end ≡ length bytes → found ≡ found_of order (fields_in order bytes).0
