-- The models of the code's header fields.
use Rattle.std.specs.Prelude.{◌≡◌, ℕ, true, List, Option, Some, option_map}
use Rattle.dbus_header.specs.Contents.{Parts}
use Rattle.dbus_header.specs.HeaderReading.{Part, some_text, some_number, some_signature, unread, Found}
use Rattle.dbus_names.specs.Names.{is_bus_name}
use Rattle.dbus_names.specs.declared.bus_name.BusName.{BusName}
use Rattle.dbus_types.specs.declared.signature.Signature.{Signature}
use Rattle.dbus_header.specs.declared.fields.HeaderField.{HeaderField}
use Rattle.dbus_header.specs.declared.fields.HeaderField.TheVariants as header
use Rattle.dbus_header.specs.declared.fields.Fields.{Fields}
use denote.Bor.{Bor}

abbrev pub part_seen : HeaderField → Part
part_seen (header.Text code text start) = some_text code text.now
part_seen (header.Number code number) = some_number code number
part_seen (header.Signed signature start) = some_signature signature.bytes.now
part_seen header.Unread = unread

-- a field and where it ends
abbrev pub end_seen : HeaderField × ℕ → Part × ℕ
end_seen x = (part_seen x.0, x.1)

abbrev pub text_seen : Option (Bor (List ℕ)) → Option (List ℕ)
text_seen text = option_map (λ t. t.now) text

abbrev pub two_seen : Option (Bor (List ℕ) × Bor (List ℕ)) → Option (List ℕ × List ℕ)
two_seen texts = option_map (λ t. (t.0.now, t.1.now)) texts

abbrev pub texts_seen : Option (Bor (List ℕ) × Bor (List ℕ) × Bor (List ℕ)) → Option (List ℕ × List ℕ × List ℕ)
texts_seen texts = option_map (λ t. (t.0.now, t.1.now, t.2.now)) texts

abbrev pub signature_seen : Option Signature → Option (List ℕ)
signature_seen signature = option_map (λ s. s.bytes.now) signature

abbrev pub parts_seen : Fields → Parts
parts_seen f = record {
  path = text_seen f.path;
  interface = text_seen f.interface;
  member = text_seen f.member;
  error_name = text_seen f.error_name;
  reply_serial = f.reply_serial;
  destination = text_seen f.destination;
  sender = text_seen f.sender;
}

abbrev pub fields_seen : Fields → Found
fields_seen f = record { parts = parts_seen f; reply_place = f.reply_serial_place; unknown = f.has_unknown; signature = signature_seen f.signature; descriptors = f.descriptors }

abbrev pub name_seen : Option BusName → Option (List ℕ)
name_seen name = option_map (λ n. n.text.now) name

-- if there is a text, it is a bus name
abbrev pub AreBusNames : Option (List ℕ) → Type 0
AreBusNames text = (name : List ℕ) → text ≡ Some name → is_bus_name name ≡ true
