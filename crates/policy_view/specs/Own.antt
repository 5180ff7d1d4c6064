-- The proxy's own messages: its calls to the bus, and the answers that it gives the client in place of the bus's.
use Rattle.std.specs.Prelude.{ℕ, List, [], ◌∷◌, ◌++◌, map, if◌then◌else◌, codes}
use Rattle.dbus_types.specs.Signature.{boolean, uint32}
use Rattle.dbus_values.specs.Values.{Value, a_number, a_string, a_path, a_signature, type_of}
use Rattle.dbus_values.specs.declared.Order.{Order}
use Rattle.dbus_values.specs.declared.Order.TheVariants.{Little}
use Rattle.dbus_header.specs.Message.{Field, Message}
use Rattle.dbus_names.specs.Texts.{Text}
use Rattle.name_patterns.specs.Patterns.{Pattern}
use Rattle.dbus_names.specs.Names.{bus_name}
use Rattle.dbus_header.specs.declared.Instead.{Instead}
use Rattle.dbus_header.specs.declared.Instead.TheVariants.{AccessDenied, NameHasNoOwner, ServiceUnknown, False}

abbrev pub field : ℕ → Value → Field
field code v = record { code = code; value = v }

-- the SIGNATURE field, if there is a body
abbrev pub signed : List Value → List Field
signed [] = []
signed (v ∷ vs) = field 8 (a_signature (map type_of (v ∷ vs))) ∷ []

-- a call to the bus; its serial is set when it is sent
abbrev pub own_call : Text → Text → Text → List Value → Message
own_call path interface member body = record {
  order = Little;
  kind = 1;
  flags = 0;
  serial = 0;
  fields = field 1 (a_path path) ∷ field 2 (a_string interface) ∷ field 3 (a_string member) ∷ field 6 (a_string bus_name) ∷ signed body;
  body = body;
}

unfoldable pub ping : Message
ping = own_call (codes "/") (codes "org.freedesktop.DBus.Peer") (codes "Ping") []

abbrev pub match_text : Pattern → Text
match_text pattern =
    codes "type='signal',sender='org.freedesktop.DBus',interface='org.freedesktop.DBus',member='NameOwnerChanged',"
    ++ (if pattern.exact then codes "arg0='" else codes "arg0namespace='") ++ pattern.name ++ codes "'"

unfoldable pub add_match : Pattern → Message
add_match pattern = own_call (codes "/org/freedesktop/DBus") bus_name (codes "AddMatch") (a_string (match_text pattern) ∷ [])

unfoldable pub get_owner : Text → Message
get_owner name = own_call (codes "/org/freedesktop/DBus") bus_name (codes "GetNameOwner") (a_string name ∷ [])

unfoldable pub list_names : Message
list_names = own_call (codes "/org/freedesktop/DBus") bus_name (codes "ListNames") []

abbrev pub error_in_place : Order → ℕ → ℕ → Text → Text → Message
error_in_place order reply serial name text = record {
  order = order;
  kind = 3;
  flags = 1;
  serial = serial;
  fields = field 4 (a_string name) ∷ field 5 (a_number uint32 reply) ∷ field 7 (a_string bus_name) ∷ signed (a_string text ∷ []);
  body = a_string text ∷ [];
}

-- the answer to a refused call, in its byte order and to its serial, with the serial of the answer to the ping
unfoldable pub answer_in_place : Order → ℕ → ℕ → Instead → Message
answer_in_place order reply serial AccessDenied =
    error_in_place order reply serial (codes "org.freedesktop.DBus.Error.AccessDenied") (codes "access denied by policy")
answer_in_place order reply serial NameHasNoOwner =
    error_in_place order reply serial (codes "org.freedesktop.DBus.Error.NameHasNoOwner") (codes "name has no owner")
answer_in_place order reply serial ServiceUnknown =
    error_in_place order reply serial (codes "org.freedesktop.DBus.Error.ServiceUnknown") (codes "service unknown")
answer_in_place order reply serial False = record {
  order = order;
  kind = 2;
  flags = 1;
  serial = serial;
  fields = field 5 (a_number uint32 reply) ∷ field 7 (a_string bus_name) ∷ signed (a_number boolean 0 ∷ []);
  body = a_number boolean 0 ∷ [];
}
