-- Messages as the worked examples write them.
use Rattle.std.specs.Prelude.{ℕ, List, [], ◌∷◌, ◌++◌, codes, Option, Some, None, map}
use Rattle.dbus_types.specs.Signature.{uint32, basic, string}
use Rattle.dbus_values.specs.Values.{Value, a_number, a_string, a_path, a_signature, an_array, values_of, type_of}
use Rattle.dbus_header.specs.Message.{Field, Message}
use Rattle.dbus_values.specs.declared.Order.TheVariants.{Little}

abbrev pub u32 : ℕ → Value
u32 n = a_number uint32 n

abbrev pub names : List (List ℕ) → Value
names texts = an_array (basic string) (values_of (map a_string texts))

-- the SIGNATURE field, if there is a body
abbrev pub signed : List Value → List Field
signed [] = []
signed (v ∷ vs) = record { code = 8; value = a_signature (map type_of (v ∷ vs)) } ∷ []

abbrev pub text_field : ℕ → Option (List ℕ) → List Field
text_field code None = []
text_field code (Some text) = record { code = code; value = a_string text } ∷ []

abbrev pub path_field : List ℕ → List Field
path_field text = record { code = 1; value = a_path text } ∷ []

abbrev pub reply_field : ℕ → List Field
reply_field n = record { code = 5; value = u32 n } ∷ []

abbrev pub call : ℕ → Option (List ℕ) → List ℕ → Option (List ℕ) → List ℕ → List Value → Message
call serial destination path interface member body = record {
  order = Little;
  kind = 1;
  flags = 0;
  serial = serial;
  fields = path_field path ++ text_field 2 interface ++ text_field 3 (Some member) ++ text_field 6 destination ++ signed body;
  body = body;
}

abbrev pub ret : ℕ → ℕ → Option (List ℕ) → Option (List ℕ) → List Value → Message
ret serial reply sender destination body = record {
  order = Little;
  kind = 2;
  flags = 1;
  serial = serial;
  fields = reply_field reply ++ text_field 6 destination ++ text_field 7 sender ++ signed body;
  body = body;
}

abbrev pub bus : List ℕ
bus = codes "org.freedesktop.DBus"
