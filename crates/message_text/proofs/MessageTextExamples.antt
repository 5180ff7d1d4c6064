-- Worked examples of messages as texts.
use Rattle.std.specs.Prelude.{◌≡◌, ◌^◌, ◌-◌, [], ◌∷◌, ◌++◌, codes, refl, map, Some}
use Rattle.std.specs.Fmt.{digits}
use Rattle.dbus_types.specs.Signature.{int32, double, uint32, boolean, number, basic, string, variant, entry}
use Rattle.dbus_values.specs.Values.{Value, a_number, a_string, a_signature, a_variant, an_array, an_entry, a_struct, no_values, value}
use Rattle.dbus_values.specs.declared.Order.TheVariants.{Little, Big}
use Rattle.dbus_header.specs.Message.{Message}
use Rattle.dbus_header.proofs.Notation.{call, bus, text_field, reply_field}
use Rattle.message_text.specs.MessageText.{Text, text_of, message_text, value_text, said}

abbrev line : Text → Text
line t = t ++ 10 ∷ []

-- a return with the boolean false, in place of a bus's answer
false_return : Message
false_return = record {
  order = Little;
  kind = 2;
  flags = 1;
  serial = 70;
  fields = reply_field 3 ++ text_field 7 (Some bus) ++ record { code = 8; value = a_signature (basic (number boolean) ∷ []) } ∷ [];
  body = a_number boolean 0 ∷ [];
}

shown_false : message_text false_return ≡ line (codes "l 2 1 70") ++ line (codes "5 u 3") ++ line (codes "7 s \"org.freedesktop.DBus\"") ++ line (codes "8 g \"b\"") ++ line (codes "body false")
unfolding text_of false_return digits
shown_false = refl

ping : Message
ping = call 2 (Some bus) (codes "/") (Some (codes "org.freedesktop.DBus.Peer")) (codes "Ping") []

shown_ping : message_text ping ≡ line (codes "l 1 0 2") ++ line (codes "1 o \"/\"") ++ line (codes "2 s \"org.freedesktop.DBus.Peer\"") ++ line (codes "3 s \"Ping\"") ++ line (codes "6 s \"org.freedesktop.DBus\"") ++ line (codes "body")
unfolding text_of ping digits
shown_ping = refl

abbrev shown : Value → Text
shown v = value_text Big (said v)

-- a negative number, a double by its bytes, escapes, an empty array, a dictionary of variants, a struct
shown_values : map shown (a_number int32 (2 ^ 32 - 5) ∷ a_number double 1 ∷ a_string (34 ∷ 92 ∷ 10 ∷ 97 ∷ []) ∷ an_array (basic string) no_values
    ∷ an_array (entry (basic string) variant) (value (an_entry (a_string (codes "k")) (a_variant (a_number uint32 7))) no_values)
    ∷ a_struct (a_string (codes "a")) (value (a_string []) no_values) ∷ [])
    ≡ codes "-5" ∷ codes "0x0000000000000001" ∷ codes "\"\\\"\\\\\\x0aa\"" ∷ codes "[]" ∷ codes "[{\"k\" <u 7>}]" ∷ codes "(\"a\" \"\")" ∷ []
unfolding digits
shown_values = refl
