-- Worked examples of messages, byte for byte.
use Rattle.std.specs.Prelude.{◌≡◌, ℕ, true, false, List, [], ◌∷◌, ◌++◌, length, take, drop, codes, refl, map, replicate, Some, None, zero, suc}
use Rattle.std.specs.Str.{is_utf8, chars}
use Rattle.std.specs.Char.{encode_utf8}
use Rattle.std.specs.List.{flat_map}
use Rattle.byte_lists.specs.Hex.{hex}
use Rattle.dbus_types.specs.Signature.{byte, boolean, uint64, basic, number, array, variant, string}
use Rattle.dbus_values.specs.Values.{Value, a_number, a_string, a_path, a_signature, a_variant, an_array, no_values, spelled, is_within}
use Rattle.dbus_values.specs.Reading.{values_at, value_at}
use Rattle.dbus_header.specs.Message.{Message, spell, path, member, destination, reply_serial, with_serial, with_reply_serial, first_text, signature}
use Rattle.dbus_header.specs.Malformed.{fault, front, head_fault, whole, malformed}
use Rattle.dbus_header.specs.Stream.{split, messages}
use Rattle.dbus_header.proofs.Notation.{call, bus, text_field, reply_field}
use Rattle.dbus_values.specs.declared.Order.TheVariants.{Little, Big}
use Rattle.dbus_header.specs.declared.MalformedKind.TheVariants.{Fields, Body, Length, ByteOrder, Serial}

-- the second ping
ping : Message
ping = call 2 (Some bus) (codes "/") (Some (codes "org.freedesktop.DBus.Peer")) (codes "Ping") []

ping_bytes : List ℕ
ping_bytes = hex (codes "6c010001 00000000 02000000 65000000 01016f00 01000000 2f00 000000000000 02017300 19000000 6f72672e667265656465736b746f702e444275732e5065657200 000000000000 03017300 04000000 50696e6700 000000 06017300 14000000 6f72672e667265656465736b746f702e4442757300 000000")

ping_spelled : spell ping ≡ ping_bytes
unfolding ping ping_bytes spell
ping_spelled = refl

ping_read : front (ping_bytes ++ 1 ∷ 2 ∷ []) ≡ Some (ping, 1 ∷ 2 ∷ [])
unfolding ping ping_bytes is_utf8 chars encode_utf8 front head_fault whole
ping_read = refl

-- in place of the refused call's answer
error_in_place : ℕ → ℕ → List ℕ → List ℕ → Message
error_in_place reply serial name text = record {
  order = Little;
  kind = 3;
  flags = 1;
  serial = serial;
  fields = text_field 4 (Some name) ++ reply_field reply ++ text_field 7 (Some bus) ++ record { code = 8; value = a_signature (basic string ∷ []) } ∷ [];
  body = a_string text ∷ [];
}

service_unknown_spelled : spell (error_in_place 10 101 (codes "org.freedesktop.DBus.Error.ServiceUnknown") (codes "service unknown")) ≡ hex (codes "6c030101 14000000 65000000 67000000 04017300 29000000") ++ codes "org.freedesktop.DBus.Error.ServiceUnknown" ++ hex (codes "00 000000000000 05017500 0a000000 07017300 14000000") ++ codes "org.freedesktop.DBus" ++ hex (codes "00 000000 08016700 017300 00 0f000000") ++ codes "service unknown" ++ 0 ∷ []
unfolding error_in_place spell
service_unknown_spelled = refl

false_in_place : Message
false_in_place = record {
  order = Little;
  kind = 2;
  flags = 1;
  serial = 70;
  fields = reply_field 3 ++ text_field 7 (Some bus) ++ record { code = 8; value = a_signature (basic (number boolean) ∷ []) } ∷ [];
  body = a_number boolean 0 ∷ [];
}

false_spelled : spell false_in_place ≡ hex (codes "6c020101 04000000 46000000 2f000000 05017500 03000000 07017300 14000000") ++ bus ++ hex (codes "00 000000 08016700 016200 00 00000000")
unfolding false_in_place spell
false_spelled = refl

-- a call in big order, and a return whose REPLY_SERIAL follows its SENDER
big_call : Message
big_call = record { order = Big; kind = 1; flags = 0; serial = 0x01020304; fields = record { code = 1; value = a_path (codes "/") } ∷ text_field 3 (Some (codes "M")) ++ text_field 6 (Some (codes "a.b")); body = [] }

big_bytes : List ℕ
big_bytes = hex (codes "42010001 00000000 01020304 0000002c 01016f00 00000001 2f00 000000000000 03017300 00000001 4d00 000000000000 06017300 00000003 612e6200 00000000")

later_return : Message
later_return = record { order = Little; kind = 2; flags = 1; serial = 9; fields = text_field 7 (Some (codes ":1.7")) ++ reply_field 1; body = [] }

return_bytes : List ℕ
return_bytes = hex (codes "6c020101 00000000 09000000 18000000 07017300 04000000 3a312e3700 000000 05017500 01000000")

big_spelled : spell big_call ≡ big_bytes
unfolding big_call big_bytes spell
big_spelled = refl

return_spelled : spell later_return ≡ return_bytes
unfolding later_return return_bytes spell
return_spelled = refl

big_forwarded : spell (with_serial 1 big_call) ≡ take 8 big_bytes ++ hex (codes "00000001") ++ drop 12 big_bytes
unfolding big_call big_bytes spell
big_forwarded = refl

return_forwarded : spell (with_reply_serial 0x01020304 later_return) ≡ take 36 return_bytes ++ hex (codes "04030201")
unfolding later_return return_bytes spell
return_forwarded = refl

-- two messages and the beginning of a third
stream_split : messages (big_bytes ++ return_bytes ++ take 15 big_bytes) ≡ big_call ∷ later_return ∷ []
unfolding big_call big_bytes later_return return_bytes is_utf8 chars encode_utf8 split front head_fault whole
stream_split = refl

parts_by_name : (path big_call ≡ Some (codes "/")) × (member big_call ≡ Some (codes "M")) × (destination big_call ≡ Some (codes "a.b")) × (reply_serial later_return ≡ Some 1) × (first_text later_return ≡ None)
unfolding big_call later_return
parts_by_name = (refl, refl, refl, refl, refl)

-- ---- faults

len_fault : fault (hex (codes "6c010001 f1ffff07 01000000 00000000")) ≡ malformed Length 4
unfolding fault head_fault whole
len_fault = refl

longest_waits : fault (hex (codes "6c010001 f0ffff07 01000000 00000000")) ≡ None
unfolding fault head_fault whole
longest_waits = refl

order_fault : fault (hex (codes "41010001 00000000 01000000 00000000")) ≡ malformed ByteOrder 0
unfolding fault head_fault whole
order_fault = refl

serial_fault : fault (hex (codes "6c010001 00000000 00000000 00000000")) ≡ malformed Serial 8
unfolding fault head_fault whole
serial_fault = refl

-- a return with a SIGNATURE; the body begins at 32
typed : List ℕ → List ℕ → List ℕ
typed signature body = hex (codes "6c020101") ++ length body ∷ hex (codes "000000 09000000 0f000000 05017500 01000000 080167 00") ++ signature ++ body

two_fault : fault (typed (hex (codes "01 62 00 00")) (hex (codes "02000000"))) ≡ malformed Body 32
unfolding typed fault head_fault whole
two_fault = refl

one_stands : fault (typed (hex (codes "01 62 00 00")) (hex (codes "01000000"))) ≡ None
unfolding typed fault head_fault whole
one_stands = refl

padding_fault : fault (typed (hex (codes "01 62 00 05")) (hex (codes "01000000"))) ≡ malformed Fields 31
unfolding typed fault head_fault whole
padding_fault = refl

-- an empty array of eight byte numbers at 64
empty_array : spelled Little 64 (an_array (basic (number uint64)) no_values) ≡ hex (codes "00000000 00000000")
empty_array = refl

empty_array_read : values_at Little (array (basic (number uint64)) ∷ []) (record { place = 64; bytes = hex (codes "00000000 00000000") }) ≡ (an_array (basic (number uint64)) no_values ∷ [], record { place = 72; bytes = [] })
empty_array_read = refl

empty_array_cut : values_at Little (array (basic (number uint64)) ∷ []) (record { place = 64; bytes = hex (codes "00000000") }) ≡ ([], record { place = 64; bytes = hex (codes "00000000") })
empty_array_cut = refl

-- ---- depth

nested : ℕ → Value → Value
nested zero v = v
nested (suc n) v = a_variant (nested n v)

nested_bytes : ℕ → List ℕ
nested_bytes n = flat_map {X = ℕ} (λ x. 1 ∷ 118 ∷ 0 ∷ []) (replicate n 0) ++ 1 ∷ 121 ∷ 0 ∷ 7 ∷ []

within : map (λ n. is_within 64 (nested n (a_number byte 7))) (64 ∷ 65 ∷ []) ≡ true ∷ false ∷ []
unfolding nested
within = refl

read_within : value_at Little variant (record { place = 0; bytes = nested_bytes 63 }) ≡ Some (nested 64 (a_number byte 7), record { place = 193; bytes = [] })
unfolding nested nested_bytes
read_within = refl

read_deeper : value_at Little variant (record { place = 0; bytes = nested_bytes 64 }) ≡ None
unfolding nested nested_bytes
read_deeper = refl
