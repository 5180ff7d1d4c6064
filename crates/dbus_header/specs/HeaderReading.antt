-- How the header fields are read from bytes in one pass. It is proved that this gives what the definitions say.
use Rattle.std.specs.Prelude.{ℕ, ◌+◌, Bool, true, false, ◌&&◌, ◌==◌, nat_lt, nat_le, List, [], ◌∷◌, length, take, drop, get_or, Option, Some, None, Result, Ok, Err, if◌then◌else◌, is_some, is_none}
use Rattle.std.specs.Int.{w32}
use Rattle.dbus_names.specs.Names.{is_path, is_interface, is_member, is_error_name, is_bus_name}
use Rattle.dbus_types.specs.Signature.{variant, signature_fault}
use Rattle.dbus_values.specs.Values.{padding}
use Rattle.dbus_values.specs.Reading.{all_zero, number_of}
use Rattle.dbus_values.specs.Ends.{values_end}
use Rattle.dbus_values.specs.declared.Order.{Order}
use Rattle.dbus_values.specs.declared.BadValue.{BadValue}
use Rattle.dbus_header.specs.Contents.{Parts}

-- a number of four bytes at a place
abbrev pub number_at : Order → List ℕ → ℕ → ℕ
number_at order bytes at = number_of order w32 (take 4 (drop at bytes))

-- ---- one field

-- what a field holds: a text with its code, a number with its code, a signature as it is spelled, or what isn't read
pub data Part : Type 0 where
  some_text : ℕ → List ℕ → Part
  some_number : ℕ → ℕ → Part
  some_signature : List ℕ → Part
  unread : Part

-- the type of a known code's value, as a signature spells it
abbrev pub type_code : ℕ → ℕ
type_code code = if code == 1 then 111 else (if code == 5 then 117 else (if code == 8 then 103 else (if code == 9 then 117 else 115)))

abbrev pub is_text_of : ℕ → List ℕ → Bool
is_text_of code text =
    if code == 1 then is_path text
    else (if code == 2 then is_interface text
    else (if code == 3 then is_member text
    else (if code == 4 then is_error_name text
    else (if code == 6 then is_bus_name text
    else (if code == 7 then is_bus_name text
    else false)))))

-- whether a text is in the grammar of the field with this code, or a signature is valid
abbrev pub is_sound_of : ℕ → List ℕ → Bool
is_sound_of code text = if code == 8 then is_none (signature_fault text) else is_text_of code text

-- the bytes of this length at a place, if a NUL follows them, and the place after the NUL
abbrev pub ended_text : ℕ → List ℕ → ℕ → Option (List ℕ × ℕ)
ended_text n bytes at = if nat_lt (at + n) (length bytes) && get_or bytes (at + n) 0 == 0 then Some (take n (drop at bytes), at + n + 1) else None

abbrev pub checked_text : ℕ → Option (List ℕ × ℕ) → Option (Part × ℕ)
checked_text code None = None
checked_text code (Some x) = if is_text_of code x.0 then Some (some_text code x.0, x.1) else None

abbrev pub text_part : Order → ℕ → List ℕ → ℕ → Option (Part × ℕ)
text_part order code bytes at = if nat_le (at + 4) (length bytes) then checked_text code (ended_text (number_at order bytes at) bytes (at + 4)) else None

-- REPLY_SERIAL isn't 0
abbrev pub is_number_of : ℕ → ℕ → Bool
is_number_of code n = if code == 5 then nat_lt 0 n else true

abbrev pub number_part : Order → ℕ → List ℕ → ℕ → Option (Part × ℕ)
number_part order code bytes at =
    if nat_le (at + 4) (length bytes) && is_number_of code (number_at order bytes at) then Some (some_number code (number_at order bytes at), at + 4) else None

abbrev pub checked_signature : Option (List ℕ × ℕ) → Option (Part × ℕ)
checked_signature None = None
checked_signature (Some x) = if is_none (signature_fault x.0) then Some (some_signature x.0, x.1) else None

abbrev pub signature_part : List ℕ → ℕ → Option (Part × ℕ)
signature_part bytes at = if nat_lt at (length bytes) then checked_signature (ended_text (get_or bytes at 0) bytes (at + 1)) else None

-- a known code's value, after the variant's signature
abbrev pub known_value : Order → ℕ → List ℕ → ℕ → Option (Part × ℕ)
known_value order code bytes at =
    if code == 5 then number_part order code bytes at
    else (if code == 9 then number_part order code bytes at
    else (if code == 8 then signature_part bytes at else text_part order code bytes at))

-- a signature of one type at a place
abbrev pub has_type_at : ℕ → List ℕ → ℕ → Bool
has_type_at type bytes at = nat_le (at + 3) (length bytes) && get_or bytes at 0 == 1 && get_or bytes (at + 1) 0 == type && get_or bytes (at + 2) 0 == 0

abbrev pub known_part : Order → ℕ → List ℕ → ℕ → Option (Part × ℕ)
known_part order code bytes at = if has_type_at (type_code code) bytes at then known_value order code bytes (at + 3) else None

abbrev pub unread_to : Result ℕ BadValue → Option (Part × ℕ)
unread_to (Ok end) = Some (unread, end)
unread_to (Err bad) = None

-- the field whose code is at a place
abbrev pub coded_part : Order → ℕ → List ℕ → ℕ → Option (Part × ℕ)
coded_part order code bytes at =
    if code == 0 then None
    else (if nat_le code 9 then known_part order code bytes (at + 1) else unread_to (values_end order (variant ∷ []) (at + 1) bytes))

-- the field after the padding, and where it ends
abbrev pub part_at : Order → List ℕ → ℕ → Option (Part × ℕ)
part_at order bytes place =
    if nat_lt (place + padding 8 place) (length bytes) && all_zero (take (padding 8 place) (drop place bytes))
    then coded_part order (get_or bytes (place + padding 8 place) 0) bytes (place + padding 8 place)
    else None

-- ---- all fields

abbrev pub no_parts : Parts
no_parts = record { path = None; interface = None; member = None; error_name = None; reply_serial = None; destination = None; sender = None }

-- what was read so far, the place of REPLY_SERIAL's number, and whether a field had an unknown code
pub record Found : Type 0 where
  pub parts : Parts
  pub reply_place : Option ℕ
  pub unknown : Bool
  pub signature : Option (List ℕ)
  pub descriptors : Option ℕ

abbrev pub nothing_found : Found
nothing_found = record { parts = no_parts; reply_place = None; unknown = false; signature = None; descriptors = None }

abbrev pub unless : {A : Type 0} → Bool → A → Option A
unless test x = if test then None else Some x

-- one more part, whose field wasn't found before
abbrev pub with_text : Parts → ℕ → List ℕ → Option Parts
with_text p code text =
    if code == 1 then unless (is_some p.path) (record p { path = Some text })
    else (if code == 2 then unless (is_some p.interface) (record p { interface = Some text })
    else (if code == 3 then unless (is_some p.member) (record p { member = Some text })
    else (if code == 4 then unless (is_some p.error_name) (record p { error_name = Some text })
    else (if code == 6 then unless (is_some p.destination) (record p { destination = Some text })
    else unless (is_some p.sender) (record p { sender = Some text })))))

abbrev pub found_with : Found → Option Parts → Option Found
found_with found None = None
found_with found (Some p) = Some (record found { parts = p })

abbrev pub with_number_part : Found → ℕ → ℕ → ℕ → Option Found
with_number_part found place code n =
    if code == 5
    then unless (is_some found.parts.reply_serial) (record found { parts = record (found.parts) { reply_serial = Some n }; reply_place = Some (place + padding 8 place + 4) })
    else unless (is_some found.descriptors) (record found { descriptors = Some n })

-- what was found, with the part of the field at the place
abbrev pub with_part : Found → ℕ → Part → Option Found
with_part found place (some_text code t) = found_with found (with_text found.parts code t)
with_part found place (some_number code n) = with_number_part found place code n
with_part found place (some_signature s) = unless (is_some found.signature) (record found { signature = Some s })
with_part found place unread = Some (record found { unknown = true })

-- ---- the message

abbrev pub has_required_parts : ℕ → Parts → Bool
has_required_parts kind p =
    if kind == 1 then is_some p.path && is_some p.member
    else (if kind == 2 then is_some p.reply_serial
    else (if kind == 3 then is_some p.error_name && is_some p.reply_serial
    else (if kind == 4 then is_some p.path && is_some p.interface && is_some p.member else true)))
