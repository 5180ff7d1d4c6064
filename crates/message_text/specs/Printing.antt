-- How a message's text is printed from its bytes, by the codes of its types, in one pass. That it is the message's text
-- is proved of it.
use Rattle.std.specs.Prelude.{ℕ, zero, suc, ◌+◌, ◌-◌, ◌^◌, min, nat_lt, ◌==◌, List, [], ◌∷◌, ◌++◌, length, take, drop, codes, decimal, if◌then◌else◌}
use Rattle.std.specs.List.{flat_map}
use Rattle.std.specs.Int.{w8, w16, w32, w64}
use Rattle.byte_lists.specs.Bytes.{is_empty}
use Rattle.dbus_types.specs.Behind.{behind}
use Rattle.dbus_values.specs.Values.{padding, number_bytes}
use Rattle.dbus_values.specs.Reading.{At, number_of}
use Rattle.dbus_values.specs.Walk.{alignment_by, front_code}
use Rattle.dbus_values.specs.declared.Order.{Order}
use Rattle.dbus_header.specs.Message.{order_byte}
use Rattle.message_text.specs.MessageText.{Text, hex_byte, quoted}

-- ---- bytes, as many of them as there are

abbrev pub at_most : ℕ → At → ℕ
at_most n at = min n (length at.bytes)

abbrev pub taken : ℕ → At → List ℕ
taken n at = take (at_most n at) at.bytes

abbrev pub onward : ℕ → At → At
onward n at = record { place = at.place + at_most n at; bytes = drop (at_most n at) at.bytes }

-- past the bytes up to the next multiple of n
abbrev pub over_gap : ℕ → At → At
over_gap n at = onward (padding n at.place) at

-- a number by its bytes, of which there are 1, 2, 4 or 8
abbrev pub number_in : Order → List ℕ → ℕ
number_in order bytes =
    if length bytes == 1 then number_of order w8 bytes
    else (if length bytes == 2 then number_of order w16 bytes
    else (if length bytes == 4 then number_of order w32 bytes
    else (if length bytes == 8 then number_of order w64 bytes else 0)))

-- ---- basic values

-- how many bytes a number of a code has
abbrev pub width_of : ℕ → ℕ
width_of c =
    if c == 121 then 1
    else (if c == 110 then 2
    else (if c == 113 then 2
    else (if c == 120 then 8
    else (if c == 116 then 8
    else (if c == 100 then 8 else 4)))))

-- a number, which is negative from half on
abbrev pub signed_from : ℕ → ℕ → Text
signed_from half x = if nat_lt x half then decimal x else 45 ∷ decimal (half + half - x)

abbrev pub number_word : Order → ℕ → ℕ → Text
number_word order c x =
    if c == 98 then (if x == 0 then codes "false" else codes "true")
    else (if c == 110 then signed_from (2 ^ 15) x
    else (if c == 105 then signed_from (2 ^ 31) x
    else (if c == 120 then signed_from (2 ^ 63) x
    else (if c == 100 then codes "0x" ++ flat_map hex_byte (number_bytes order w64 x)
    else decimal x))))

-- a text, and what follows the value
abbrev pub Printed : Type 0
Printed = Text × At

abbrev pub print_number : Order → ℕ → Text → At → Printed
print_number order c out at =
    let start = over_gap (width_of c) at in
    (out ++ number_word order c (number_in order (taken (width_of c) start)), onward (width_of c) start)

-- this many bytes, which a NUL follows
abbrev pub print_counted : ℕ → Text → At → Printed
print_counted n out at = (out ++ quoted (taken n at), onward 1 (onward n at))

abbrev pub print_text : Order → Text → At → Printed
print_text order out at =
    let start = over_gap 4 at in
    print_counted (number_in order (taken 4 start)) out (onward 4 start)

abbrev pub print_signature : Text → At → Printed
print_signature out at = print_counted (front_code at.bytes) out (onward 1 at)

abbrev pub print_basic : Order → ℕ → Text → At → Printed
print_basic order c out at =
    if c == 115 then print_text order out at
    else (if c == 111 then print_text order out at
    else (if c == 103 then print_signature out at
    else print_number order c out at))

-- ---- containers

-- a text, the types that are left, and what follows the value
abbrev pub Typed : Type 0
Typed = Text × List ℕ × At

abbrev pub Print : Type 0
Print = Text → List ℕ → At → Typed

-- values up to the end, a space before each, at most this many
abbrev pub print_items : (Text → At → Typed) → ℕ → Text → At → Text
print_items item zero out at = out
print_items item (suc n) out at = if is_empty at.bytes then out else (let x = item (out ++ 32 ∷ []) at in print_items item n x.0 x.2)

-- values up to the end, a space between them
abbrev pub print_elements : (Text → At → Typed) → Text → At → Text
print_elements item out at = if is_empty at.bytes then out else (let x = item out at in print_items item (length at.bytes) x.0 x.2)

-- an entry, its types following the brace
abbrev pub print_entry : Print → Print
print_entry inner out types at =
    let key = inner (out ++ 123 ∷ []) types (over_gap 8 at) in
    let x = inner (key.0 ++ 32 ∷ []) key.1 key.2 in
    (x.0 ++ 125 ∷ [], drop 1 x.1, x.2)

abbrev pub print_element : Print → Print
print_element inner out [] at = inner out [] at
print_element inner out (c ∷ types) at = if c == 123 then print_entry inner out types at else inner out (c ∷ types) at

-- an array, its element's type following its code
abbrev pub print_array : Order → Print → Print
print_array order inner out types at =
    let start = over_gap 4 at in
    let n = number_in order (taken 4 start) in
    let first = over_gap (alignment_by (front_code types)) (onward 4 start) in
    let elements = print_elements (λ text place. print_element inner text types place) (out ++ 91 ∷ []) (record { place = first.place; bytes = taken n first }) in
    (elements ++ 93 ∷ [], behind 0 types, onward n first)

-- members up to the closing bracket, a space before each, at most this many
abbrev pub print_members : Print → ℕ → Print
print_members inner zero out types at = (out, types, at)
print_members inner (suc n) out types at =
    if front_code types == 41 then (out, types, at) else (let x = inner (out ++ 32 ∷ []) types at in print_members inner n x.0 x.1 x.2)

-- a struct, its members' types following the bracket
abbrev pub print_struct : Print → Print
print_struct inner out types at =
    let first = inner (out ++ 40 ∷ []) types (over_gap 8 at) in
    let x = print_members inner (length first.1) first.0 first.1 first.2 in
    (x.0 ++ 41 ∷ [], drop 1 x.1, x.2)

-- a signature, and a value of its type
abbrev pub print_typed : Print → Text → At → Printed
print_typed inner out at =
    let n = front_code at.bytes in
    let types = taken n (onward 1 at) in
    let x = inner (out ++ types ++ 32 ∷ []) types (onward 1 (onward n (onward 1 at))) in
    (x.0, x.2)

abbrev pub print_variant : Print → Text → At → Printed
print_variant inner out at = let x = print_typed inner (out ++ 60 ∷ []) at in (x.0 ++ 62 ∷ [], x.1)

-- ---- values

abbrev pub with_types : List ℕ → Printed → Typed
with_types types x = (x.0, types, x.1)

-- by the type's first code, and what follows it
abbrev pub print_coded : Order → Print → ℕ → Print
print_coded order inner c out types at =
    if c == 97 then print_array order inner out types at
    else (if c == 40 then print_struct inner out types at
    else (if c == 118 then with_types types (print_variant inner out at)
    else with_types types (print_basic order c out at)))

abbrev pub print_by : Order → Print → Print
print_by order inner out [] at = (out, [], at)
print_by order inner out (c ∷ types) at = print_coded order inner c out types at

-- the value of the type in front, round whose innermost value lie fewer than this many containers
unfoldable pub print_within : ℕ → Order → Print
print_within zero order out types at = (out, types, at)
print_within (suc n) order out types at = print_by order (print_within n order) out types at

-- ---- messages

abbrev pub head_line : Order → ℕ → ℕ → ℕ → Text
head_line order kind flags serial = order_byte order ∷ 32 ∷ decimal kind ++ 32 ∷ decimal flags ++ 32 ∷ decimal serial ++ 10 ∷ []

-- a header field's line; its value lies in a variant
abbrev pub print_field : Order → Text → At → Printed
print_field order out at =
    let start = over_gap 8 at in
    let x = print_typed (print_within 64 order) (out ++ decimal (number_in order (taken 1 start)) ++ 32 ∷ []) (onward 1 start) in
    (x.0 ++ 10 ∷ [], x.1)

-- fields up to the end, at most this many
abbrev pub print_fields : Order → ℕ → Text → At → Text
print_fields order zero out at = out
print_fields order (suc n) out at = if is_empty at.bytes then out else (let x = print_field order out at in print_fields order n x.0 x.1)

-- a value of each type, a space before each, at most this many
abbrev pub print_values : Order → ℕ → Text → List ℕ → At → Text
print_values order zero out types at = out
print_values order (suc n) out types at =
    if is_empty types then out else (let x = print_within 65 order (out ++ 32 ∷ []) types at in print_values order n x.0 x.1 x.2)

-- the header fields begin at 16, after their length
abbrev pub fields_in : Order → List ℕ → At
fields_in order bytes = record { place = 16; bytes = taken (number_in order (take 4 (drop 12 bytes))) (record { place = 16; bytes = drop 16 bytes }) }

abbrev pub print_all_fields : Order → Text → List ℕ → Text
print_all_fields order out bytes = let fields = fields_in order bytes in print_fields order (length fields.bytes) out fields

-- the body ends where the message does
abbrev pub body_in : List ℕ → List ℕ → At
body_in bytes body = record { place = length bytes - length body; bytes = body }

abbrev pub print_body : Order → Text → List ℕ → At → Text
print_body order out types at = print_values order (length types) (out ++ codes "body") types at ++ 10 ∷ []

abbrev pub print_message : Order → ℕ → ℕ → ℕ → List ℕ → List ℕ → List ℕ → Text
print_message order kind flags serial types body bytes =
    print_body order (print_all_fields order (head_line order kind flags serial) bytes) types (body_in bytes body)
