-- How a text is read in one pass, and the bytes of its message put one after the other. That it is read so exactly if
-- it has the form of a message's text, and that the bytes are those of the message, is proved of it.
use Rattle.std.specs.Prelude.{ℕ, zero, suc, ◌+◌, ◌-◌, ◌*◌, ◌%◌, ◌^◌, min, nat_lt, nat_le, nat_eq, ◌==◌, ◌&&◌, ◌||◌, Bool, List, [], ◌∷◌, ◌++◌, length, take, drop, codes, decimal, Option, Some, None, is_none, if◌then◌else◌, slice_set}
use Rattle.std.specs.List.{starts_with}
use Rattle.std.specs.Str.{is_utf8}
use Rattle.std.specs.Int.{w32, w64, to_le_bytes, to_be_bytes}
use Rattle.byte_lists.specs.Bytes.{is_empty}
use Rattle.dbus_types.specs.Signature.{signature_fault}
use Rattle.dbus_types.specs.Behind.{behind}
use Rattle.dbus_values.specs.Values.{zeros, number_bytes}
use Rattle.dbus_values.specs.Reading.{◌>>=◌, when}
use Rattle.dbus_values.specs.Walk.{alignment_by, front_code}
use Rattle.dbus_values.specs.declared.Order.{Order}
use Rattle.dbus_values.specs.declared.Order.TheVariants.{Little, Big}
use Rattle.dbus_header.specs.Message.{order_byte, with_number}
use Rattle.message_text.specs.MessageText.{Text}
use Rattle.message_text.specs.Printing.{width_of}

-- ---- words

-- what follows the word that stands in front
abbrev pub after : List ℕ → Text → Option Text
after word text = if starts_with nat_eq text word then Some (drop (length word) text) else None

-- what follows a byte
abbrev pub after_byte : ℕ → Text → Option Text
after_byte byte [] = None
after_byte byte (c ∷ text) = if c == byte then Some text else None

abbrev pub Number : Type 0
Number = ℕ × Text

abbrev pub is_digit : ℕ → Bool
is_digit c = nat_le 48 c && nat_le c 57

-- the number of the digits in front, by its last 64 bits
abbrev pub digits_from : ℕ → Text → ℕ
digits_from n [] = n
digits_from n (c ∷ text) = if is_digit c then digits_from (((n * 10) % 2 ^ 64 + c % 16) % 2 ^ 64) text else n

-- a number that stands in front as it is printed
abbrev pub decimal_at : Text → Option Number
decimal_at text = let n = digits_from 0 text in (after (decimal n) text >>= λ rest. Some (n, rest))

-- a number of at most so much
abbrev pub number_to : ℕ → Text → Option Number
number_to most text = decimal_at text >>= λ x. when (nat_le x.0 most) x

abbrev pub negative_at : ℕ → Text → Option Number
negative_at half text = decimal_at text >>= λ x. when (nat_lt 0 x.0 && nat_le x.0 half) (half - x.0 + half, x.1)

-- a number that is negative from half on
abbrev pub signed_at : ℕ → Text → Option Number
signed_at half [] = None
signed_at half (c ∷ text) = if c == 45 then negative_at half text else number_to (half - 1) (c ∷ text)

abbrev pub boolean_at : Text → Option Number
boolean_at text =
    if starts_with nat_eq text (codes "true") then Some (1, drop 4 text) else (after (codes "false") text >>= λ rest. Some (0, rest))

-- ---- hexadecimal digits

-- the value of a digit, or 16 of another byte
abbrev pub hex_value : ℕ → ℕ
hex_value c = if is_digit c then c - 48 else (if nat_le 97 c && nat_le c 102 then c - 87 else 16)

abbrev pub hex_at : Text → Option Number
hex_at [] = None
hex_at (a ∷ []) = None
hex_at (a ∷ b ∷ text) = when (nat_lt (hex_value a) 16 && nat_lt (hex_value b) 16) (hex_value a * 16 + hex_value b, text)

-- bytes, and what follows in the text
abbrev pub Bytes : Type 0
Bytes = List ℕ × Text

unfoldable pub hex_bytes : ℕ → List ℕ → Text → Option Bytes
hex_bytes zero out text = Some (out, text)
hex_bytes (suc n) out text = hex_at text >>= λ x. hex_bytes n (out ++ x.0 ∷ []) x.1

-- ---- texts in quotes

-- the byte whose escape follows a backslash
abbrev pub escape_at : Text → Option Number
escape_at [] = None
escape_at (c ∷ text) =
    if c == 92 || c == 34 then Some (c, text)
    else (if c == 120 then (hex_at text >>= λ x. when (nat_lt x.0 32 || x.0 == 127) x) else None)

abbrev pub byte_at : Text → Option Number
byte_at [] = None
byte_at (c ∷ text) =
    if c == 92 then escape_at text
    else (if c == 34 then None
    else (if nat_lt c 32 || c == 127 then None else Some (c, text)))

-- bytes up to the closing quote, of which there are fewer than this many
abbrev pub bytes_to_quote : ℕ → List ℕ → Text → Option Bytes
bytes_to_quote zero out text = None
bytes_to_quote (suc n) out text =
    if front_code text == 34 then Some (out, drop 1 text) else (byte_at text >>= λ x. bytes_to_quote n (out ++ x.0 ∷ []) x.1)

-- a text in quotes, which is UTF-8
abbrev pub quoted_at : List ℕ → Text → Option Bytes
quoted_at out text = do
  inside ← after_byte 34 text
  x ← bytes_to_quote (suc (length inside)) out inside
  when (is_utf8 (drop (min (length out) (length x.0)) x.0)) x

-- ---- lengths

-- the length of what begins at a place, written at another, if there is room for it
abbrev pub with_len : Order → ℕ → ℕ → List ℕ → List ℕ
with_len order place start bytes =
    if nat_le 4 (length bytes) && nat_le place (length bytes - 4) then with_number order place (min (length bytes - start) (2 ^ 32 - 1)) bytes else bytes

-- with a signature's length, which is one byte
abbrev pub with_short_len : ℕ → List ℕ → List ℕ
with_short_len place bytes = slice_set bytes place (min (length bytes - (place + 1)) 255)

abbrev pub with_gap : ℕ → List ℕ → List ℕ
with_gap n out = out ++ zeros n (length out)

abbrev pub no_len : List ℕ
no_len = 0 ∷ 0 ∷ 0 ∷ 0 ∷ []

-- ---- basic values

-- the last this many bytes of a number
abbrev pub number_part : Order → ℕ → ℕ → List ℕ
number_part Little width n = take width (to_le_bytes w64 n)
number_part Big width n = drop (8 - width) (to_be_bytes w64 n)

abbrev pub number_at : ℕ → Text → Option Number
number_at c text =
    if c == 98 then boolean_at text
    else (if c == 121 then number_to (2 ^ 8 - 1) text
    else (if c == 110 then signed_at (2 ^ 15) text
    else (if c == 113 then number_to (2 ^ 16 - 1) text
    else (if c == 105 then signed_at (2 ^ 31) text
    else (if c == 117 then number_to (2 ^ 32 - 1) text
    else (if c == 104 then number_to (2 ^ 32 - 1) text
    else (if c == 120 then signed_at (2 ^ 63) text
    else (if c == 116 then number_to (2 ^ 64 - 1) text
    else None))))))))

abbrev pub read_number : Order → ℕ → List ℕ → Text → Option Bytes
read_number order c out text = number_at c text >>= λ x. Some (with_gap (width_of c) out ++ number_part order (width_of c) x.0, x.1)

-- a double, by its bytes in the order in which they stand
abbrev pub read_double : List ℕ → Text → Option Bytes
read_double out text = after (codes "0x") text >>= λ digits. hex_bytes 8 (with_gap 8 out) digits

abbrev pub read_text : Order → List ℕ → Text → Option Bytes
read_text order out text =
    let start = with_gap 4 out in
    (quoted_at (start ++ no_len) text >>= λ x. Some (with_len order (length start) (length (start ++ no_len)) x.0 ++ 0 ∷ [], x.1))

abbrev pub read_signature : List ℕ → Text → Option Bytes
read_signature out text = quoted_at (out ++ 0 ∷ []) text >>= λ x. Some (with_short_len (length out) x.0 ++ 0 ∷ [], x.1)

abbrev pub read_basic : Order → ℕ → List ℕ → Text → Option Bytes
read_basic order c out text =
    if c == 115 then read_text order out text
    else (if c == 111 then read_text order out text
    else (if c == 103 then read_signature out text
    else (if c == 100 then read_double out text
    else read_number order c out text)))

-- ---- containers

-- the types that are left, the bytes, and what follows in the text
abbrev pub Value : Type 0
Value = List ℕ × List ℕ × Text

abbrev pub Read : Type 0
Read = List ℕ → List ℕ → Text → Option Value

-- elements up to the closing bracket, a space before each, fewer than this many
abbrev pub read_items : (List ℕ → Text → Option Value) → ℕ → List ℕ → Text → Option Bytes
read_items item zero out text = None
read_items item (suc n) out text =
    if front_code text == 93 then Some (out, drop 1 text)
    else (after_byte 32 text >>= λ next. item out next >>= λ x. read_items item n x.1 x.2)

-- elements up to the closing bracket, a space between them
abbrev pub read_elements : (List ℕ → Text → Option Value) → List ℕ → Text → Option Bytes
read_elements item out text =
    if front_code text == 93 then Some (out, drop 1 text)
    else (item out text >>= λ x. read_items item (suc (length x.2)) x.1 x.2)

-- an entry, its types following the brace
abbrev pub read_entry : Read → Read
read_entry inner types out text = do
  start ← after_byte 123 text
  key ← inner types (with_gap 8 out) start
  next ← after_byte 32 key.2
  x ← inner key.0 key.1 next
  rest ← after_byte 125 x.2
  Some (drop 1 x.0, x.1, rest)

abbrev pub read_element : Read → Read
read_element inner [] out text = inner [] out text
read_element inner (c ∷ types) out text = if c == 123 then read_entry inner types out text else inner (c ∷ types) out text

-- where an array's elements begin, after room for their length
abbrev pub before_elements : ℕ → List ℕ → List ℕ
before_elements n out = with_gap n (with_gap 4 out ++ no_len)

-- an array, its element's type following its code
abbrev pub read_array : Order → Read → Read
read_array order inner types out text = do
  start ← after_byte 91 text
  x ← read_elements (λ bytes rest. read_element inner types bytes rest) (before_elements (alignment_by (front_code types)) out) start
  Some (behind 0 types, with_len order (length (with_gap 4 out)) (length (before_elements (alignment_by (front_code types)) out)) x.0, x.1)

-- members up to the closing bracket, a space before each, fewer than this many
abbrev pub read_members : Read → ℕ → Read
read_members inner zero types out text = None
read_members inner (suc n) types out text =
    if front_code types == 41 then (after_byte 41 text >>= λ rest. Some (drop 1 types, out, rest))
    else (after_byte 32 text >>= λ next. inner types out next >>= λ x. read_members inner n x.0 x.1 x.2)

-- a struct, its members' types following the bracket
abbrev pub read_struct : Read → Read
read_struct inner types out text = do
  start ← after_byte 40 text
  x ← inner types (with_gap 8 out) start
  read_members inner (suc (length x.0)) x.0 x.1 x.2

-- how many bytes there are before the first space
abbrev pub word_len : Text → ℕ
word_len [] = 0
word_len (c ∷ text) = if c == 32 then 0 else suc (word_len text)

-- a signature in a variant
abbrev pub signature_bytes : List ℕ → List ℕ
signature_bytes types = min (length types) 255 ∷ types ++ 0 ∷ []

-- a type, and a value of it
abbrev pub read_typed : Read → List ℕ → Text → Option Bytes
read_typed inner out text =
    let types = take (word_len text) text in
    if is_none (signature_fault types)
    then (after_byte 32 (drop (word_len text) text) >>= λ next. inner types (out ++ signature_bytes types) next >>= λ x. when (is_empty x.0) (x.1, x.2))
    else None

abbrev pub read_variant : Read → List ℕ → Text → Option Bytes
read_variant inner out text = do
  start ← after_byte 60 text
  x ← read_typed inner out start
  rest ← after_byte 62 x.1
  Some (x.0, rest)

-- ---- values

abbrev pub of_types : List ℕ → Option Bytes → Option Value
of_types types None = None
of_types types (Some x) = Some (types, x.0, x.1)

-- by the type's first code, and what follows it
abbrev pub read_coded : Order → Read → ℕ → Read
read_coded order inner c types out text =
    if c == 97 then read_array order inner types out text
    else (if c == 40 then read_struct inner types out text
    else (if c == 118 then of_types types (read_variant inner out text)
    else of_types types (read_basic order c out text)))

abbrev pub read_by : Order → Read → Read
read_by order inner [] out text = None
read_by order inner (c ∷ types) out text = read_coded order inner c types out text

-- the value of the type in front, round whose innermost value lie fewer than this many containers
unfoldable pub read_within : ℕ → Order → Read
read_within zero order types out text = None
read_within (suc n) order types out text = read_by order (read_within n order) types out text

-- ---- messages

abbrev pub order_at : Text → Option (Order × Text)
order_at [] = None
order_at (c ∷ text) = if c == 108 then Some (Little, text) else (if c == 66 then Some (Big, text) else None)

-- the header before the fields, the lengths not yet being known
abbrev pub head_bytes : Order → ℕ → ℕ → ℕ → List ℕ
head_bytes order kind flags serial = order_byte order ∷ kind ∷ flags ∷ 1 ∷ no_len ++ number_bytes order w32 serial ++ no_len

abbrev pub read_head : Text → Option ((Order × List ℕ) × Text)
read_head text = do
  order ← order_at text
  a ← after_byte 32 order.1
  kind ← number_to (2 ^ 8 - 1) a
  b ← after_byte 32 kind.1
  flags ← number_to (2 ^ 8 - 1) b
  c ← after_byte 32 flags.1
  serial ← number_to (2 ^ 32 - 1) c
  rest ← after_byte 10 serial.1
  Some ((order.0, head_bytes order.0 kind.0 flags.0 serial.0), rest)

-- a header field's line, by its code
abbrev pub read_field : Order → List ℕ → Text → Option (ℕ × Bytes)
read_field order out text = do
  code ← number_to (2 ^ 8 - 1) text
  next ← after_byte 32 code.1
  x ← read_typed (read_within 64 order) (with_gap 8 out ++ code.0 ∷ []) next
  rest ← after_byte 10 x.1
  Some (code.0, (x.0, rest))

-- the valid signature that the variant of a field with code 8 holds
abbrev pub valid_signature : List ℕ → Option (List ℕ)
valid_signature types = if is_none (signature_fault types) then Some types else None

abbrev pub signature_in : ℕ → List ℕ → Option (List ℕ)
signature_in code field =
    if code == 8 && starts_with nat_eq field (1 ∷ 103 ∷ 0 ∷ []) then valid_signature (take (length (drop 4 field) - 1) (drop 4 field)) else None

abbrev pub or_else : Option (List ℕ) → Option (List ℕ) → Option (List ℕ)
or_else None later = later
or_else (Some types) later = Some types

-- the fields up to the body, at most this many; the body's types so far, the bytes, and what follows the word
abbrev pub read_fields : Order → ℕ → Option (List ℕ) → List ℕ → Text → Option (Option (List ℕ) × Bytes)
read_fields order zero types out text = None
read_fields order (suc n) types out text =
    if starts_with nat_eq text (codes "body") then Some (types, (out, drop 4 text))
    else (read_field order out text >>= λ x. read_fields order n (or_else types (signature_in x.0 (drop (length (with_gap 8 out) + 1) x.1.0))) x.1.0 x.1.1)

-- a value of each type, a space before each, at most this many
abbrev pub read_values : Order → ℕ → List ℕ → List ℕ → Text → Option Bytes
read_values order zero types out text = None
read_values order (suc n) types out text =
    if is_empty types then Some (out, text)
    else (after_byte 32 text >>= λ next. read_within 65 order types out next >>= λ x. read_values order n x.0 x.1 x.2)

abbrev pub or_none : Option (List ℕ) → List ℕ
or_none None = []
or_none (Some types) = types

-- the header with its fields' length, the gap after it, and the body
abbrev pub read_body : Order → List ℕ → List ℕ → Text → Option (List ℕ)
read_body order types out text = do
  x ← read_values order (suc (length types)) types out text
  end ← after_byte 10 x.1
  when (is_empty end) (with_len order 4 (length out) x.0)

abbrev pub read_rest : Order → List ℕ → Text → Option (List ℕ)
read_rest order out text = do
  x ← read_fields order (suc (length text)) None out text
  read_body order (or_none x.0) (with_gap 8 (with_len order 12 16 x.1.0)) x.1.1

-- the bytes of the message that a text says, valid or not; nothing if the text hasn't the form
unfoldable pub read_message : Text → Option (List ℕ)
read_message text = read_head text >>= λ x. read_rest x.0.0 x.0.1 x.1
