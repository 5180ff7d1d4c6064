-- Bytes as texts, in which a tilde is a zero byte, and a percent sign precedes the two hexadecimal digits of a byte.
use Rattle.std.specs.Prelude.{◌≡◌, ℕ, Option, Some, None, ◌+◌, ◌-◌, ◌*◌, ◌/◌, ◌%◌, ◌==◌, ◌&&◌, not, nat_lt, nat_le, Bool, List, [], ◌∷◌, if◌then◌else◌}
use Rattle.std.specs.List.{flat_map}

-- the value of a digit; any other character has the value 0
abbrev pub digit_value : ℕ → ℕ
digit_value c = if nat_le 48 c && nat_le c 57 then c - 48 else (if nat_le 65 c && nat_le c 70 then c - 55 else 0)

-- the byte of a single character
abbrev pub byte_of : ℕ → ℕ
byte_of c = if c == 126 then 0 else c

-- the bytes of a text; an escape that is cut off ends them
abbrev pub bytes_of : List ℕ → List ℕ
bytes_of [] = []
bytes_of (c ∷ []) = if c == 37 then [] else byte_of c ∷ []
bytes_of (c ∷ high ∷ []) = if c == 37 then [] else byte_of c ∷ bytes_of (high ∷ [])
bytes_of (c ∷ high ∷ low ∷ text) =
    if c == 37 then (digit_value high * 16 + digit_value low) ∷ bytes_of text
    else byte_of c ∷ bytes_of (high ∷ low ∷ text)

-- the digit of a number below 16
abbrev pub digit_of : ℕ → ℕ
digit_of n = if nat_lt n 10 then 48 + n else 55 + n

-- a byte that is its own text: from a space to a closing brace, except a percent sign
abbrev pub is_plain : ℕ → Bool
is_plain byte = nat_le 32 byte && nat_le byte 125 && not (byte == 37)

abbrev pub text_of_byte : ℕ → List ℕ
text_of_byte byte =
    if byte == 0 then 126 ∷ []
    else (if is_plain byte then byte ∷ [] else 37 ∷ digit_of (byte / 16) ∷ digit_of (byte % 16) ∷ [])

-- bytes as a text
abbrev pub text_of_bytes : List ℕ → List ℕ
text_of_bytes bytes = flat_map text_of_byte bytes

-- the first byte of a text, and the text after it
abbrev pub IsFirst : List ℕ → Option (ℕ × List ℕ) → Type 0
IsFirst text None = bytes_of text ≡ []
IsFirst text (Some first) = bytes_of text ≡ first.0 ∷ bytes_of first.1
