-- The grammars of names and object paths, each a test on the bytes of a text, and the name of the bus itself.
use Rattle.std.specs.Prelude.{ℕ, Bool, false, ◌||◌, ◌&&◌, not, ◌==◌, nat_lt, nat_le, List, [], ◌∷◌, length, codes, bytes_eq}
use Rattle.std.specs.Char.{is_ascii_digit, is_ascii_alphanumeric}
use Rattle.std.specs.List.{list_all, slice_split}
pub use Rattle.byte_lists.specs.Bytes.{is_empty}

-- ---- texts in parts

-- the parts of a text between the occurrences of a byte: one more than the occurrences
abbrev pub parts_at : ℕ → List ℕ → List (List ℕ)
parts_at separator text = slice_split (λ c. c == separator) text

-- ---- elements

abbrev pub is_word_byte : ℕ → Bool
is_word_byte c = is_ascii_alphanumeric c || c == 95

abbrev pub is_bus_byte : ℕ → Bool
is_bus_byte c = is_word_byte c || c == 45

abbrev pub begins_with_digit : List ℕ → Bool
begins_with_digit [] = false
begins_with_digit (c ∷ text) = is_ascii_digit c

-- [A-Za-z_][A-Za-z0-9_]*, as in an interface
abbrev pub is_element : List ℕ → Bool
is_element text = not (is_empty text) && not (begins_with_digit text) && list_all is_word_byte text

-- [A-Za-z_-][A-Za-z0-9_-]*, as in a well-known bus name
abbrev pub is_bus_element : List ℕ → Bool
is_bus_element text = not (is_empty text) && not (begins_with_digit text) && list_all is_bus_byte text

-- [A-Za-z0-9_-]+, as in a unique name
abbrev pub is_unique_element : List ℕ → Bool
is_unique_element text = not (is_empty text) && list_all is_bus_byte text

-- [A-Za-z0-9_]+, as in an object path
abbrev pub is_path_element : List ℕ → Bool
is_path_element text = not (is_empty text) && list_all is_word_byte text

-- ---- names

abbrev pub is_short : List ℕ → Bool
is_short text = nat_le (length text) 255

-- one or more, and two or more, elements joined by dots
abbrev pub are_joined : (List ℕ → Bool) → List ℕ → Bool
are_joined element text = list_all element (parts_at 46 text)

abbrev pub are_two_joined : (List ℕ → Bool) → List ℕ → Bool
are_two_joined element text = nat_le 2 (length (parts_at 46 text)) && are_joined element text

abbrev pub is_interface : List ℕ → Bool
is_interface text = is_short text && are_two_joined is_element text

abbrev pub is_error_name : List ℕ → Bool
is_error_name text = is_interface text

abbrev pub is_member : List ℕ → Bool
is_member text = is_short text && is_element text

abbrev pub is_well_known : List ℕ → Bool
is_well_known text = is_short text && are_two_joined is_bus_element text

-- a colon, and two or more elements
abbrev pub is_unique : List ℕ → Bool
is_unique [] = false
is_unique (c ∷ text) = is_short (c ∷ text) && c == 58 && are_two_joined is_unique_element text

abbrev pub is_bus_name : List ℕ → Bool
is_bus_name text = is_well_known text || is_unique text

-- the well-known name of the bus itself
abbrev pub bus_name : List ℕ
bus_name = codes "org.freedesktop.DBus"

abbrev pub is_bus : List ℕ → Bool
is_bus text = bytes_eq text bus_name

-- '/', or elements each preceded by '/'
abbrev pub is_path : List ℕ → Bool
is_path [] = false
is_path (c ∷ text) = c == 47 && (is_empty text || list_all is_path_element (parts_at 47 text))

-- ---- bytes

-- an ASCII byte other than NUL, as all bytes of names and paths are
abbrev pub is_ascii_text_byte : ℕ → Bool
is_ascii_text_byte c = nat_lt 0 c && nat_lt c 128
