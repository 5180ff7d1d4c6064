-- Bus addresses (D-Bus Specification, "Server Addresses"): the path of the first Unix socket that a list of them names.
use Rattle.std.specs.Prelude.{ℕ, ◌+◌, ◌*◌, Bool, not, ◌&&◌, nat_lt, List, [], ◌∷◌, ◌++◌, codes, Option, Some, None, if◌then◌else◌, option_and_then}
use Rattle.std.specs.Char.{is_ascii_hexdigit, digit_value}
use Rattle.std.specs.Str.{is_utf8}
use Rattle.std.specs.List.{list_all}
use Rattle.std.specs.Option.{option_or}
use Rattle.dbus_names.specs.Names.{is_empty, parts_at}
use Rattle.dbus_names.specs.Texts.{behind}

-- ---- %XX

-- a byte from two hexadecimal digits, and then bytes as they are
abbrev pub unescaped_part : List ℕ → Option (List ℕ)
unescaped_part (a ∷ b ∷ text) = if is_ascii_hexdigit a && is_ascii_hexdigit b then Some ((digit_value a * 16 + digit_value b) ∷ text) else None
unescaped_part _ = None

abbrev pub join_parts : Option (List ℕ) → Option (List ℕ) → Option (List ℕ)
join_parts (Some a) (Some b) = Some (a ++ b)
join_parts _ _ = None

abbrev pub unescaped_parts : List (List ℕ) → Option (List ℕ)
unescaped_parts [] = Some []
unescaped_parts (part ∷ parts) = join_parts (unescaped_part part) (unescaped_parts parts)

abbrev pub unescaped_from : List (List ℕ) → Option (List ℕ)
unescaped_from [] = Some []
unescaped_from (front ∷ parts) = join_parts (Some front) (unescaped_parts parts)

-- the text with each %XX replaced by its byte
abbrev pub unescaped : List ℕ → Option (List ℕ)
unescaped text = unescaped_from (parts_at 37 text)

-- ---- an address

-- the first result that a test finds
abbrev pub first_some : {A : Type 0} → (List ℕ → Option A) → List (List ℕ) → Option A
first_some test [] = None
first_some test (x ∷ xs) = option_or (test x) (first_some test xs)

-- the first path among pairs that are joined by commas
abbrev pub path_among : List ℕ → Option (List ℕ)
path_among pairs = first_some (behind (codes "path=")) (parts_at 44 pairs)

-- the path of one address, before each %XX is replaced
abbrev pub path_in : List ℕ → Option (List ℕ)
path_in address = option_and_then path_among (behind (codes "unix:") address)

-- a path that a socket can have: it isn't empty, holds no NUL, and is UTF-8
abbrev pub is_bus_path : List ℕ → Bool
is_bus_path path = not (is_empty path) && list_all (nat_lt 0) path && is_utf8 path

abbrev pub bus_path_where : List ℕ → Option (List ℕ)
bus_path_where path = if is_bus_path path then Some path else None

-- the path that this text spells
abbrev pub bus_path_of : List ℕ → Option (List ℕ)
bus_path_of text = option_and_then bus_path_where (unescaped text)

-- the bus's path in a list of addresses, which are joined by semicolons
abbrev pub bus_path : List ℕ → Option (List ℕ)
bus_path text = option_and_then bus_path_of (first_some path_in (parts_at 59 text))
