-- Elements by the kinds of their bytes, as one pass over a text reads them.
use Rattle.std.specs.Prelude.{◌≡◌, ◌⊎◌, ℕ, Bool, true, false, not, ◌==◌, ◌&&◌, ◌||◌, nat_le, cond, List, [], ◌∷◌, length, take, drop, slice_index, Option, Some, None, bit_and}
use Rattle.std.specs.List.{list_all}
use Rattle.dbus_names.specs.declared.TheConstants.{KINDS}
use Rattle.dbus_names.specs.Names.{parts_at}

-- whether a byte is of one of the kinds, by the code's table: a letter or '_' for the bit 1, a digit for 2, and '-' for
-- 4
unfoldable pub is_among : ℕ → ℕ → Bool
is_among kinds c = not (bit_and (slice_index KINDS c) kinds == 0)

-- a byte that is of none of the kinds
abbrev pub is_other : ℕ → ℕ → Bool
is_other kinds c = not (is_among kinds c)

-- '.' or '/', which occur in no element
abbrev pub IsSeparator : ℕ → Type 0
IsSeparator c = (c ≡ 46) ⊎ (c ≡ 47)

-- one of the kinds is that of all four bytes
abbrev pub are_of_one_kind : ℕ → ℕ → ℕ → ℕ → ℕ → Bool
are_of_one_kind kinds a b c d =
    not (bit_and (bit_and (bit_and (bit_and (slice_index KINDS a) (slice_index KINDS b)) (slice_index KINDS c)) (slice_index KINDS d)) kinds == 0)

-- what is left of a text after some first bytes that pass a test
pub record BehindSome (test : ℕ → Bool) (left text : List ℕ) : Type 0 where
  pub len : ℕ
  pub left_is : left ≡ drop len text
  pub are : list_all test (take len text) ≡ true

-- the first byte is of the kinds `first`, and the others are of the kinds `rest`
abbrev pub is_element_of : ℕ → ℕ → List ℕ → Bool
is_element_of first rest [] = false
is_element_of first rest (c ∷ text) = is_among first c && list_all (is_among rest) text

-- a byte that doesn't continue an element: a separator, or one of other kinds
abbrev pub is_outside : ℕ → ℕ → ℕ → Bool
is_outside kinds separator c = c == separator || not (is_among kinds c)

-- the number of parts of a text, if each of them is an element
unfoldable pub element_count : ℕ → ℕ → ℕ → List ℕ → Option ℕ
element_count first rest separator text =
    cond (list_all (is_element_of first rest) (parts_at separator text)) (Some (length (parts_at separator text))) None

-- two or more elements joined by dots
unfoldable pub are_two_elements : ℕ → ℕ → List ℕ → Bool
are_two_elements first rest text =
    nat_le 2 (length (parts_at 46 text)) && list_all (is_element_of first rest) (parts_at 46 text)
