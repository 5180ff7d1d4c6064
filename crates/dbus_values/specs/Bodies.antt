-- Bodies, and the texts in them.
use Rattle.std.specs.Prelude.{◌≡◌, ℕ, zero, suc, ◌+◌, ◌%◌, List, [], ◌∷◌, length, Option, Some, None, if◌then◌else◌}
use Rattle.std.specs.Int.{w32}
use Rattle.dbus_names.specs.Names.{is_empty}
use Rattle.dbus_types.specs.Signature.{Complete, basic, string, spelled_types}
use Rattle.dbus_values.specs.Values.{Value, a_string, an_array, Values, no_values, value}
use Rattle.dbus_values.specs.Reading.{At, ◌>>=◌, some_bytes, aligned, a_width, text_at, values_at}
use Rattle.dbus_values.specs.declared.Order.{Order}

-- the body is these values, one of each of the signature's types; it begins at a place of the message that is a
-- multiple of 8
pub record IsBody (order : Order) (signature body : List ℕ) (place : ℕ) (types : List Complete) (values : List Value) : Type 0 where
  pub start : place % 8 ≡ 0
  pub spelled : signature ≡ spelled_types types
  pub read : values_at order types (record { place = place; bytes = body }) ≡ (values, record { place = place + length body; bytes = [] })
  pub all : length values ≡ length types

-- the body is valid
abbrev pub HasBody : Order → List ℕ → List ℕ → Type 0
HasBody order signature body = (place : ℕ) × (types : List Complete) × (values : List Value) × IsBody order signature body place types values

-- ---- texts

-- the first body value, if the signature begins with s
abbrev pub first_text_of : List Value → Option (List ℕ)
first_text_of (a_string text ∷ values) = Some text
first_text_of _ = None

-- the first two body values, if the signature begins with ss
abbrev pub two_of : List Value → Option (List ℕ × List ℕ)
two_of (a_string a ∷ a_string b ∷ values) = Some (a, b)
two_of _ = None

-- the texts of a body of signature sss
abbrev pub three_of : List Value → Option (List ℕ × List ℕ × List ℕ)
three_of (a_string a ∷ a_string b ∷ a_string c ∷ []) = Some (a, b, c)
three_of _ = None

-- the texts of an array of strings
abbrev pub strings : Values → List (List ℕ)
strings (value (a_string text) vs) = text ∷ strings vs
strings (value _ vs) = strings vs
strings no_values = []

-- the texts of a body of signature as
abbrev pub list_in : List Value → Option (List (List ℕ))
list_in (an_array (basic string) vs ∷ []) = Some (strings vs)
list_in _ = None

-- ---- texts one after the other

-- strings up to the end of the bytes, at most this many
abbrev pub texts_at : Order → ℕ → At → Option (List (List ℕ))
texts_at order zero at = None
texts_at order (suc n) at =
    if is_empty at.bytes then Some [] else (text_at order at >>= λ x. texts_at order n x.1 >>= λ texts. Some (x.0 ∷ texts))

-- each has at least one byte
abbrev pub texts_in : Order → At → Option (List (List ℕ))
texts_in order at = texts_at order (suc (length at.bytes)) at

abbrev pub texts_or_none : Option (List (List ℕ)) → List (List ℕ)
texts_or_none None = []
texts_or_none (Some texts) = texts

-- the elements of an array of strings
abbrev pub elements_in : Order → At → Option At
elements_in order at = do
  start ← aligned 4 at
  n ← a_width order w32 start
  first ← aligned 4 n.1
  x ← some_bytes n.0 first
  Some (record { place = first.place; bytes = x.0 })

-- two strings one after the other, and what follows them
abbrev pub two_at : Order → At → Option ((List ℕ × List ℕ) × At)
two_at order at = do
  a ← text_at order at
  b ← text_at order a.1
  Some ((a.0, b.0), b.1)

-- three strings one after the other
abbrev pub three_at : Order → At → Option (List ℕ × List ℕ × List ℕ)
three_at order at = do
  two ← two_at order at
  c ← text_at order two.1
  Some (two.0.0, two.0.1, c.0)

abbrev pub listed : List ℕ × List ℕ × List ℕ → List (List ℕ)
listed x = x.0 ∷ x.1 ∷ x.2 ∷ []
