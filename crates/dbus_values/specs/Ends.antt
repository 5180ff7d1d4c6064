-- The end of the values in some bytes.
use Rattle.std.specs.Prelude.{◌≡◌, ℕ, ◌+◌, ◌==◌, ◌++◌, IsTrue, List, length, drop, Result, Ok, Err, if◌then◌else◌}
use Rattle.dbus_types.specs.Signature.{Complete}
use Rattle.dbus_values.specs.Values.{Value, type_of, spelled, is_value, is_within}
use Rattle.dbus_values.specs.Reading.{At, values_at}
use Rattle.dbus_values.specs.declared.Order.{Order}
use Rattle.dbus_values.specs.declared.BadValue.{BadValue}

-- the end of one value of each type; else the end of the values that are there
abbrev pub end_of : List Complete → List Value × At → Result ℕ BadValue
end_of types found = if length found.0 == length types then Ok found.1.place else Err (record { at = found.1.place })

-- where the values of the types end, from a place of the bytes on
abbrev pub values_end : Order → List Complete → ℕ → List ℕ → Result ℕ BadValue
values_end order types place bytes = end_of types (values_at order types (record { place = place; bytes = drop place bytes }))

-- ---- in terms of spelling

-- the bytes begin with the spelling of the value of the type, and the others follow it
pub record IsSpelled (order : Order) (type : Complete) (at : At) (x : Value × At) : Type 0 where
  pub typed : type_of x.0 ≡ type
  pub within : IsTrue (is_within 64 x.0)
  pub valid : IsTrue (is_value order at.place x.0)
  pub bytes : at.bytes ≡ spelled order at.place x.0 ++ x.1.bytes
  pub place : x.1.place ≡ at.place + length (spelled order at.place x.0)

-- the bytes don't begin with the spelling of any valid value of the type
abbrev pub NoneSpelled : Order → Complete → At → Type 0
NoneSpelled order type at =
    (v : Value) (others : List ℕ) → type_of v ≡ type → IsTrue (is_within 64 v) → IsTrue (is_value order at.place v) → at.bytes ≡ spelled order at.place v ++ others → ⊥
