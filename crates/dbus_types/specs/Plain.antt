-- Types without brackets: basic types, variants, and arrays of these.
use Rattle.std.specs.Prelude.{ℕ, ◌+◌, ◌==◌, Bool, false, nat_lt, List, [], ◌∷◌, if◌then◌else◌}
use Rattle.dbus_types.specs.declared.codes.Code.{Code}
use Rattle.dbus_types.specs.declared.codes.Code.TheVariants.{Basic, Variant, Array}
use Rattle.dbus_types.specs.Codes.{code_of}

-- for one code, given whether the rest is plain after a type, and whether it is after one more array
abbrev pub plain_by : Code → ℕ → Bool → Bool → Bool
plain_by Basic arrays behind element = behind
plain_by Variant arrays behind element = behind
plain_by Array arrays behind element = if nat_lt arrays 32 then element else false
plain_by _ arrays behind element = false

-- the bytes after this number of arrays that still need their element
abbrev pub is_plain : ℕ → List ℕ → Bool
is_plain arrays [] = arrays == 0
is_plain arrays (c ∷ bytes) = plain_by (code_of c) arrays (is_plain 0 bytes) (is_plain (arrays + 1) bytes)
