-- The meaning of each byte of a signature, by the code's table.
use Rattle.std.specs.Prelude.{ℕ, Bool, true, false, ◌==◌, if◌then◌else◌, slice_index}
use Rattle.dbus_types.specs.declared.codes.Code.{Code}
use Rattle.dbus_types.specs.declared.codes.Code.TheVariants.{Unknown, Basic, Variant, Array, StructStart, StructEnd, EntryStart, EntryEnd}
use Rattle.dbus_types.specs.declared.codes.TheConstants.{CODES}

-- the code by its digit
abbrev pub code_at : ℕ → Code
code_at digit =
    if digit == 49 then Basic
    else (if digit == 50 then Variant
    else (if digit == 51 then Array
    else (if digit == 52 then StructStart
    else (if digit == 53 then StructEnd
    else (if digit == 54 then EntryStart
    else (if digit == 55 then EntryEnd
    else Unknown))))))

unfoldable pub code_of : ℕ → Code
code_of byte = code_at (slice_index CODES byte)

abbrev pub is_array : Code → Bool
is_array Unknown = false
is_array Basic = false
is_array Variant = false
is_array Array = true
is_array StructStart = false
is_array StructEnd = false
is_array EntryStart = false
is_array EntryEnd = false
