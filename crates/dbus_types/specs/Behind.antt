-- What follows a type, found by counting brackets.
use Rattle.std.specs.Prelude.{ℕ, ◌+◌, ◌-◌, ◌==◌, ◌&&◌, not, List, [], ◌∷◌, if◌then◌else◌}
use Rattle.dbus_types.specs.declared.codes.Code.{Code}
use Rattle.dbus_types.specs.declared.codes.Code.TheVariants.{StructStart, StructEnd, EntryStart, EntryEnd}
use Rattle.dbus_types.specs.Codes.{code_of, is_array}

abbrev pub open_after : Code → ℕ → ℕ
open_after StructStart brackets = brackets + 1
open_after EntryStart brackets = brackets + 1
open_after StructEnd brackets = brackets - 1
open_after EntryEnd brackets = brackets - 1
open_after _ brackets = brackets

abbrev pub behind : ℕ → List ℕ → List ℕ
behind brackets [] = []
behind brackets (c ∷ bytes) =
    if not (is_array (code_of c)) && open_after (code_of c) brackets == 0 then bytes else behind (open_after (code_of c) brackets) bytes
