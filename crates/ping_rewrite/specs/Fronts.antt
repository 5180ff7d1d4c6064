-- What comes before a call's text, and before a match rule's name.
use Rattle.std.specs.Prelude.{ℕ, ◌+◌, Bool, List, ◌++◌, codes, if◌then◌else◌}
use Rattle.dbus_values.specs.declared.Order.TheVariants.{Little}
use Rattle.dbus_header.specs.Message.{with_number}

-- a call up to its text, with its serial and with the lengths of its body and of the body's text
abbrev pub front_with : ℕ → ℕ → List ℕ → List ℕ
front_with serial text_len front = with_number Little 144 text_len (with_number Little 8 serial (with_number Little 4 (text_len + 5) front))

-- a match rule for NameOwnerChanged, up to the name
abbrev pub rule_before : Bool → List ℕ
rule_before exact =
    codes "type='signal',sender='org.freedesktop.DBus',interface='org.freedesktop.DBus',member='NameOwnerChanged',"
    ++ (if exact then codes "arg0='" else codes "arg0namespace='")
