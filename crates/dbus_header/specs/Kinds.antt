-- The types and the flags of messages (D-Bus Specification, "Message Format").
use Rattle.std.specs.Prelude.{ℕ, ◌/◌, ◌%◌, ◌==◌, Bool, true, false, if◌then◌else◌}
use Rattle.dbus_header.specs.Message.{Message}
use Rattle.dbus_header.specs.declared.kinds.MessageType.{MessageType}
use Rattle.dbus_header.specs.declared.kinds.MessageType.TheVariants as named

-- the type of a message; one above 4 has no name
pub data Kind : Type 0 where
  Call : Kind
  Return : Kind
  Error : Kind
  Signal : Kind
  Other : Kind

-- the type by its number
abbrev pub kind_by : ℕ → Kind
kind_by n =
    if n == 1 then Call
    else (if n == 2 then Return
    else (if n == 3 then Error
    else (if n == 4 then Signal else Other)))

unfoldable pub kind_of : Message → Kind
kind_of m = kind_by m.kind

-- what the code calls a type
abbrev pub type_seen : MessageType → Kind
type_seen named.MethodCall = Call
type_seen named.MethodReturn = Return
type_seen named.Error = Error
type_seen named.Signal = Signal
type_seen named.Unnamed = Other

-- only returns and errors are replies
abbrev pub answers_kind : Kind → Bool
answers_kind Call = false
answers_kind Return = true
answers_kind Error = true
answers_kind Signal = false
answers_kind Other = false

-- from a message's flags: NO_REPLY_EXPECTED, 1, isn't set
abbrev pub expects_reply_by : ℕ → Bool
expects_reply_by flags = flags % 2 == 0

-- NO_AUTO_START, 2, is set
abbrev pub forbids_auto_start_by : ℕ → Bool
forbids_auto_start_by flags = (flags / 2) % 2 == 1

abbrev pub expects_reply : Message → Bool
expects_reply m = expects_reply_by m.flags

abbrev pub forbids_auto_start : Message → Bool
forbids_auto_start m = forbids_auto_start_by m.flags
