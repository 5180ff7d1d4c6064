-- The serials that one side of a connection can give its messages.
use Rattle.std.specs.Prelude.{ℕ}

-- a serial is a number of 32 bits other than 0 (D-Bus Specification, "Message Format"), so there are 2^32 - 1
abbrev pub most_serials : ℕ
most_serials = 4294967295
