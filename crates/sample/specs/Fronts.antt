-- What stands in front of a message's text.
use Rattle.std.specs.Prelude.{ℕ, ◌+◌, List, codes}
use Rattle.dbus_names.specs.Texts.{Text}
use Rattle.dbus_values.specs.declared.Order.TheVariants.{Little}
use Rattle.dbus_header.specs.Message.{with_number}
use Rattle.sample.specs.declared.messages.Peer.{Peer}
use Rattle.sample.specs.declared.messages.Peer.TheVariants.{A, B}
use Rattle.sample.specs.declared.messages.TheConstants.{ECHO_A, ECHO_B, TICK_A, TICK_B}

-- the serial, and the lengths of the body and of its text
abbrev pub with_numbers : ℕ → ℕ → ℕ → List ℕ → List ℕ
with_numbers text_len_place serial text_len front =
    with_number Little text_len_place text_len (with_number Little 8 serial (with_number Little 4 (text_len + 5) front))

abbrev pub name_of : Peer → Text
name_of A = codes "org.sample.A"
name_of B = codes "org.sample.B"

-- the unique name of its owner
abbrev pub sender_of : Peer → Text
sender_of A = codes ":1.5"
sender_of B = codes ":1.6"

-- the bytes that the code has for either peer
abbrev pub echo_template : Peer → List ℕ
echo_template A = ECHO_A
echo_template B = ECHO_B

abbrev pub tick_template : Peer → List ℕ
tick_template A = TICK_A
tick_template B = TICK_B
