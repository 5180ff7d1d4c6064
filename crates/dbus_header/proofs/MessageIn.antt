-- The message that bytes spell, and what is read of it.
use Rattle.std.proofs.Common.{◌≡◌, List, ℕ, Option, Some, ap, sym, ◌∙◌}
use Rattle.std.specs.Prelude.{option_map, unwrap_or}
use Rattle.dbus_header.specs.Contents.{Contents, contents_of, message_in, message_of, no_message}
use Rattle.dbus_header.specs.Message.{Message}
use Rattle.dbus_header.proofs.MessageBodies.{message-read}

pub message-is : (bytes : List ℕ) (m : Message) → message_of bytes ≡ Some m → message_in bytes ≡ m
message-is bytes m at = ap (λ (o : Option Message). unwrap_or o no_message) at

-- bytes of which contents are read spell a message
pub is-spelled : (bytes : List ℕ) (q : Contents) → option_map contents_of (message_of bytes) ≡ Some q → message_of bytes ≡ Some (message_in bytes)
is-spelled bytes q read =
    let found = message-read bytes q read in
    found.1 ∙ ap (λ (m : Message). Some m) (sym (message-is bytes found.0 found.1))

-- and the contents are that message's
pub has-contents : (bytes : List ℕ) (q : Contents) → option_map contents_of (message_of bytes) ≡ Some q → contents_of (message_in bytes) ≡ q
has-contents bytes q read =
    let found = message-read bytes q read in
    ap contents_of (message-is bytes found.0 found.1) ∙ found.2
