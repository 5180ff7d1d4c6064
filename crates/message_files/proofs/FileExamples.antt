-- Worked files.
use Rattle.std.proofs.Common.{◌≡◌, [], refl}
use Rattle.std.specs.Prelude.{codes}
use Rattle.dbus_header.specs.Malformed.{head_fault}
use Rattle.dbus_header.specs.declared.MalformedKind.TheVariants.{ByteOrder}
use Rattle.message_files.specs.Files.{bad, message_in}
use Rattle.message_files.specs.declared.MessageFault.TheVariants.{Cut, Malformed}

empty_file : message_in [] ≡ bad Cut 0
unfolding message_in
empty_file = refl

no_order : message_in (codes "x123456789012345") ≡ bad (Malformed ByteOrder) 0
unfolding message_in head_fault
no_order = refl
