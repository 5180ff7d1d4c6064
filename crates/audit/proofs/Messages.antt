-- The names that a message names, by what was read of it.
use Rattle.std.proofs.Common.{◌≡◌, ◌==◌, ◌&&◌, ℕ, Bool, List, [], ◌++◌, Option, Some, ap, sym, ◌∙◌, codes, option_map, if◌then◌else◌}
use Rattle.dbus_header.specs.Contents.{Contents, contents_of, message_of, message_in}
use Rattle.dbus_header.specs.Message.{Message, first_text}
use Rattle.dbus_header.proofs.MessageBodies.{message-read}
use Rattle.dbus_header.proofs.MessageIn.{message-is}
use Rattle.dbus_names.specs.Names.{bus_name}
use Rattle.dbus_names.specs.Texts.{Text}
use Rattle.policy_view.specs.Sent.{is_bus_or_absent}
use Rattle.policy_view.specs.Shown.{is_owner_change}
use Rattle.policy_view.specs.Texts.{has_text}
use Rattle.audit.specs.Audit.{listed, named_by_bus, named_by_client, where_well_known}

-- the message that was read
pub read-message : (bytes : List ℕ) (x : Contents) → option_map contents_of (message_of bytes) ≡ Some x → (message_of bytes ≡ Some (message_in bytes)) × (contents_of (message_in bytes) ≡ x)
read-message bytes x read =
    let found = message-read bytes x read in
    let here : message_in bytes ≡ found.0 = message-is bytes found.0 found.1 in
    (found.1 ∙ ap Some (sym here), ap contents_of here ∙ found.2)

abbrev pub calls_bus : Contents → Bool
calls_bus x = x.kind == 1 && is_bus_or_absent x.parts.destination && is_bus_or_absent x.parts.interface

abbrev pub changes_owner : Contents → Bool
changes_owner x = x.kind == 4 && (has_text x.parts.sender bus_name && has_text x.parts.interface bus_name && has_text x.parts.member (codes "NameOwnerChanged"))

abbrev pub listed_if : Bool → Option Text → List Text
listed_if b text = if b then listed text else []

pub client-names : (m : Message) (x : Contents) → contents_of m ≡ x → where_well_known x.parts.destination ++ listed_if (calls_bus x) (first_text m) ≡ named_by_client m
client-names m x is = ap (λ (y : Contents). where_well_known y.parts.destination ++ listed_if (calls_bus y) (first_text m)) (sym is)

pub bus-names : (m : Message) (x : Contents) → contents_of m ≡ x → listed_if (changes_owner x) (first_text m) ≡ named_by_bus m
unfolding is_owner_change
bus-names m x is = ap (λ (y : Contents). listed_if (changes_owner y) (first_text m)) (sym is)
