-- The length of a message.
use Rattle.std.specs.Prelude.{◌≡◌, ℕ, length}
use Rattle.dbus_header.specs.Message.{Message, spell, spelled_fields}

-- in all, and in its header fields
pub record HasLengths (m : Message) (all fields : ℕ) : Type 0 where
  pub all_is : length (spell m) ≡ all
  pub fields_is : length (spelled_fields m.order m.fields) ≡ fields
