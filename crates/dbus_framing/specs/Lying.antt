-- The bytes of a buffer in either form.
use Rattle.std.specs.Prelude.{ℕ, List}
use Rattle.dbus_framing.specs.declared.buffer.Content.{Content}
use Rattle.dbus_framing.specs.declared.buffer.Content.TheVariants.{Open, Shared}

abbrev pub lying_in : Content → List ℕ
lying_in (Open bytes) = bytes
lying_in (Shared bytes) = bytes
