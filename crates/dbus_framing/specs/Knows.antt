-- What a framer remembers of the first message.
use Rattle.std.specs.Prelude.{◌≡◌, ◌≤◌, ℕ, List, length, Some, None}
use Rattle.dbus_header.specs.Malformed.{fault, head_fault, whole_len}
use Rattle.dbus_framing.specs.declared.state.State.{State}
use Rattle.dbus_framing.specs.declared.state.State.TheVariants.{AwaitsHead, AwaitsMessage, Bad}

-- a valid head that states this length
pub record Head (left : List ℕ) (len : ℕ) : Type 0 where
  pub stands : 16 ≤ length left
  pub good : head_fault left ≡ None
  pub states : whole_len left ≡ len

-- such a head, and at least as many bytes as it states
pub record IsWhole (left : List ℕ) (len : ℕ) : Type 0 where
  pub head : Head left len
  pub stands : len ≤ length left

abbrev pub Knows : State → List ℕ → Type 0
Knows AwaitsHead left = Unit {0}
Knows (AwaitsMessage len) left = Head left len
Knows (Bad f) left = fault left ≡ Some f
