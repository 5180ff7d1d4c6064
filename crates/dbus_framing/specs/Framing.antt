-- What is taken from a stream, and how that relates to all that was pushed.
use Rattle.std.specs.Prelude.{◌≡◌, ℕ, ◌<◌, List, ◌++◌, [], ◌∷◌, length, Some, None, ◌⊎◌}
use Rattle.std.specs.List.{flat_map, AllByRecursion}
use Rattle.dbus_header.specs.Message.{Message, Valid, spell}
use Rattle.dbus_header.specs.Malformed.{front, fault, head_fault, whole_len}
use Rattle.dbus_header.specs.Stream.{messages, bad}
use Rattle.dbus_framing.specs.declared.Next.{Next}
use Rattle.dbus_framing.specs.declared.Next.TheVariants.{Whole, Incomplete, Bad}
use Rattle.dbus_framing.specs.declared.Front.{Front}
use Rattle.dbus_framing.specs.declared.Front.TheVariants as looks
use Rattle.dbus_framing.specs.Knows.{IsWhole}

-- at most the beginning of a message: fewer bytes than a head has, or than a valid head states
abbrev pub IsPartial : List ℕ → Type 0
IsPartial left = (length left < 16) ⊎ ((head_fault left ≡ None) × (length left < whole_len left))

-- what the head of the first message says of the bytes
abbrev pub Looks : List ℕ → Front → Type 0
Looks left (looks.Whole len) = IsWhole left len
Looks left looks.Incomplete = IsPartial left × (front left ≡ None) × (fault left ≡ None)
Looks left (looks.Bad f) = fault left ≡ Some f

-- the frame spells the first message, which is valid, and the new bytes follow it
pub record Takes (old frame new : List ℕ) (m : Message) : Type 0 where
  pub valid : Valid m
  pub in_front : front old ≡ Some (m, new)
  pub spelled : frame ≡ spell m
  pub parts : old ≡ frame ++ new

-- what is taken from the start of the old bytes, and the bytes that are left
abbrev pub Gives : List ℕ → Next → List ℕ → Type 0
Gives old (Whole frame) new = (m : Message) × Takes old frame new m
Gives old Incomplete new = IsPartial old × (front old ≡ None) × (fault old ≡ None) × (new ≡ old)
Gives old (Bad f) new = (fault old ≡ Some f) × (new ≡ old)

-- of all that was pushed, these valid messages were taken and these bytes are left
pub record Stands (pushed : List ℕ) (given : List Message) (left : List ℕ) : Type 0 where
  pub parts : pushed ≡ flat_map spell given ++ left
  pub each : AllByRecursion Valid given

-- what is given next is the next message of all that was pushed; or there is none, and any fault is reported
abbrev pub Follows : List ℕ → List Message → Next → List ℕ → Type 0
Follows pushed given (Whole frame) new = (m : Message) × (frame ≡ spell m) × Stands pushed (given ++ m ∷ []) new
Follows pushed given Incomplete new = Stands pushed given new × (given ≡ messages pushed) × (bad pushed ≡ None)
Follows pushed given (Bad f) new = Stands pushed given new × (given ≡ messages pushed) × (bad pushed ≡ Some f)
