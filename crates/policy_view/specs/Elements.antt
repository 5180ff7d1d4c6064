-- The elements of the visible part as they are given: messages by their frames, without the End.
use Rattle.std.specs.Prelude.{◌≡◌, ℕ, ◌+◌, ◌-◌, ◌≤◌, List, [], ◌∷◌, ◌++◌, length, map, flat_map, take, slice_get, option_to_list}
use Rattle.byte_lists.specs.Bytes.{AreBytes}
use Rattle.dbus_header.specs.Message.{spell}
use Rattle.policy_args.specs.Policy.{Policy}
use Rattle.policy_view.specs.History.{Event, Bytes, Finished, Stopped, end_of}
use Rattle.dbus_header.specs.Contents.{message_in}
use Rattle.policy_view.specs.Past.{History}
use Rattle.policy_view.specs.Visible.{Visible, VisibleLine, FromClient, ShownWhole, ShownCut, PingAnswered, OwnerAnswered, NamesAnswered, Closed, part}
use Rattle.policy_view.specs.declared.visible.Visible.{Visible as Element}
use Rattle.policy_view.specs.declared.visible.Visible.TheVariants as given

-- what is given of an element: nothing of an End
abbrev pub given_of : Visible → List Element
given_of (VisibleLine side bytes) = given.Line side bytes ∷ []
given_of (FromClient m) = given.Client (spell m) ∷ []
given_of (ShownWhole m) = given.Shown (spell m) ∷ []
given_of (ShownCut m) = given.Cut (spell m) ∷ []
given_of (PingAnswered position serial) = given.Ping position serial ∷ []
given_of (OwnerAnswered position owner) = given.Owner position owner ∷ []
given_of (NamesAnswered position names) = given.Asked position names ∷ []
given_of (Closed end) = []

-- the elements that are given of a history
unfoldable pub elements : Policy → History → List Element
elements policy items = flat_map given_of (part policy items)

-- the visible element that this given element represents
abbrev pub element_of : Element → Visible
element_of (given.Line side bytes) = VisibleLine side bytes
element_of (given.Client frame) = FromClient (message_in frame)
element_of (given.Shown frame) = ShownWhole (message_in frame)
element_of (given.Cut frame) = ShownCut (message_in frame)
element_of (given.Ping position serial) = PingAnswered position serial
element_of (given.Owner position owner) = OwnerAnswered position owner
element_of (given.Asked position names) = NamesAnswered position names

-- the visible part of a history follows from its given elements and its End
abbrev pub TellThePart : Policy → History → Type 0
TellThePart policy items = part policy items ≡ map element_of (elements policy items) ++ map Closed (option_to_list (end_of items))

-- the first place at which two lists differ, from 1; the place after the end of the shorter list counts too
pub record DifferFirst {A : Type 0} (place : ℕ) (one other : List A) : Type 0 where
  pub counted : 1 ≤ place
  pub before : take (place - 1) one ≡ take (place - 1) other
  pub there : slice_get one (place - 1) ≡ slice_get other (place - 1) → ⊥

-- the visible parts of two histories first differ where their given elements do, and else at their Ends
pub record DifferAsGiven (policy : Policy) (one other : History) : Type 0 where
  pub same : elements policy one ≡ elements policy other → end_of one ≡ end_of other → part policy one ≡ part policy other
  pub at_element : (place : ℕ) → DifferFirst place (elements policy one) (elements policy other) → DifferFirst place (part policy one) (part policy other)
  pub at_end : elements policy one ≡ elements policy other → (end_of one ≡ end_of other → ⊥) →
      DifferFirst (length (elements policy one) + 1) (part policy one) (part policy other)

-- what an event brings are bytes
abbrev pub BringsBytes : Event → Type 0
BringsBytes (Bytes side piece) = AreBytes piece
BringsBytes (Finished side) = Unit {0}
BringsBytes (Stopped end) = Unit {0}
