-- A frame that spells a valid message is read as it.
use Rattle.std.proofs.Common.{ℕ, ◌≡◌, List, [], Option, Some, None, refl, sym, ap, subst, ◌∙◌, append-nil}
use Rattle.std.specs.Prelude.{IsSome, option_map}
use Rattle.std.proofs.lemmas.Option.{same_Some}
use Rattle.byte_lists.specs.Bytes.{AreBytes}
use Rattle.dbus_values.specs.Reading.{◌>>=◌, when}
use Rattle.dbus_names.specs.Names.{is_empty}
use Rattle.dbus_header.specs.Message.{Message, Valid, spell}
use Rattle.dbus_header.specs.Malformed.{front}
use Rattle.dbus_header.specs.Contents.{Contents, contents_of, message_of, message_in}
use Rattle.dbus_header.proofs.MessageAgain.{front-spell}
use Rattle.dbus_header.proofs.NumberLaws.{is_whole, accepted}
use Rattle.dbus_header.proofs.WholeMessage.{IsWhole}
use Rattle.dbus_header.specs.Malformed.{fault}
use Rattle.dbus_header.proofs.MessageIn.{message-is}

pub spelled_message : (bytes : List ℕ) (m : Message) → Valid m → bytes ≡ spell m → message_of bytes ≡ Some m
unfolding message_of
spelled_message bytes m valid e =
    ap (λ (b : List ℕ). front b >>= λ x. when (is_empty x.1) x.0) (e ∙ sym (append-nil (spell m)))
    ∙ ap (λ (o : Option (Message × List ℕ)). o >>= λ x. when (is_empty x.1) x.0) (front-spell m [] valid)

abbrev pub HasMessage : List ℕ → Type 0
HasMessage bytes = (m : Message) × Valid m × (bytes ≡ spell m)

pub has_message : (bytes : List ℕ) → HasMessage bytes → IsSome (message_of bytes)
has_message bytes h = subst IsSome (sym (spelled_message bytes h.0 h.1 h.2)) refl

pub frame_whole : (bytes : List ℕ) → AreBytes bytes → HasMessage bytes → IsWhole bytes
frame_whole bytes are h = is_whole bytes are (has_message bytes h)

pub frame_sound : (bytes : List ℕ) → AreBytes bytes → HasMessage bytes → fault bytes ≡ None
frame_sound bytes are h = accepted bytes are (has_message bytes h)

pub contents_read : (bytes : List ℕ) (q : Contents) (m : Message) → option_map contents_of (message_of bytes) ≡ Some q → Valid m → bytes ≡ spell m → q ≡ contents_of m
contents_read bytes q m e valid is = sym (same_Some (contents_of m) q (sym (ap (option_map contents_of) (spelled_message bytes m valid is)) ∙ e))

pub no_fault : {A : Type 0} (f : A) (o : Option A) → Some f ≡ o → o ≡ None → ⊥
no_fault f o e n = let h : Some f ≡ None = e ∙ n in absurd cc

-- such a frame is of one message
pub frame_message : (frame : List ℕ) → HasMessage frame → Valid (message_in frame) × (frame ≡ spell (message_in frame))
frame_message frame (m, valid, is) =
    let e : m ≡ message_in frame = sym (message-is frame m (spelled_message frame m valid is)) in
    (subst Valid e valid, is ∙ ap spell e)
