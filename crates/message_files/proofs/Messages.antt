-- What a file is as a message.
use Rattle.std.proofs.Common.{◌≡◌, ◌≤◌, ◌<◌, ℕ, Bool, List, length, Option, Some, None, Result, Ok, Err, if◌then◌else◌, refl, sym, ap, ◌∙◌, arith}
use Rattle.std.specs.Prelude.{nat_lt}
use Rattle.std.proofs.lemmas.Bool.{lt-ltb, le-ltb}
use Rattle.dbus_header.specs.Message.{Message}
use Rattle.dbus_header.specs.Malformed.{head_fault, whole_len, whole, fault, fault_in}
use Rattle.dbus_header.specs.Contents.{message_of}
use Rattle.dbus_header.specs.declared.Malformed.{Malformed}
use Rattle.dbus_header.proofs.WholeMessage.{IsWhole, fault_of_whole, message_is}
use Rattle.message_files.specs.Files.{bad, message_or_fault, message_by_length, message_by_head, message_in, of_malformed}
use Rattle.message_files.specs.declared.BadMessage.{BadMessage}
use Rattle.message_files.specs.declared.MessageFault.TheVariants.{TooLong, Cut, Extra}
use Rattle.message_files.specs.declared.TheConstants.{MESSAGE_LIMIT}

abbrev told_as : BadMessage → Result Message BadMessage
told_as b = Err b

-- ---- bytes whose first 16 state a length

pub short : (bytes : List ℕ) → length bytes < whole_len bytes → message_by_length bytes ≡ bad Cut (length bytes)
short bytes less = ap (λ (b : Bool). if b then bad Cut (length bytes) else (if nat_lt (whole_len bytes) (length bytes) then bad Extra (whole_len bytes) else message_or_fault (whole bytes))) (lt-ltb (length bytes) (whole_len bytes) less)

not_short : (bytes : List ℕ) → whole_len bytes ≤ length bytes → message_by_length bytes ≡ (if nat_lt (whole_len bytes) (length bytes) then bad Extra (whole_len bytes) else message_or_fault (whole bytes))
not_short bytes more = ap (λ (b : Bool). if b then bad Cut (length bytes) else (if nat_lt (whole_len bytes) (length bytes) then bad Extra (whole_len bytes) else message_or_fault (whole bytes))) (le-ltb (length bytes) (whole_len bytes) more)

pub long : (bytes : List ℕ) → whole_len bytes < length bytes → message_by_length bytes ≡ bad Extra (whole_len bytes)
long bytes more = not_short bytes (omega (arith, more)) ∙ ap (λ (b : Bool). if b then bad Extra (whole_len bytes) else message_or_fault (whole bytes)) (lt-ltb (whole_len bytes) (length bytes) more)

exact : (bytes : List ℕ) → length bytes ≡ whole_len bytes → message_by_length bytes ≡ message_or_fault (whole bytes)
exact bytes same =
    not_short bytes (omega (arith, same))
    ∙ ap (λ (b : Bool). if b then bad Extra (whole_len bytes) else message_or_fault (whole bytes)) (le-ltb (whole_len bytes) (length bytes) (omega (arith, same)))

-- the message that they are ..
pub valid_message : (bytes : List ℕ) → IsWhole bytes → fault bytes ≡ None → (m : Message) × (message_by_length bytes ≡ Ok m) × (message_of bytes ≡ Some m)
valid_message bytes w none = go (whole bytes) refl (sym (fault_of_whole bytes w) ∙ none)
  where
    go : (r : Result Message Malformed) → whole bytes ≡ r → fault_in r ≡ None → (m : Message) × (message_by_length bytes ≡ Ok m) × (message_of bytes ≡ Some m)
    go (Ok m) e n = (m, exact bytes w.exact ∙ ap message_or_fault e, message_is bytes m w e)
    go (Err f) e n = absurd cc

-- .. or what is wrong with them
pub no_message : (bytes : List ℕ) (f : Malformed) (told : BadMessage) → IsWhole bytes → fault bytes ≡ Some f → told ≡ of_malformed f → message_by_length bytes ≡ Err told
no_message bytes f told w some is = go (whole bytes) refl (sym (fault_of_whole bytes w) ∙ some) ∙ ap told_as (sym is)
  where
    go : (r : Result Message Malformed) → whole bytes ≡ r → fault_in r ≡ Some f → message_by_length bytes ≡ Err (of_malformed f)
    go (Ok m) e n = absurd cc
    go (Err g) e n = exact bytes w.exact ∙ ap message_or_fault e ∙ ap (λ (k : Malformed). message_or_fault (Err k)) same
      where
        same : g ≡ f
        same = cc

-- ---- a file

pub above_limit : (bytes : List ℕ) → MESSAGE_LIMIT < length bytes → message_in bytes ≡ bad TooLong MESSAGE_LIMIT
unfolding message_in
above_limit bytes more = ap (λ (b : Bool). if b then bad TooLong MESSAGE_LIMIT else (if nat_lt (length bytes) 16 then bad Cut (length bytes) else message_by_head bytes (head_fault bytes))) (lt-ltb MESSAGE_LIMIT (length bytes) more)

within_limit : (bytes : List ℕ) → length bytes ≤ MESSAGE_LIMIT → message_in bytes ≡ (if nat_lt (length bytes) 16 then bad Cut (length bytes) else message_by_head bytes (head_fault bytes))
unfolding message_in
within_limit bytes few = ap (λ (b : Bool). if b then bad TooLong MESSAGE_LIMIT else (if nat_lt (length bytes) 16 then bad Cut (length bytes) else message_by_head bytes (head_fault bytes))) (le-ltb MESSAGE_LIMIT (length bytes) few)

pub no_head : (bytes : List ℕ) → length bytes ≤ MESSAGE_LIMIT → length bytes < 16 → message_in bytes ≡ bad Cut (length bytes)
no_head bytes few less = within_limit bytes few ∙ ap (λ (b : Bool). if b then bad Cut (length bytes) else message_by_head bytes (head_fault bytes)) (lt-ltb (length bytes) 16 less)

pub with_head : (bytes : List ℕ) (f : Option Malformed) → length bytes ≤ MESSAGE_LIMIT → 16 ≤ length bytes → head_fault bytes ≡ f → message_in bytes ≡ message_by_head bytes f
with_head bytes f few enough e =
    within_limit bytes few
    ∙ ap (λ (b : Bool). if b then bad Cut (length bytes) else message_by_head bytes (head_fault bytes)) (le-ltb (length bytes) 16 enough)
    ∙ ap (message_by_head bytes) e

-- its first 16 bytes are in order ..
pub good_head : (bytes : List ℕ) → length bytes ≤ MESSAGE_LIMIT → 16 ≤ length bytes → head_fault bytes ≡ None → message_in bytes ≡ message_by_length bytes
good_head bytes few enough e = with_head bytes None few enough e

-- .. or they are not
pub head_is_bad : (bytes : List ℕ) (f : Malformed) (told : BadMessage) → length bytes ≤ MESSAGE_LIMIT → 16 ≤ length bytes → head_fault bytes ≡ Some f → told ≡ of_malformed f → message_in bytes ≡ Err told
head_is_bad bytes f told few enough e is = with_head bytes (Some f) few enough e ∙ ap told_as (sym is)
