-- What files give: one as a message, and one as a message's text.
--
-- A file is the message that its bytes are, all of them. What is wrong with it is the first of these that applies:
--
--     TooLong      it has more than 16,777,216 bytes; the place is that number
--     Cut          it has fewer than 16 bytes; the place is their number
--     ByteOrder .. its first 16 bytes state no message: the kinds from ByteOrder to Serial, each at its place
--     Cut          it has fewer bytes than these state; the place is their number
--     Extra        it has more; the place is the stated length
--     Fields ..    it is otherwise no valid message: the kinds from Fields to Descriptors, each at its place
--
-- A text of more than 67,108,864 bytes is TooLong.
use Rattle.std.specs.Prelude.{ℕ, ◌^◌, nat_lt, nat_le, Bool, ◌&&◌, List, [], length, Option, Some, None, Result, Ok, Err, if◌then◌else◌, bytes_eq}
use Rattle.dbus_types.specs.Signature.{spelled_types}
use Rattle.dbus_header.specs.Message.{Message, stated, signature, are_valid, are_valid_fields, may_all_follow, has_required, has_no_descriptors, spelled_fields, body_place, spell}
use Rattle.dbus_header.specs.Malformed.{head_fault, whole_len, whole}
use Rattle.dbus_header.specs.Contents.{message_of}
use Rattle.dbus_header.specs.declared.Malformed.{Malformed as Fault}
use Rattle.message_text.specs.MessageText.{Text, message_text}
use Rattle.message_text.specs.Reading.{read_message}
use Rattle.message_text.specs.declared.BadText.{BadText}
use Rattle.message_text.specs.declared.BadText.TheVariants.{Form, NotValid}
use Rattle.message_files.specs.declared.BadMessage.{BadMessage}
use Rattle.message_files.specs.declared.MessageFault.{MessageFault}
use Rattle.message_files.specs.declared.MessageFault.TheVariants.{TooLong, Cut, Extra, Malformed}
use Rattle.message_files.specs.declared.BadTextFile.{BadTextFile}
use Rattle.message_files.specs.declared.BadTextFile.TheVariants.{TooLong as TextTooLong, Text as NoText}
use Rattle.message_files.specs.declared.TheConstants.{MESSAGE_LIMIT, TEXT_LIMIT}

-- ---- a message

abbrev pub bad : MessageFault → ℕ → Result Message BadMessage
bad kind at = Err (record { kind = kind; at = at })

abbrev pub of_malformed : Fault → BadMessage
of_malformed fault = record { kind = Malformed fault.kind; at = fault.at }

abbrev pub message_or_fault : Result Message Fault → Result Message BadMessage
message_or_fault (Ok m) = Ok m
message_or_fault (Err fault) = Err (of_malformed fault)

-- bytes whose first 16 state a length
abbrev pub message_by_length : List ℕ → Result Message BadMessage
message_by_length bytes =
    if nat_lt (length bytes) (whole_len bytes) then bad Cut (length bytes)
    else (if nat_lt (whole_len bytes) (length bytes) then bad Extra (whole_len bytes)
    else message_or_fault (whole bytes))

abbrev pub message_by_head : List ℕ → Option Fault → Result Message BadMessage
message_by_head bytes (Some fault) = Err (of_malformed fault)
message_by_head bytes None = message_by_length bytes

-- the message that a file's bytes are
unfoldable pub message_in : List ℕ → Result Message BadMessage
message_in bytes =
    if nat_lt MESSAGE_LIMIT (length bytes) then bad TooLong MESSAGE_LIMIT
    else (if nat_lt (length bytes) 16 then bad Cut (length bytes)
    else message_by_head bytes (head_fault bytes))

abbrev pub text_or_fault : Result Message BadMessage → Result Text BadMessage
text_or_fault (Ok m) = Ok (message_text m)
text_or_fault (Err fault) = Err fault

-- its text
abbrev pub text_shown : List ℕ → Result Text BadMessage
text_shown bytes = text_or_fault (message_in bytes)

-- ---- a text

-- whether a message is valid, as a test: its numbers, its header fields, its body, and its length
abbrev pub has_numbers : Message → Bool
has_numbers m = nat_lt 0 m.kind && (nat_lt m.kind 256 && (nat_lt m.flags 256 && (nat_lt 0 m.serial && nat_lt m.serial (2 ^ 32))))

abbrev pub has_fields : Message → Bool
has_fields m =
    are_valid_fields m.order 16 m.fields
    && (may_all_follow [] m.fields
    && (nat_le (length (spelled_fields m.order m.fields)) (2 ^ 26)
    && (has_required m.kind m.fields && has_no_descriptors m.fields)))

abbrev pub has_body : Message → Bool
has_body m =
    are_valid m.order (body_place (length (spelled_fields m.order m.fields))) m.body
    && (bytes_eq (spelled_types (stated m.fields)) (signature m) && nat_le (length (spell m)) (2 ^ 27))

abbrev pub is_valid : Message → Bool
is_valid m = has_numbers m && (has_fields m && has_body m)

abbrev pub reading_by_message : Text → Option Message → Result Message BadText
reading_by_message text None = Err NotValid
reading_by_message text (Some m) = if is_valid m && bytes_eq (message_text m) text then Ok m else Err NotValid

abbrev pub reading_by_bytes : Text → Option (List ℕ) → Result Message BadText
reading_by_bytes text None = Err Form
reading_by_bytes text (Some bytes) = reading_by_message text (message_of bytes)

-- what a text is read as: if it has the form, the valid message of the bytes that it gives, if that has this text
unfoldable pub reading : Text → Result Message BadText
reading text = reading_by_bytes text (read_message text)

abbrev pub bytes_or_fault : Result Message BadText → Result (List ℕ) BadTextFile
bytes_or_fault (Ok m) = Ok (spell m)
bytes_or_fault (Err fault) = Err (NoText fault)

-- the bytes of the message whose text a file holds
unfoldable pub bytes_composed : Text → Result (List ℕ) BadTextFile
bytes_composed text = if nat_lt TEXT_LIMIT (length text) then Err TextTooLong else bytes_or_fault (reading text)
