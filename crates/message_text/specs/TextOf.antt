-- Bytes that are a valid message, and its text.
use Rattle.std.specs.Prelude.{◌≡◌, ℕ, List, Some}
use Rattle.dbus_header.specs.Message.{Message, Valid, spell}
use Rattle.dbus_header.specs.Contents.{message_of}
use Rattle.message_text.specs.MessageText.{message_text}

pub record IsTextOf (bytes text : List ℕ) : Type 0 where
  pub message : Message
  pub valid : Valid message
  pub is : message_of bytes ≡ Some message
  pub bytes_are : bytes ≡ spell message
  pub text_is : message_text message ≡ text
