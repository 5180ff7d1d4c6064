-- What a file is as a message's text.
use Rattle.std.proofs.Common.{◌≡◌, ◌≤◌, ◌<◌, ℕ, Bool, List, Result, Ok, Err, if◌then◌else◌, length, ap, sym, ◌∙◌}
use Rattle.std.proofs.lemmas.Bool.{lt-ltb, le-ltb}
use Rattle.dbus_header.specs.Message.{Message, spell}
use Rattle.message_text.specs.MessageText.{Text, ReadsAs}
use Rattle.message_text.specs.declared.BadText.{BadText}
use Rattle.message_files.specs.Files.{bytes_composed, bytes_or_fault, reading}
use Rattle.message_files.specs.declared.BadTextFile.{BadTextFile}
use Rattle.message_files.specs.declared.BadTextFile.TheVariants.{TooLong, Text as NoText}
use Rattle.message_files.specs.declared.TheConstants.{TEXT_LIMIT}
use Rattle.message_files.proofs.Readings.{one_reading}

abbrev chosen : Text → Bool → Result (List ℕ) BadTextFile
chosen text b = if b then Err TooLong else bytes_or_fault (reading text)

pub above_limit : (text : Text) → TEXT_LIMIT < length text → bytes_composed text ≡ Err TooLong
unfolding bytes_composed
above_limit text more = ap (chosen text) (lt-ltb TEXT_LIMIT (length text) more)

within_limit : (text : Text) (answer : Result Message BadText) → length text ≤ TEXT_LIMIT → ReadsAs text answer → bytes_composed text ≡ bytes_or_fault answer
unfolding bytes_composed
within_limit text answer few read = ap (chosen text) (le-ltb TEXT_LIMIT (length text) few) ∙ ap bytes_or_fault (sym (one_reading text answer read))

pub is_message : (text : Text) (m : Message) (bytes : List ℕ) → length text ≤ TEXT_LIMIT → ReadsAs text (Ok m) → bytes ≡ spell m → bytes_composed text ≡ Ok bytes
is_message text m bytes few read spelled = within_limit text (Ok m) few read ∙ ap ok (sym spelled)
  where
    ok : List ℕ → Result (List ℕ) BadTextFile
    ok b = Ok b

pub is_none : (text : Text) (why : BadText) → length text ≤ TEXT_LIMIT → ReadsAs text (Err why) → bytes_composed text ≡ Err (NoText why)
is_none text why few read = within_limit text (Err why) few read
