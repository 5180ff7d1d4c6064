-- What `shown` and `composed` answer, unless there is no memory.
use Rattle.std.specs.Prelude.{◌≡◌, ℕ, List, Some, Result, Ok, Err, Vec}
use Rattle.dbus_header.specs.Message.{Message}
use Rattle.dbus_header.specs.Contents.{message_of}
use Rattle.message_files.specs.declared.ShowRefusal.{ShowRefusal}
use Rattle.message_files.specs.declared.ShowRefusal.TheVariants.{Bad, Memory}
use Rattle.message_files.specs.declared.ComposeRefusal.{ComposeRefusal}
use Rattle.message_files.specs.declared.ComposeRefusal.TheVariants.{Bad as BadFile, Memory as NoMemory}
use Rattle.message_files.specs.Files.{message_in, text_shown, bytes_composed}

-- these bytes are the message that a file's bytes are
pub record IsMessageIn (file bytes : List ℕ) : Type 0 where
  pub same : bytes ≡ file
  pub message : Message
  pub is : message_in file ≡ Ok message
  pub read : message_of file ≡ Some message

abbrev pub Shows : {Z : Type 0} → List ℕ → Result (Vec ℕ Z) ShowRefusal → Type 0
Shows file (Ok text) = text_shown file ≡ Ok text.items
Shows file (Err (Bad fault)) = text_shown file ≡ Err fault
Shows file (Err (Memory error)) = Unit {0}

abbrev pub Composes : {Z : Type 0} → List ℕ → Result (Vec ℕ Z) ComposeRefusal → Type 0
Composes file (Ok bytes) = bytes_composed file ≡ Ok bytes.items
Composes file (Err (BadFile fault)) = bytes_composed file ≡ Err fault
Composes file (Err (NoMemory error)) = Unit {0}
