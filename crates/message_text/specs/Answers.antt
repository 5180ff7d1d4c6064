-- What reading a text answers.
use Rattle.std.specs.Prelude.{◌≡◌, ℕ, Result, Ok, Err, Vec}
use Rattle.dbus_header.specs.Message.{Message, spell}
use Rattle.message_text.specs.MessageText.{Text, ReadsAs}
use Rattle.message_text.specs.declared.TextRefusal.{TextRefusal}
use Rattle.message_text.specs.declared.TextRefusal.TheVariants.{Bad, Memory}

-- the bytes of the message that the text gives, or exactly why it gives none, or a want of memory
abbrev pub Answers : {Z : Type 0} → Text → Result (Vec ℕ Z) TextRefusal → Type 0
Answers text (Ok bytes) = (m : Message) × ReadsAs text (Ok m) × (bytes.items ≡ spell m)
Answers text (Err (Bad why)) = ReadsAs text (Err why)
Answers text (Err (Memory error)) = Unit {0}
