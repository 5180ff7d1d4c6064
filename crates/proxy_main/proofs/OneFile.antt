-- A command that reads one file, and writes what the file comes to.
use Rattle.std.proofs.Common.{◌≡◌, ◌<◌, ℕ, List, [], ◌∷◌, Option, Some, None, Result, Ok, Err, IfSome, length, ap}
use Rattle.message_files.specs.Files.{text_shown, text_or_fault, bytes_composed}
use Rattle.message_files.specs.declared.BadMessage.{BadMessage}
use Rattle.message_files.specs.declared.MessageFault.TheVariants.{TooLong}
use Rattle.message_files.specs.declared.BadTextFile.{BadTextFile}
use Rattle.message_files.specs.declared.BadTextFile.TheVariants.{TooLong as TextTooLong}
use Rattle.message_files.specs.declared.TheConstants.{MESSAGE_LIMIT, TEXT_LIMIT}
use Rattle.message_files.proofs.Messages.{above_limit}
use Rattle.message_files.proofs.Texts.{above_limit as text_above}
use Rattle.proxy_main.specs.declared.Refusal.{Refusal}
use Rattle.proxy_main.specs.declared.Refusal.TheVariants.{Message, Text}
use Rattle.proxy_main.specs.Answers.{Refused, Wrote, Untold, Agrees, checked_message, checked_text, checked_recording, or_refused, then_write, without}
use Rattle.proxy_main.specs.FilesRead.{recordings_up_to_bad}
use Rattle.proxy_main.proofs.Loading.{read_err, read_ok, untold-first, without-path}
use Rattle.proxy_main.proofs.Needed.{last}

module _ (told : List ℕ → Option (List ℕ)) (p : List ℕ) (check : List ℕ → Result (List ℕ) Refusal) where
  pub file_written : (bytes : List ℕ) → IfSome (told p) (λ b. check b ≡ Ok bytes) → Agrees (then_write told p check) (Wrote bytes [])
  file_written bytes is = read_ok (told p) check bytes (λ b. Wrote b []) is

  pub file_refused : (refusal : Refusal) → IfSome (told p) (λ b. check b ≡ Err refusal) → Agrees (then_write told p check) (Refused refusal)
  file_refused refusal is = read_err (told p) check refusal (λ b. Wrote b []) is

  pub file_unread : then_write (without p told) p check ≡ Untold
  file_unread = untold-first _ check _ (without-path p told)

-- the one file is needed
pub one_needed : (told : List ℕ → Option (List ℕ)) (p : List ℕ) → recordings_up_to_bad told (p ∷ []) ≡ p ∷ []
one_needed told p = ap (λ (more : List (List ℕ)). p ∷ more) (last (told p) checked_recording)

-- ---- what the checks say

pub message_checked : (bytes : List ℕ) (r : Result (List ℕ) BadMessage) → text_shown bytes ≡ r → checked_message bytes ≡ or_refused Message r
unfolding checked_message
message_checked bytes r is = ap (or_refused Message) is

pub message_long : (told : Option (List ℕ)) → IfSome told (λ bytes. MESSAGE_LIMIT < length bytes) → IfSome told (λ bytes. checked_message bytes ≡ Err (Message (record { kind = TooLong; at = MESSAGE_LIMIT })))
message_long None long = tt
message_long (Some bytes) long = message_checked bytes _ (ap text_or_fault (above_limit bytes long))

pub text_checked : (bytes : List ℕ) (r : Result (List ℕ) BadTextFile) → bytes_composed bytes ≡ r → checked_text bytes ≡ or_refused Text r
unfolding checked_text
text_checked bytes r is = ap (or_refused Text) is

pub text_long : (told : Option (List ℕ)) → IfSome told (λ bytes. TEXT_LIMIT < length bytes) → IfSome told (λ bytes. checked_text bytes ≡ Err (Text TextTooLong))
text_long None long = tt
text_long (Some bytes) long = text_checked bytes _ (text_above bytes long)
