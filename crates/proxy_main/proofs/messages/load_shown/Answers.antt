use Rattle.std.proofs.Common.{◌≡◌, ◌∙◌, Ok, Err, ap, sym}
use Rattle.message_files.specs.Files.{text_shown}
use Rattle.message_files.specs.declared.TheConstants.{MESSAGE_LIMIT}
use Rattle.proxy_main.specs.declared.Refusal.TheVariants.{Message}
use Rattle.proxy_main.specs.Answers.{checked_message}
use Rattle.proxy_main.proofs.Loading.{read_told}
use Rattle.proxy_main.proofs.OneFile.{file_refused, file_unread, file_written, message_checked, message_long}
use Rattle.proxy_main.proofs.messages.load_shown.Goals as goal

pub returns-in-Ok-shown-clause-loaded : goal.returns-in-Ok-shown-clause-loaded
returns-in-Ok-shown-clause-loaded g c =
    let exact : text_shown c.in-Ok.bytes.items ≡ Ok c.in-Ok-shown.text.items = ap text_shown (sym c.deref.ensures.value) ∙ c.in-Ok-shown.ensures in
    file_written (g.F.Files.view c.args.files.now).told c.args.path.now checked_message c.in-Ok-shown.text.items
    (read_told MESSAGE_LIMIT _ c.in-Ok.bytes.items checked_message (Ok c.in-Ok-shown.text.items) c.in-Ok.ensures.given (message_checked _ _ exact))

pub returns-in-Err-Bad-clause-stops : goal.returns-in-Err-Bad-clause-stops
returns-in-Err-Bad-clause-stops g c =
    let exact : text_shown c.in-Ok.bytes.items ≡ Err c.in-Err-Bad.bad = ap text_shown (sym c.deref.ensures.value) ∙ (rw c.in-Err-Bad.field-0-is at c.in-Err-Bad.ensures) in (
      file_refused (g.F.Files.view c.args.files.now).told c.args.path.now checked_message (Message c.in-Err-Bad.bad)
          (read_told MESSAGE_LIMIT _ c.in-Ok.bytes.items checked_message (Err (Message c.in-Err-Bad.bad)) c.in-Ok.ensures.given (message_checked _ _ exact)),
      tt,
    )

pub returns-in-Err-TooLong-clause-stops : goal.returns-in-Err-TooLong-clause-stops
returns-in-Err-TooLong-clause-stops g c =
    (file_refused (g.F.Files.view c.args.files.now).told c.args.path.now checked_message _ (message_long _ (c.in-Err-TooLong.ensures.too_long (ap Err c.in-Err-TooLong.field-0-is))), tt)

pub returns-in-Err-Failed-clause-stops : goal.returns-in-Err-Failed-clause-stops
returns-in-Err-Failed-clause-stops g c = file_unread (g.F.Files.view c.args.files.now).told c.args.path.now checked_message
