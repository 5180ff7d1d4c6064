use Rattle.std.proofs.Common.{◌≡◌, ◌∙◌, Ok, Err, ap, sym}
use Rattle.message_files.specs.Files.{bytes_composed}
use Rattle.message_files.specs.declared.TheConstants.{TEXT_LIMIT}
use Rattle.proxy_main.specs.declared.Refusal.TheVariants.{Text}
use Rattle.proxy_main.specs.Answers.{checked_text}
use Rattle.proxy_main.proofs.Loading.{read_told}
use Rattle.proxy_main.proofs.OneFile.{file_refused, file_unread, file_written, text_checked, text_long}
use Rattle.proxy_main.proofs.messages.load_composed.Goals as goal

pub returns-in-Ok-composed-clause-loaded : goal.returns-in-Ok-composed-clause-loaded
returns-in-Ok-composed-clause-loaded g c =
    let exact : bytes_composed c.in-Ok.text.items ≡ Ok c.in-Ok-composed.bytes.items = ap bytes_composed (sym c.deref.ensures.value) ∙ c.in-Ok-composed.ensures in
    file_written (g.F.Files.view c.args.files.now).told c.args.path.now checked_text c.in-Ok-composed.bytes.items
    (read_told TEXT_LIMIT _ c.in-Ok.text.items checked_text (Ok c.in-Ok-composed.bytes.items) c.in-Ok.ensures.given (text_checked _ _ exact))

pub returns-in-Err-Bad-clause-stops : goal.returns-in-Err-Bad-clause-stops
returns-in-Err-Bad-clause-stops g c =
    let exact : bytes_composed c.in-Ok.text.items ≡ Err c.in-Err-Bad.bad = ap bytes_composed (sym c.deref.ensures.value) ∙ (rw c.in-Err-Bad.field-0-is at c.in-Err-Bad.ensures) in (
      file_refused (g.F.Files.view c.args.files.now).told c.args.path.now checked_text (Text c.in-Err-Bad.bad)
          (read_told TEXT_LIMIT _ c.in-Ok.text.items checked_text (Err (Text c.in-Err-Bad.bad)) c.in-Ok.ensures.given (text_checked _ _ exact)),
      tt,
    )

pub returns-in-Err-TooLong-clause-stops : goal.returns-in-Err-TooLong-clause-stops
returns-in-Err-TooLong-clause-stops g c =
    (file_refused (g.F.Files.view c.args.files.now).told c.args.path.now checked_text _ (text_long _ (c.in-Err-TooLong.ensures.too_long (ap Err c.in-Err-TooLong.field-0-is))), tt)

pub returns-in-Err-Failed-clause-stops : goal.returns-in-Err-Failed-clause-stops
returns-in-Err-Failed-clause-stops g c = file_unread (g.F.Files.view c.args.files.now).told c.args.path.now checked_text
