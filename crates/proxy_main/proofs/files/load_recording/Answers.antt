use Rattle.std.proofs.Common.{◌≡◌, ◌∙◌, Ok, Err, ap, sym, subst}
use Rattle.recording.specs.Gives.{Fails}
use Rattle.recording.specs.declared.TheConstants.{RECORDING_LIMIT}
use Rattle.recording.specs.Seen.{recording_seen}
use Rattle.recording.specs.Recording.{recording_of}
use Rattle.proxy_main.specs.declared.Refusal.TheVariants.{Recording as BadFile}
use Rattle.proxy_main.specs.Answers.{checked_recording}
use Rattle.proxy_main.proofs.Loading.{recording_long, read_told, recording_read}
use Rattle.proxy_main.proofs.files.load_recording.Goals as goal

pub returns-in-Ok-read-clause-loads : goal.returns-in-Ok-read-clause-loads
returns-in-Ok-read-clause-loads g c =
    let exact : recording_of c.in-Ok.bytes.items ≡ Ok (recording_seen c.in-Ok-read.recording) = ap recording_of (sym c.deref.ensures.value) ∙ c.in-Ok-read.ensures.exact in
    read_told RECORDING_LIMIT _ c.in-Ok.bytes.items checked_recording (Ok (recording_seen c.in-Ok-read.recording)) c.in-Ok.ensures.given (recording_read _ _ exact)

pub returns-in-Err-Bad-clause-loads : goal.returns-in-Err-Bad-clause-loads
returns-in-Err-Bad-clause-loads g c =
    let exact : recording_of c.in-Ok.bytes.items ≡ Err c.in-Err-Bad.fault = ap recording_of (sym c.deref.ensures.value)
    ∙ subst (λ x. Fails x (recording_of c.deref.result.now)) c.in-Err-Bad.field-0-is c.in-Err-Bad.ensures.exact in
    (read_told RECORDING_LIMIT _ c.in-Ok.bytes.items checked_recording (Err (BadFile c.in-Err-Bad.fault)) c.in-Ok.ensures.given (recording_read _ _ exact), tt)

pub returns-in-Err-TooLong-clause-loads : goal.returns-in-Err-TooLong-clause-loads
returns-in-Err-TooLong-clause-loads g c = (recording_long _ c.too_long.result c.too_long.ensures.one (c.in-Err-TooLong.ensures.too_long (ap Err c.in-Err-TooLong.field-0-is)), tt)
